use Rattle.std.proofs.Common.{◌∙◌, ap}
use Rattle.std.proofs.Output.{has_written_of_eq, has_written_styled_of_eq}
use Rattle.otel_ids.specs.Ids.{bytes_digits, hex_styled}
use Rattle.otel_ids.proofs.Significant.{digits_of_id}
use Rattle.otel_ids.proofs.span_id.SpanIdLowerHex.fmt.Goals as goal

pub returns-clause-writes : goal.returns-clause-writes
returns-clause-writes g c = λ plain ok.
    let text = ap bytes_digits c.to_bytes.ensures.bytes ∙ digits_of_id c.args.self.now c.to_bytes.ensures.below in
    has_written_of_eq _ _ _ _ _ text (c.write_number.ensures.writes plain ok)

pub returns-clause-styled : goal.returns-clause-styled
returns-clause-styled g c = λ flush ok.
    let text = ap bytes_digits c.to_bytes.ensures.bytes ∙ digits_of_id c.args.self.now c.to_bytes.ensures.below in
    has_written_styled_of_eq _ _ _ _ _ (ap (hex_styled c.args.f.now) text) (c.write_number.ensures.styled flush ok)
