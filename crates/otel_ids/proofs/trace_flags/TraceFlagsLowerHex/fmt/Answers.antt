use Rattle.std.proofs.Common.{ap, arith}
use Rattle.std.proofs.Output.{has_written_of_eq, has_written_styled_of_eq}
use Rattle.otel_ids.specs.Ids.{hex_styled}
use Rattle.otel_ids.proofs.Significant.{digits_of_byte}
use Rattle.otel_ids.proofs.trace_flags.TraceFlagsLowerHex.fmt.Goals as goal

pub returns-clause-writes : goal.returns-clause-writes
returns-clause-writes g c = λ plain ok.
    has_written_of_eq _ _ _ _ _ (digits_of_byte c.args.self.now c.to_u8.result c.to_u8.ensures (omega arith)) (c.write_number.ensures.writes plain ok)

pub returns-clause-styled : goal.returns-clause-styled
returns-clause-styled g c = λ flush ok.
    has_written_styled_of_eq _ _ _ _ _ (ap (hex_styled c.args.f.now) (digits_of_byte c.args.self.now c.to_u8.result c.to_u8.ensures (omega arith))) (c.write_number.ensures.styled flush ok)
