use Rattle.std.proofs.Common.{◌∙◌, ap, refl}
use Rattle.std.specs.List.{flat_map}
use Rattle.std.proofs.Output.{has_written_of_eq}
use Rattle.otel_ids.specs.Ids.{two_digits}
use Rattle.otel_ids.proofs.shared.Numerals.{bytes_text}
use Rattle.otel_ids.proofs.span_id.SpanIdDisplay.fmt.Goals as goal

pub returns-clause-writes : goal.returns-clause-writes
returns-clause-writes g c = λ plain ok. has_written_of_eq _ _ _ _ _ (ap (flat_map two_digits) c.to_bytes.ensures.bytes ∙ bytes_text 8 16 c.args.self.now refl) (c.write_hex.ensures plain ok)
