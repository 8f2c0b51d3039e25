use Rattle.std.proofs.Common.{◌∙◌, arith}
use Rattle.otel_ids.proofs.HexDigits.{encoded}
use Rattle.otel_ids.proofs.digits.hex_text.Goals as goal

pub returns : goal.returns
returns c = c.in-Ok-from_utf8.ensures.cases.0 ∙ c.in-Ok.ensures.written ∙ encoded c.args.bytes.now (λ i. omega (arith, c.type_inv.bytes i))
