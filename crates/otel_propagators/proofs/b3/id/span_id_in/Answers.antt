use Rattle.std.proofs.Common.{◌∙◌, sym, arith}
use Rattle.otel_propagators.proofs.B3Reads.{id_from}
use Rattle.otel_propagators.proofs.b3.id.span_id_in.Goals as goal

pub returns : goal.returns
returns c = id_from 64 16 c.args.text.now c.from_hex.result c.ok.result (omega arith) (omega arith) (sym c.is_number.ensures ∙ c.if-not-is_number.false) c.from_hex.ensures.returned c.ok.ensures.value
