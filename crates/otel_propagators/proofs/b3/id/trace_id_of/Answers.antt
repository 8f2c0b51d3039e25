use Rattle.std.proofs.Common.{◌∙◌, ◌≤◌, ◌^◌, sym, arith}
use Rattle.std.proofs.Math.Nat.{pow-le-pow_right}
use Rattle.otel_propagators.proofs.B3Reads.{id_from}
use Rattle.otel_propagators.proofs.b3.id.trace_id_of.Goals as goal

pub returns : goal.returns
returns c =
    let fits : 16 ^ c.args.count ≤ 16 ^ 32 = pow-le-pow_right (omega arith) c.requires.fits in
    id_from 128 c.args.count c.args.text.now c.from_hex.result c.ok.result c.requires.some (omega (arith, fits)) (sym c.is_number.ensures ∙ c.if-not-is_number.false) c.from_hex.ensures.returned c.ok.ensures.value
