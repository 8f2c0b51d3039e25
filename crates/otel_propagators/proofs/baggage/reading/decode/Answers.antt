use Rattle.std.proofs.Common.{◌≤◌, length, sym, ap, subst, ◌∙◌, arith}
use Rattle.std.specs.Prelude.{IsUtf8}
use Rattle.std.proofs.lemmas.List.{length-take-le}
use Rattle.percent_encoding.specs.Percent.{percent_decode}
use Rattle.otel_propagators.proofs.PieceReads.{decoded_some, decoded_none}
use Rattle.otel_propagators.proofs.baggage.reading.decode.Goals as goal

pub returns-in-Ok : goal.returns-in-Ok
returns-in-Ok c =
    let front = c.in_ok-len.ensures in
    let few : length (percent_decode c.args.value.now) ≤ length c.args.room.now = omega (arith, ap length front.1, length-take-le c.in_ok-len.len c.fill.new.room front.0, front.0, c.fill.auto.room) in
    decoded_some _ _ (percent_decode c.args.value.now) (c.in-Ok.ensures.cases.0 ∙ front.1) (subst IsUtf8 front.1 c.in-Ok.ensures.cases.1) few

pub returns-in-Err : goal.returns-in-Err
returns-in-Err c = decoded_none _ (percent_decode c.args.value.now) (λ u. c.in-Err.ensures.cases.0 (subst IsUtf8 (sym c.in_ok-len.ensures.1) u))
