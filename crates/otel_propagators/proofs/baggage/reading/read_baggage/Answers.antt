use Rattle.std.proofs.Common.{length, lit<, arith}
use Rattle.std.proofs.lemmas.List.{length_push}
use Rattle.std.proofs.lemmas.Iterator.Splits.{YieldsList-from_str_split}
use Rattle.std.proofs.lemmas.Iterator.Consumers.{YieldsList-at, YieldsList-turn, YieldsList-end}
use Rattle.otel_propagators.specs.BaggageReading.{pieces, read_baggage}
use Rattle.otel_propagators.proofs.PieceReads.{goes_on, ends}
use Rattle.otel_propagators.proofs.baggage.reading.read_baggage.Goals as goal

pub loop-piece-preserved : goal.loop-piece-preserved
loop-piece-preserved c =
    let road = YieldsList-at c.into_iter-piece-iterator.ensures.into_iter_gives (YieldsList-from_str_split 44 c.args.text.now (lit< tt) c.split-piece-items.ensures.text c.split-piece-items.ensures.has_more c.split-piece-items.ensures.pattern) in
    let turn = YieldsList-turn road c.loop-piece.yielded _ c.loop-piece.yielded_by _ _ c.in-Some.piece c.in-Some.is c.next.ensures.steps in
    goes_on (pieces c.args.text.now) (length c.loop-piece.yielded) _ c.in-Some.piece.now c.loop-piece.baggage _ (read_baggage c.args.text.now) (length_push c.loop-piece.yielded c.in-Some.piece) turn c.in_ok-insert_piece.ensures c.loop-piece.invariant

pub returns : goal.returns
returns c =
    let road = YieldsList-at c.into_iter-piece-iterator.ensures.into_iter_gives (YieldsList-from_str_split 44 c.args.text.now (lit< tt) c.split-piece-items.ensures.text c.split-piece-items.ensures.has_more c.split-piece-items.ensures.pattern) in
    let t = YieldsList-end road c.loop-piece.yielded _ c.loop-piece.yielded_by _ _ c.in-None.is c.next.ensures.steps in
    ends (pieces c.args.text.now) (length c.loop-piece.yielded) c.loop-piece.baggage (read_baggage c.args.text.now) (omega (arith, t.1)) c.loop-piece.invariant
