use Rattle.std.proofs.Common.{◌≡◌, ◌++◌, length, lit<, arith}
use Rattle.std.proofs.lemmas.List.{length_push}
use Rattle.std.proofs.lemmas.Iterator.Splits.{YieldsList-from_str_split}
use Rattle.std.proofs.lemmas.Iterator.Consumers.{YieldsList-at, YieldsList-turn, YieldsList-end}
use Rattle.otel_sdk_base.specs.ResourceTexts.{pieces}
use Rattle.otel_sdk.specs.EnvHeaders as spec
use Rattle.otel_sdk.proofs.EnvLemmas.{warned_more, warned_all}
use Rattle.otel_sdk.proofs.env.headers.warn_of_pieces.Goals as goal

pub loop-piece-preserved : goal.loop-piece-preserved
loop-piece-preserved c =
    let text = c.args.text.now in
    let road = YieldsList-at c.into_iter-piece-iterator.ensures.into_iter_gives (YieldsList-from_str_split 44 text (lit< tt) c.split-piece-items.ensures.text c.split-piece-items.ensures.has_more c.split-piece-items.ensures.pattern) in
    let turn = YieldsList-turn road c.loop-piece.yielded _ c.loop-piece.yielded_by _ _ c.in-Some.piece c.in-Some.is c.next.ensures.steps in
    let step : c.warn.new.warnings.items ≡ c.loop-piece.warnings.items ++ spec.piece_warnings c.args.name.now c.in-Some.piece.now =
    rw (← c.cut_blanks-piece.ensures, ← c.in_ok-understood.ensures, ← c.shown.ensures) c.in_ok-warn.ensures in
    warned_more (spec.piece_warnings c.args.name.now) (pieces text) (length c.loop-piece.yielded) _ c.in-Some.piece.now c.args.warnings.now.items c.loop-piece.warnings.items _ (length_push c.loop-piece.yielded c.in-Some.piece) turn step c.loop-piece.invariant

pub returns : goal.returns
returns c =
    let text = c.args.text.now in
    let road = YieldsList-at c.into_iter-piece-iterator.ensures.into_iter_gives (YieldsList-from_str_split 44 text (lit< tt) c.split-piece-items.ensures.text c.split-piece-items.ensures.has_more c.split-piece-items.ensures.pattern) in
    let t = YieldsList-end road c.loop-piece.yielded _ c.loop-piece.yielded_by _ _ c.in-None.is c.next.ensures.steps in
    warned_all (spec.piece_warnings c.args.name.now) (pieces text) (length c.loop-piece.yielded) c.args.warnings.now.items c.loop-piece.warnings.items (omega (arith, t.1)) c.loop-piece.invariant
