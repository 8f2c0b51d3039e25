use Rattle.std.proofs.Common.{[], length, lit<, arith, refl, string_bytes}
use Rattle.std.proofs.lemmas.List.{length_push}
use Rattle.std.proofs.lemmas.Iterator.Splits.{YieldsList-from_str_split}
use Rattle.std.proofs.lemmas.Iterator.Consumers.{YieldsList-at, YieldsList-turn, YieldsList-end}
use Rattle.otel_base.proofs.shared.Steps.{fold_all}
use Rattle.otel_sdk_base.specs.ResourceTexts.{pieces}
use Rattle.otel_sdk.specs.EnvHeaders as spec
use Rattle.otel_sdk.proofs.EnvLemmas.{folded_more}
use Rattle.otel_sdk.proofs.env.headers.listed_headers.Goals as goal

pub loop-piece-preserved : goal.loop-piece-preserved
loop-piece-preserved c =
    let road = YieldsList-at c.into_iter-piece-iterator.ensures.into_iter_gives (YieldsList-from_str_split 44 c.args.text.now (lit< tt) c.split-piece-items.ensures.text c.split-piece-items.ensures.has_more c.split-piece-items.ensures.pattern) in
    let turn = YieldsList-turn road c.loop-piece.yielded _ c.loop-piece.yielded_by _ _ c.in-Some.piece c.in-Some.is c.next.ensures.steps in
    folded_more spec.with_header (pieces c.args.text.now) (length c.loop-piece.yielded) _ c.in-Some.piece.now (string_bytes c.loop-piece.listed) _ (length_push c.loop-piece.yielded c.in-Some.piece) turn c.in_ok-add_header.ensures c.loop-piece.invariant

pub returns : goal.returns
returns c =
    let road = YieldsList-at c.into_iter-piece-iterator.ensures.into_iter_gives (YieldsList-from_str_split 44 c.args.text.now (lit< tt) c.split-piece-items.ensures.text c.split-piece-items.ensures.has_more c.split-piece-items.ensures.pattern) in
    let t = YieldsList-end road c.loop-piece.yielded _ c.loop-piece.yielded_by _ _ c.in-None.is c.next.ensures.steps in
    fold_all spec.with_header [] (string_bytes c.loop-piece.listed) (pieces c.args.text.now) (pieces c.args.text.now) (length c.loop-piece.yielded) refl (omega (arith, t.1)) c.loop-piece.invariant
