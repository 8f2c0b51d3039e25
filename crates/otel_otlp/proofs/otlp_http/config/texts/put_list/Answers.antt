use Rattle.std.proofs.Common.{◌≡◌, Err, IfErr, length, lit<, arith, sym, subst}
use Rattle.std.proofs.lemmas.List.{length_push}
use Rattle.std.proofs.lemmas.Iterator.Splits.{YieldsList-from_str_split}
use Rattle.std.proofs.lemmas.Iterator.Consumers.{YieldsList-at, YieldsList-turn, YieldsList-end}
use Rattle.otel_sdk_base.specs.ResourceTexts.{pieces}
use Rattle.otel_otlp.specs.HttpTexts.{NamesPiece, OneIsRefused}
use Rattle.otel_otlp.specs.HttpConfig.{IfHeader}
use Rattle.otel_otlp.proofs.HeaderLists.{one_more, all_set, named, one_refused}
use Rattle.otel_otlp.proofs.HttpDelivery.{is_error}
use Rattle.otel_otlp.proofs.otlp_http.config.texts.put_list.Goals as goal

pub loop-piece-preserved : goal.loop-piece-preserved
loop-piece-preserved c =
    let road = YieldsList-at c.into_iter-piece-iterator.ensures.into_iter_gives (YieldsList-from_str_split 44 c.args.list.now (lit< tt) c.split-piece-items.ensures.text c.split-piece-items.ensures.has_more c.split-piece-items.ensures.pattern) in
    let turn = YieldsList-turn road c.loop-piece.yielded _ c.loop-piece.yielded_by _ _ c.in-Some.piece c.in-Some.is c.next.ensures.steps in
    one_more (pieces c.args.list.now) (length c.loop-piece.yielded) c.in-Some.piece.now turn _ c.args.headers.now c.loop-piece.headers c.put_piece.new.headers
    (length_push c.loop-piece.yielded c.in-Some.piece) c.in_ok-put_piece.ensures.ok c.in_ok-put_piece.ensures.refused c.loop-piece.invariant

pub returns-in_err-put_piece-clause-err : goal.returns-in_err-put_piece-clause-err
returns-in_err-put_piece-clause-err c =
    let road = YieldsList-at c.into_iter-piece-iterator.ensures.into_iter_gives (YieldsList-from_str_split 44 c.args.list.now (lit< tt) c.split-piece-items.ensures.text c.split-piece-items.ensures.has_more c.split-piece-items.ensures.pattern) in
    let turn = YieldsList-turn road c.loop-piece.yielded _ c.loop-piece.yielded_by _ _ c.in-Some.piece c.in-Some.is c.next.ensures.steps in
    let e = c.in_err-put_piece.field-0.0 in
    let failed : c.from_residual-in_err-put_piece.result ≡ Err e = is_error c.from_residual-in_err-put_piece.result e c.from_residual-in_err-put_piece.ensures.1 in
    subst (λ r. IfErr r (NamesPiece c.args.list.now)) (sym failed) (named c.args.list.now (length c.loop-piece.yielded) c.in-Some.piece.now turn e c.in_err-put_piece.ensures.err)

pub returns-in_err-put_piece-clause-why : goal.returns-in_err-put_piece-clause-why
returns-in_err-put_piece-clause-why c =
    let road = YieldsList-at c.into_iter-piece-iterator.ensures.into_iter_gives (YieldsList-from_str_split 44 c.args.list.now (lit< tt) c.split-piece-items.ensures.text c.split-piece-items.ensures.has_more c.split-piece-items.ensures.pattern) in
    let turn = YieldsList-turn road c.loop-piece.yielded _ c.loop-piece.yielded_by _ _ c.in-Some.piece c.in-Some.is c.next.ensures.steps in
    let e = c.in_err-put_piece.field-0.0 in
    let failed : c.from_residual-in_err-put_piece.result ≡ Err e = is_error c.from_residual-in_err-put_piece.result e c.from_residual-in_err-put_piece.ensures.1 in
    subst (λ r. IfErr r (IfHeader (OneIsRefused c.args.headers.now c.args.list.now))) (sym failed)
    (one_refused c.args.list.now (length c.loop-piece.yielded) c.in-Some.piece.now turn c.args.headers.now c.loop-piece.headers c.loop-piece.invariant e c.in_err-put_piece.ensures.why)

pub returns-clause-ok : goal.returns-clause-ok
returns-clause-ok c =
    let road = YieldsList-at c.into_iter-piece-iterator.ensures.into_iter_gives (YieldsList-from_str_split 44 c.args.list.now (lit< tt) c.split-piece-items.ensures.text c.split-piece-items.ensures.has_more c.split-piece-items.ensures.pattern) in
    let t = YieldsList-end road c.loop-piece.yielded _ c.loop-piece.yielded_by _ _ c.in-None.is c.next.ensures.steps in
    (all_set (pieces c.args.list.now) (length c.loop-piece.yielded) c.args.headers.now c.loop-piece.headers (omega (arith, t.1)) c.loop-piece.invariant).0

pub returns-clause-headers : goal.returns-clause-headers
returns-clause-headers c =
    let road = YieldsList-at c.into_iter-piece-iterator.ensures.into_iter_gives (YieldsList-from_str_split 44 c.args.list.now (lit< tt) c.split-piece-items.ensures.text c.split-piece-items.ensures.has_more c.split-piece-items.ensures.pattern) in
    let t = YieldsList-end road c.loop-piece.yielded _ c.loop-piece.yielded_by _ _ c.in-None.is c.next.ensures.steps in
    record {
      readable = c.in_ok-check_list.ensures.ok;
      allowed = (all_set (pieces c.args.list.now) (length c.loop-piece.yielded) c.args.headers.now c.loop-piece.headers (omega (arith, t.1)) c.loop-piece.invariant).1;
    }
