use Rattle.std.proofs.Common.{◌≡◌, Some, None, length, lit<, arith, sym, ap, ◌∙◌, refl, eqb, of_calls}
use Rattle.std.specs.Prelude.{option_map}
use Rattle.std.proofs.lemmas.List.{length_push}
use Rattle.std.proofs.lemmas.List.FromFn.{length-enumerate_from}
use Rattle.std.proofs.lemmas.Iterator.Splits.{YieldsList-from_str_split}
use Rattle.std.proofs.lemmas.Iterator.Consumers.{YieldsList-at, YieldsList-turn, YieldsList-end, YieldsList-from_enumerate}
use Rattle.otel_base.specs.View.{attribute_of}
use Rattle.otel_sdk_base.specs.ResourceTexts.{pieces, fault, attributes_in, attribute_in}
use Rattle.otel_sdk_base.proofs.PieceTurns.{goes_on, passes_by, fails, ends, piece_at, starts}
use Rattle.otel_sdk_base.proofs.resource.texts.read_attributes.Goals as goal

pub loop-number-init : goal.loop-number-init
loop-number-init c =
    (search of_calls, search of_calls, starts (pieces c.args.text.now), rw c.new-attributes.ensures.items refl)

pub loop-number-preserved-in-Continue-branch-3 : goal.loop-number-preserved-in-Continue-branch-3
loop-number-preserved-in-Continue-branch-3 c =
    let ps = pieces c.args.text.now in
    let n = length c.loop-number.yielded in
    let road = YieldsList-at c.into_iter-number-iterator.ensures.into_iter_gives (YieldsList-from_enumerate (YieldsList-at c.enumerate-number-items.ensures.source (YieldsList-from_str_split 44 c.args.text.now (lit< tt) c.split.ensures.text c.split.ensures.has_more c.split.ensures.pattern)) c.enumerate-number-items.ensures.count) in
    let t = piece_at ps n c.in-Some.number c.in-Some.piece.now (YieldsList-turn road c.loop-number.yielded _ c.loop-number.yielded_by _ _ (c.in-Some.number, c.in-Some.piece) c.in-Some.is c.next.ensures.steps) in
    let is : Some (attribute_of c.in-Some-2.attribute) ≡ attribute_in c.in-Some.piece.now = ap (option_map attribute_of) (sym c.in-Some-2.is) ∙ c.in_ok-attribute.ensures in
    let more = goes_on ps n c.in-Some.piece.now t.1 _ _ _ (attributes_in c.args.text.now) (fault c.args.text.now) (length_push c.loop-number.yielded (c.in-Some.number, c.in-Some.piece)) is c.loop-number.invariant.2 c.loop-number.invariant.3 in
    (search of_calls, search of_calls, more.0, rw c.in_ok-put-in-Some-2.ensures.ok more.1)

pub returns-then-not-is_empty : goal.returns-then-not-is_empty
returns-then-not-is_empty c =
    let ps = pieces c.args.text.now in
    let n = length c.loop-number.yielded in
    let road = YieldsList-at c.into_iter-number-iterator.ensures.into_iter_gives (YieldsList-from_enumerate (YieldsList-at c.enumerate-number-items.ensures.source (YieldsList-from_str_split 44 c.args.text.now (lit< tt) c.split.ensures.text c.split.ensures.has_more c.split.ensures.pattern)) c.enumerate-number-items.ensures.count) in
    let t = piece_at ps n c.in-Some.number c.in-Some.piece.now (YieldsList-turn road c.loop-number.yielded _ c.loop-number.yielded_by _ _ (c.in-Some.number, c.in-Some.piece) c.in-Some.is c.next.ensures.steps) in
    let is : None ≡ attribute_in c.in-Some.piece.now = ap (option_map attribute_of) (sym c.in-None-2.is) ∙ c.in_ok-attribute.ensures in
    let some = ap (λ t. eqb (length t) 0) (sym c.cut_blanks.ensures) ∙ sym c.is_empty.ensures ∙ c.if-not-is_empty.true in
    fails ps n c.in-Some.piece.now t.1 (fault c.args.text.now) is some c.loop-number.invariant.2 ∙ ap Some (sym t.0)

pub loop-number-preserved : goal.loop-number-preserved
loop-number-preserved c =
    let ps = pieces c.args.text.now in
    let n = length c.loop-number.yielded in
    let road = YieldsList-at c.into_iter-number-iterator.ensures.into_iter_gives (YieldsList-from_enumerate (YieldsList-at c.enumerate-number-items.ensures.source (YieldsList-from_str_split 44 c.args.text.now (lit< tt) c.split.ensures.text c.split.ensures.has_more c.split.ensures.pattern)) c.enumerate-number-items.ensures.count) in
    let t = piece_at ps n c.in-Some.number c.in-Some.piece.now (YieldsList-turn road c.loop-number.yielded _ c.loop-number.yielded_by _ _ (c.in-Some.number, c.in-Some.piece) c.in-Some.is c.next.ensures.steps) in
    let is : None ≡ attribute_in c.in-Some.piece.now = ap (option_map attribute_of) (sym c.in-None-2.is) ∙ c.in_ok-attribute.ensures in
    let none = ap (λ t. eqb (length t) 0) (sym c.cut_blanks.ensures) ∙ sym c.is_empty.ensures ∙ c.if-not-is_empty.false in
    let more = passes_by ps n c.in-Some.piece.now t.1 _ _ (attributes_in c.args.text.now) (fault c.args.text.now) (length_push c.loop-number.yielded (c.in-Some.number, c.in-Some.piece)) is none c.loop-number.invariant.2 c.loop-number.invariant.3 in
    (search of_calls, search of_calls, more.0, more.1)

pub returns : goal.returns
returns c =
    let ps = pieces c.args.text.now in
    let road = YieldsList-at c.into_iter-number-iterator.ensures.into_iter_gives (YieldsList-from_enumerate (YieldsList-at c.enumerate-number-items.ensures.source (YieldsList-from_str_split 44 c.args.text.now (lit< tt) c.split.ensures.text c.split.ensures.has_more c.split.ensures.pattern)) c.enumerate-number-items.ensures.count) in
    let t = YieldsList-end road c.loop-number.yielded _ c.loop-number.yielded_by _ _ c.in-None.is c.next.ensures.steps in
    ends ps (length c.loop-number.yielded) _ (attributes_in c.args.text.now) (fault c.args.text.now) (omega (arith, t.1, length-enumerate_from 0 ps)) c.loop-number.invariant.2 c.loop-number.invariant.3
