use Rattle.std.proofs.Common.{◌<◌, Some, length, refl, subst, ap, ◌∙◌, arith}
use Rattle.std.proofs.lemmas.List.{set-get_or, get_or_default}
use Rattle.std.specs.Prelude.{slice_set, IfSome}
use Rattle.std.specs.Vec.{vec_len}
use Rattle.otel_context.proofs.SpanSlots.{OnSome-map, keeps-set, replaces-set}
use Rattle.otel_context.proofs.span.spans.span_mut.Goals as goal

pub returns-in-Some : goal.returns-in-Some
returns-in-Some g c =
    let ss = c.args.slots.now.items in
    let i = c.in-Some.slot in
    let s = c.index_mut.result.now in
    let e = c.index_mut.ensures.value in
    let l : i < length ss = omega (arith, subst (λ o. IfSome o (λ j. j < vec_len c.args.slots.now)) c.in-Some.is c.requires, c.args.slots.now.ok.0) in
    let f = c.span_mut.follows in (
      (
        refl,
        λ w. (
          keeps-set i ss s (f.lender w) l e (f.holds w).0,
          OnSome-map c.span_mut.result (λ o. rw c.in-Some.is (replaces-set i ss s (f.lender w) w l e (f.holds w).0 o)) (f.holds w).1,
        ),
        rw f.holds-at-none (ap (slice_set ss i) e ∙ set-get_or ss i s),
      ),
      record { writes_back = tt; value = rw c.in-Some.is (λ d. c.span_mut.ensures.value ∙ ap (λ t. Some t.span) (e ∙ get_or_default ss i s d l)) },
    )
