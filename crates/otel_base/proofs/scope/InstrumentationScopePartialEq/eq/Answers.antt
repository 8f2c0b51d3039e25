use Rattle.std.proofs.Common.{◌≡◌, ◌∙◌, sym, ap, map}
use Rattle.std.specs.List.{slice_get}
use Rattle.std.specs.Option.{option_eq}
use Rattle.std.specs.Cmp.Lexicographic.{pointwise}
use Rattle.otel_base.specs.KeyValue as attribute
use Rattle.otel_base.specs.View.{attribute_of}
use Rattle.otel_base.specs.InstrumentationScope as scope
use Rattle.otel_base.specs.InstrumentationScope.{Scope}
use Rattle.otel_base.proofs.Walk.{scopes_from_walk, same_from_test}
use Rattle.otel_base.proofs.scope.InstrumentationScopePartialEq.eq.Goals as goal

by_walk : (c : goal.After-same_in_order)
    → c.same_in_order.result ≡ scope.eq c.args.self.now c.args.other.now
by_walk c =
    let a : Scope = c.args.self.now in
    let b : Scope = c.args.other.now in
    let s = c.self.inside in
    let o = c.other.inside in
    scopes_from_walk a b c.same_in_order.result s.attributes.items o.attributes.items
    s.positions.items o.positions.items c.self.invariant c.other.invariant
    (ap (λ v. v.attributes) c.self.view_is) (ap (λ v. v.attributes) c.other.view_is)
    (sym c.has_texts_of.ensures ∙ c.if-has_texts_of.true)
    (c.same_in_order.ensures
    ∙ (λ i. pointwise (option_eq attribute.eq)
    (map (slice_get (map attribute_of (c.deref.ensures.value i)))
    (c.deref-then-has_texts_of.ensures.value i))
    (map (slice_get (map attribute_of (c.deref-then-has_texts_of-2.ensures.value i)))
    (c.deref-then-has_texts_of-3.ensures.value i))))

pub returns-then-has_texts_of-clause-value : goal.returns-then-has_texts_of-clause-value
returns-then-has_texts_of-clause-value c = by_walk c

pub returns-then-has_texts_of-clause-same : goal.returns-then-has_texts_of-clause-same
returns-then-has_texts_of-clause-same c =
    same_from_test c.args.self.now c.args.other.now c.same_in_order.result (by_walk c)
