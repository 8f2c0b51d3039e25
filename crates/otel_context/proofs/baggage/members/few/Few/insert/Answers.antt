use Rattle.std.proofs.Common.{◌≡◌, Some, None, rules, sym, ap, subst, ◌∙◌, position}
use Rattle.std.specs.Prelude.{slice_set}
use Rattle.std.specs.List.{IsDistinct}
use Rattle.std.specs.Map.{keys_of, lookup}
use Rattle.std.specs.Str.{bytes_eq}
use Rattle.indexmap.proofs.MapLemmas.{Missing-position}
use Rattle.indexmap.specs.IndexMap.{insert_entry}
use Rattle.otel_context.proofs.BaggageStores.{insert_found, insert_new, insert_distinct, value_found}
use Rattle.otel_context.proofs.baggage.members.few.Few.insert.Goals as goal

pub invariant_of-self : goal.invariant_of-self
invariant_of-self c =
    let es = c.self.inside.entries.items in
    let k = c.args.key in
    let i = c.in-Some.index in
    let x = c.index_mut.result.now in
    let p : position (bytes_eq k) (keys_of es) ≡ Some i =
    ap (λ l. position (bytes_eq k) (keys_of l)) c.self.view_is ∙ ap (λ t. position (bytes_eq t) (keys_of c.args.self.now)) (sym c.as_str.ensures) ∙ sym c.index_of.ensures ∙ c.in-Some.is in
    let e = ap (λ w. slice_set es i (x.0, w)) c.replace-old.ensures.after ∙ insert_found es k c.args.pair i x p c.index_mut.ensures.value in
    subst (λ l. IsDistinct bytes_eq (keys_of l)) (sym e) (insert_distinct es k c.args.pair c.self.invariant)

pub returns-in-Some-clause-old : goal.returns-in-Some-clause-old
returns-in-Some-clause-old c =
    let es = c.self.inside.entries.items in
    let k = c.args.key in
    let i = c.in-Some.index in
    let x = c.index_mut.result.now in
    let p : position (bytes_eq k) (keys_of es) ≡ Some i =
    ap (λ l. position (bytes_eq k) (keys_of l)) c.self.view_is ∙ ap (λ t. position (bytes_eq t) (keys_of c.args.self.now)) (sym c.as_str.ensures) ∙ sym c.index_of.ensures ∙ c.in-Some.is in
    ap (λ w. Some w) c.replace-old.ensures.value ∙ value_found es k i x p c.index_mut.ensures.value ∙ ap (lookup (bytes_eq k)) c.self.view_is

pub returns-in-Some-clause-entries : goal.returns-in-Some-clause-entries
returns-in-Some-clause-entries c =
    let es = c.self.inside.entries.items in
    let k = c.args.key in
    let i = c.in-Some.index in
    let x = c.index_mut.result.now in
    let p : position (bytes_eq k) (keys_of es) ≡ Some i =
    ap (λ l. position (bytes_eq k) (keys_of l)) c.self.view_is ∙ ap (λ t. position (bytes_eq t) (keys_of c.args.self.now)) (sym c.as_str.ensures) ∙ sym c.index_of.ensures ∙ c.in-Some.is in
    ap (λ w. slice_set es i (x.0, w)) c.replace-old.ensures.after
    ∙ insert_found es k c.args.pair i x p c.index_mut.ensures.value
    ∙ ap (λ l. insert_entry bytes_eq l k c.args.pair) c.self.view_is

pub returns-in-Some-clause-distinct : goal.returns-in-Some-clause-distinct
returns-in-Some-clause-distinct c =
    let es = c.self.inside.entries.items in
    let k = c.args.key in
    let i = c.in-Some.index in
    let x = c.index_mut.result.now in
    let p : position (bytes_eq k) (keys_of es) ≡ Some i =
    ap (λ l. position (bytes_eq k) (keys_of l)) c.self.view_is ∙ ap (λ t. position (bytes_eq t) (keys_of c.args.self.now)) (sym c.as_str.ensures) ∙ sym c.index_of.ensures ∙ c.in-Some.is in
    let e = ap (λ w. slice_set es i (x.0, w)) c.replace-old.ensures.after ∙ insert_found es k c.args.pair i x p c.index_mut.ensures.value in
    subst (λ l. IsDistinct bytes_eq (keys_of l)) (sym e) (insert_distinct es k c.args.pair c.self.invariant)

pub returns-in_err-push-clause-absent : goal.returns-in_err-push-clause-absent
returns-in_err-push-clause-absent c =
    let k = c.args.key in
    let p : position (bytes_eq k) (keys_of c.args.self.now) ≡ None =
    ap (λ t. position (bytes_eq t) (keys_of c.args.self.now)) (sym c.as_str.ensures) ∙ sym c.index_of.ensures ∙ c.in_default.is in
    let none : lookup (bytes_eq k) c.args.self.now ≡ None = (Missing-position (bytes_eq k) c.args.self.now p).value in
    search (rules, none)

pub invariant_of-self-2 : goal.invariant_of-self-2
invariant_of-self-2 c =
    let es = c.self.inside.entries.items in
    let k = c.args.key in
    let p : position (bytes_eq k) (keys_of es) ≡ None =
    ap (λ l. position (bytes_eq k) (keys_of l)) c.self.view_is ∙ ap (λ t. position (bytes_eq t) (keys_of c.args.self.now)) (sym c.as_str.ensures) ∙ sym c.index_of.ensures ∙ c.in_default.is in
    subst (λ l. IsDistinct bytes_eq (keys_of l)) (sym (c.in_ok-push.ensures.items ∙ insert_new es k c.args.pair p)) (insert_distinct es k c.args.pair c.self.invariant)

pub returns-clause-old : goal.returns-clause-old
returns-clause-old c =
    let k = c.args.key in
    let p : position (bytes_eq k) (keys_of c.args.self.now) ≡ None =
    ap (λ t. position (bytes_eq t) (keys_of c.args.self.now)) (sym c.as_str.ensures) ∙ sym c.index_of.ensures ∙ c.in_default.is in
    sym (Missing-position (bytes_eq k) c.args.self.now p).value

pub returns-clause-entries : goal.returns-clause-entries
returns-clause-entries c =
    let es = c.self.inside.entries.items in
    let k = c.args.key in
    let p : position (bytes_eq k) (keys_of es) ≡ None =
    ap (λ l. position (bytes_eq k) (keys_of l)) c.self.view_is ∙ ap (λ t. position (bytes_eq t) (keys_of c.args.self.now)) (sym c.as_str.ensures) ∙ sym c.index_of.ensures ∙ c.in_default.is in
    c.in_ok-push.ensures.items ∙ insert_new es k c.args.pair p ∙ ap (λ l. insert_entry bytes_eq l k c.args.pair) c.self.view_is

pub returns-clause-distinct : goal.returns-clause-distinct
returns-clause-distinct c =
    let es = c.self.inside.entries.items in
    let k = c.args.key in
    let p : position (bytes_eq k) (keys_of es) ≡ None =
    ap (λ l. position (bytes_eq k) (keys_of l)) c.self.view_is ∙ ap (λ t. position (bytes_eq t) (keys_of c.args.self.now)) (sym c.as_str.ensures) ∙ sym c.index_of.ensures ∙ c.in_default.is in
    subst (λ l. IsDistinct bytes_eq (keys_of l)) (sym (c.in_ok-push.ensures.items ∙ insert_new es k c.args.pair p)) (insert_distinct es k c.args.pair c.self.invariant)
