use Rattle.std.proofs.Common.{sym, ap, subst, ◌∙◌, arith, slice_get}
use Rattle.std.specs.List.{IsDistinct}
use Rattle.std.specs.Map.{keys_of}
use Rattle.std.specs.Str.{bytes_eq}
use Rattle.std.proofs.lemmas.Option.{slice_get_past}
use Rattle.otel_context.proofs.BaggageStores.{at_index, remove_distinct}
use Rattle.otel_context.proofs.baggage.members.few.Few.remove_at.Goals as goal

pub invariant_of-self : goal.invariant_of-self
invariant_of-self c =
    subst (λ l. IsDistinct bytes_eq (keys_of l)) (sym c.remove.ensures.items) (remove_distinct c.self.inside.entries.items c.args.index c.self.invariant)

pub returns-then-index-len-clause-entry : goal.returns-then-index-len-clause-entry
returns-then-index-len-clause-entry c =
    let es = c.self.inside.entries.items in
    at_index es c.args.index c.remove.result (omega (arith, c.if-index-len.true, c.len.ensures, c.self.inside.entries.ok)) c.remove.ensures.value
    ∙ ap (λ l. slice_get l c.args.index) c.self.view_is

pub returns-then-index-len-clause-distinct : goal.returns-then-index-len-clause-distinct
returns-then-index-len-clause-distinct c =
    subst (λ l. IsDistinct bytes_eq (keys_of l)) (sym c.remove.ensures.items) (remove_distinct c.self.inside.entries.items c.args.index c.self.invariant)

pub returns-else-index-len-clause-entry : goal.returns-else-index-len-clause-entry
returns-else-index-len-clause-entry c =
    let es = c.self.inside.entries.items in
    sym (slice_get_past es c.args.index (omega (arith, c.if-index-len.false, c.len.ensures, c.self.inside.entries.ok)))
    ∙ ap (λ l. slice_get l c.args.index) c.self.view_is
