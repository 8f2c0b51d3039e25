use Rattle.std.proofs.Common.{sym, ap, subst, ◌∙◌}
use Rattle.std.specs.List.{IsDistinct}
use Rattle.std.specs.Map.{keys_of}
use Rattle.std.specs.Str.{bytes_eq}
use Rattle.otel_context.proofs.NameLemmas.{distinct_none}
use Rattle.otel_context.proofs.baggage.members.few.Few.take.Goals as goal

pub invariant_of-self : goal.invariant_of-self
invariant_of-self c = subst (λ l. IsDistinct bytes_eq (keys_of l)) (sym (ap (λ v. v.items) c.replace.ensures.after ∙ c.new-none.ensures.items)) distinct_none
