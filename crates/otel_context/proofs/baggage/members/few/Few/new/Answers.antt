use Rattle.std.proofs.Common.{sym, subst}
use Rattle.std.specs.List.{IsDistinct}
use Rattle.std.specs.Map.{keys_of}
use Rattle.std.specs.Str.{bytes_eq}
use Rattle.otel_context.proofs.NameLemmas.{distinct_none}
use Rattle.otel_context.proofs.baggage.members.few.Few.new.Goals as goal

pub invariant_of-result : goal.invariant_of-result
invariant_of-result c = subst (λ l. IsDistinct bytes_eq (keys_of l)) (sym c.new.ensures.items) distinct_none
