use Rattle.otel_context.proofs.shared.BaggagePuts.{none_held}
use Rattle.otel_context.proofs.baggage.Baggage.new.Goals as goal

pub invariant_of-result : goal.invariant_of-result
invariant_of-result c = none_held c.new.result c.new.ensures
