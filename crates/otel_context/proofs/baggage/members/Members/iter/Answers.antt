use Rattle.std.proofs.Common.{ap, length}
use Rattle.std.specs.Map.Iter.{TakesFirst}
use Rattle.std.proofs.iter.runs.Sources.{from_front}
use Rattle.otel_context.specs.BaggageView.{lent_entry}
use Rattle.otel_context.proofs.baggage.members.Members.iter.Goals as goal

pub returns-clause-runs : goal.returns-clause-runs
returns-clause-runs c = from_front (TakesFirst lent_entry) lent_entry (λ s. s) (λ s t h. ap length h.0) (λ s x t h. h)
