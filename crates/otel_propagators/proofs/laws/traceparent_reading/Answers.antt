use Rattle.otel_propagators.proofs.Parents.{parent_reads, one_parent, parents_agree, parent_length}
use Rattle.otel_propagators.proofs.laws.traceparent_reading.Goals as goal

pub returns : goal.returns
returns c = record { reads = parent_reads; one = one_parent; function = parents_agree; length = parent_length }
