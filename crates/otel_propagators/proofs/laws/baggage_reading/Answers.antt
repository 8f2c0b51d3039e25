use Rattle.otel_propagators.proofs.PieceReads.{baggage_reads, reads_baggage}
use Rattle.otel_propagators.proofs.laws.baggage_reading.Goals as goal

pub returns : goal.returns
returns c = record { reads = baggage_reads; limits = reads_baggage }
