use Rattle.std.proofs.Common.{◌≡◌, length, drop}
use Rattle.otel_propagators.specs.BaggageReading.{pieces, with_pieces, read_baggage}
use Rattle.otel_propagators.proofs.baggage.reading.read_baggage.Given as goal

abbrev pub invariant-loop-piece : goal.invariant-loop-piece
invariant-loop-piece l = with_pieces l.baggage (drop (length l.yielded) (pieces l.text)) ≡ read_baggage l.text
