use Rattle.otel_propagators.proofs.Numbering.{ReadUpTo}
use Rattle.otel_propagators.proofs.trace_context.digits.read_number.Given as goal

abbrev pub invariant-loop-byte : goal.invariant-loop-byte
invariant-loop-byte l = ReadUpTo l.bytes l.byte-index l.number
