-- The bytes read so far and the remaining bytes of the input together are the whole input.
use Rattle.std.specs.Io.KnownBytes.{Consumes}
use Rattle.otel_carry.proofs.input.read_whole.Given as goal

abbrev pub invariant-loop : goal.invariant-loop
invariant-loop g l = Consumes (g.R.Read.remaining l.fn.input) (g.R.Read.remaining l.input) l.bytes.items
