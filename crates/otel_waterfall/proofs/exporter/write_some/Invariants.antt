-- Nothing was written, and after the first turn a write was interrupted.
use Rattle.std.proofs.Common.{◌≡◌, ◌⊎◌}
use Rattle.std.specs.Prelude.{MatchOption}
use Rattle.std.specs.Io.KnownBytes.{Keeps}
use Rattle.otel_sdk_base.specs.Writers.{FlushesNever, FailsWith}
use Rattle.otel_waterfall.proofs.exporter.write_some.Given as goal

abbrev pub invariant-loop : goal.invariant-loop
invariant-loop g l =
    Keeps (g.W.Write.contents l.initial.output) (g.W.Write.contents l.output)
    × ((l.counter ≡ 0) ⊎ MatchOption l.interrupted ⊥ (FailsWith g.W.WriterCalls.may_write))
    × FlushesNever g.W.WriterCalls.flushed l.initial.output l.output
