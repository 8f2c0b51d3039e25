-- Nothing was written, and after the first turn a write was interrupted.
use Rattle.std.proofs.Common.{◌≡◌, ◌⊎◌}
use Rattle.std.specs.Io.KnownBytes.{Keeps}
use Rattle.otel_sdk_base.specs.Writers.{FlushesNever}
use Rattle.otel_otlp.specs.Written.{IsCause}
use Rattle.otel_otlp.proofs.written.write_some.Given as goal

abbrev pub invariant-loop : goal.invariant-loop
invariant-loop g l =
    Keeps (g.W.Write.contents l.initial.writer) (g.W.Write.contents l.writer)
    × ((l.counter ≡ 0) ⊎ IsCause g.W.WriterCalls.may_write l.cause)
    × FlushesNever g.W.WriterCalls.flushed l.initial.writer l.writer
