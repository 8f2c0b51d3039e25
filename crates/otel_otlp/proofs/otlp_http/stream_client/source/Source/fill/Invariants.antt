use Rattle.std.proofs.Common.{◌≡◌, ◌⊎◌, ◌<◌}
use Rattle.std.specs.Io.KnownBytes.{Keeps}
use Rattle.otel_otlp.specs.StreamClient.{ReadsNone}
use Rattle.otel_otlp.proofs.otlp_http.stream_client.source.Source.fill.Given as goal

abbrev pub invariant-loop : goal.invariant-loop
invariant-loop g l =
    (l.self.unread.items ≡ l.fn.self.unread.items) × Keeps (g.R.Read.remaining l.fn.self.reader) (g.R.Read.remaining l.self.reader)
    × ((l.counter ≡ 0) ⊎ ReadsNone g.R.ReaderCalls.may_read) × (0 < l.self.unread.spare)
