use Rattle.std.proofs.Common.{ℕ, List, [], ◌++◌}
use Rattle.std.specs.Io.KnownBytes.{Consumes}
use Rattle.otel_otlp.specs.StreamClient.{Skips, Comes}
use Rattle.otel_otlp.proofs.otlp_http.stream_client.source.Source.read_head.Given as goal

abbrev pub invariant-loop : goal.invariant-loop
invariant-loop g l =
    (came : List ℕ) × Consumes (g.R.Read.remaining l.fn.self.reader) (g.R.Read.remaining l.self.reader) came
    × Skips l.fn.connection (l.fn.self.unread.items ++ came) l.connection l.self.unread.items
    × ((more : List ℕ) × Consumes (g.R.Read.remaining l.fn.self.reader) (g.R.Read.remaining l.self.reader) more
    × Comes l.fn.connection (l.fn.self.unread.items ++ more) l.connection l.self.unread.items [])
