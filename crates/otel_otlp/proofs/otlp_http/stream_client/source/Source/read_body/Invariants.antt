use Rattle.std.proofs.Common.{◌≡◌, ◌≢◌, ℕ, ◌≤◌, List, ◌++◌, length}
use Rattle.std.specs.Io.KnownBytes.{Consumes}
use Rattle.otel_otlp.specs.StreamClient.{Gives, Comes, is_kept, ClosesAtEnd, max_body_len}
use Rattle.http1.specs.Client.{reading}
use Rattle.http1.specs.declared.conn.Reading.TheVariants as Reads
use Rattle.otel_otlp.proofs.otlp_http.stream_client.source.Source.read_body.Given as goal

abbrev pub invariant-loop : goal.invariant-loop
invariant-loop g l =
    (length l.body.items ≤ max_body_len)
    × ((came : List ℕ) × Consumes (g.R.Read.remaining l.fn.self.reader) (g.R.Read.remaining l.self.reader) came
    × Gives l.fn.connection (l.fn.self.unread.items ++ came) l.connection l.self.unread.items l.body.items)
    × (is_kept l.connection ≡ is_kept l.fn.connection) × ClosesAtEnd l.connection
    × (reading l.connection ≢ Reads.Head)
    × ((more : List ℕ) × Consumes (g.R.Read.remaining l.fn.self.reader) (g.R.Read.remaining l.self.reader) more
    × Comes l.fn.connection (l.fn.self.unread.items ++ more) l.connection l.self.unread.items l.body.items)
