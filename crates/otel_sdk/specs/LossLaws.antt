-- The law of the spans that are lost: each sampled span that ended is counted once.
use Rattle.std.specs.Prelude.{◌≡◌, ◌<◌, ◌+◌, ◌-◌, ◌^◌, ℕ, List, [], length, filter, Result}
use Rattle.std.specs.List.{flat_map}
use Rattle.otel_sdk.specs.Processor.{BatchState, HasReceived, is_sampled, losses_of}
use Rattle.otel_sdk_base.specs.Export.{Calls, items_of}
use Rattle.otel_sdk_base.specs.Losses.{total}
use Rattle.otel_sdk_base.specs.declared.error.OTelSdkError.{OTelSdkError}
use Rattle.otel_sdk_span.specs.SpanData.{SpanRecord}

module _ {E : Type 0} (accepted : E → List (List SpanRecord)) (calls : Calls E) where
  -- a shutdown of the exporter accepts no batch, and drops none
  abbrev pub ShutdownKeepsAccepted : Type 0
  ShutdownKeepsAccepted = (old : E) (answer : Result (Unit {0}) OTelSdkError) (new : E)
      → calls.shuts_down old answer new → accepted new ≡ accepted old

  -- so many of the spans that the exporter accepted have arrived, and it counts the others
  abbrev pub CountsOthers : ℕ → E → Type 0
  CountsOthers arrived exporter =
      length (items_of (accepted exporter)) ≡ arrived + total (calls.losses exporter)

  -- Each sampled span that ended at a processor with a queue has arrived, or is among its losses,
  -- for one cause: if the exporter counts those of its spans that haven't arrived, had none when it
  -- was given, and keeps them at its shutdown, and if no number stopped at the maximum.
  abbrev pub SpansAreCounted : Type 0
  SpansAreCounted = (p : BatchState E) (ended : List SpanRecord) (arrived : ℕ)
      → HasReceived accepted calls p ended
      → CountsOthers arrived p.queue.exporter
      → items_of (flat_map accepted p.given) ≡ []
      → ShutdownKeepsAccepted
      → total (losses_of calls p.queue) < 2 ^ 64 - 1
      → length (filter is_sampled ended) ≡ arrived + total (losses_of calls p.queue)
