-- Log records whose numbers fit their types, as those of all programs.
use Rattle.std.specs.Prelude.{◌<◌, ◌^◌, List, ⊤}
use Rattle.std.specs.List.{All}
use Rattle.std.specs.Option.{ForSome}
use Rattle.otel_base.specs.AnyValue as any
use Rattle.otel_base.specs.AnyValue.{Tree, Trees, no_trees, more_trees, Entries, no_entries}
use Rattle.otel_base.specs.AnyValue.{more_entries}
use Rattle.otel_sdk_logs.specs.Attributes.{Attribute}
use Rattle.otel_sdk_logs.specs.LogRecord.{LogEntry}
use Rattle.otel_sdk_logs.specs.declared.record.TraceContext.{TraceContext}
use Rattle.otel_proto_batches.specs.InRange.{IsInteger, AreInRange}

-- ---- trees
abbrev mutual
  -- its integers have 64 bits
  pub IsTreeInRange : Tree → Type 0
  IsTreeInRange (any.integer z) = IsInteger z
  IsTreeInRange (any.text s) = ⊤
  IsTreeInRange (any.boolean b) = ⊤
  IsTreeInRange (any.bytes s) = ⊤
  IsTreeInRange (any.list ts) = AreTreesInRange ts
  IsTreeInRange (any.map es) = AreEntriesInRange es

  pub AreTreesInRange : Trees → Type 0
  AreTreesInRange no_trees = ⊤
  AreTreesInRange (more_trees t ts) = IsTreeInRange t × AreTreesInRange ts

  pub AreEntriesInRange : Entries → Type 0
  AreEntriesInRange no_entries = ⊤
  AreEntriesInRange (more_entries k t es) = IsTreeInRange t × AreEntriesInRange es

abbrev pub ArePairsInRange : List Attribute → Type 0
ArePairsInRange = All (λ a. IsTreeInRange a.1)

-- ---- records
-- the trace id has 128 bits, the span id 64, the flags 8
pub record IsTraceInRange (c : TraceContext) : Type 0 where
  pub trace_id : c.trace_id < 2 ^ 128
  pub span_id : c.span_id < 2 ^ 64
  pub flags : ForSome c.trace_flags (λ bits. bits < 256)

-- times have 64 bits, counts 32, and severities 8
pub record IsEntryInRange (e : LogEntry) : Type 0 where
  pub timestamp : ForSome e.log.timestamp (λ t. t < 2 ^ 64)
  pub observed : ForSome e.log.observed_timestamp (λ t. t < 2 ^ 64)
  pub severity : ForSome e.log.severity_number (λ n. n < 256)
  pub body : ForSome e.log.body IsTreeInRange
  pub attributes : ArePairsInRange e.log.attributes
  pub dropped : e.log.dropped_attributes < 2 ^ 32
  pub context : ForSome e.log.trace_context IsTraceInRange
  pub scope : AreInRange e.scope.attributes
