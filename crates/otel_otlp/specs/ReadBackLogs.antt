-- What is read from the value of a log record that the exporter writes: everything but what the
-- value doesn't say.
use Rattle.std.specs.Prelude.{◌≡◌, ◌<◌, ◌^◌, true, List, [], ◌∷◌, map, codes}
use Rattle.std.specs.Prelude.{Some, IfSome, option_map, refl, ⊤}
use Rattle.std.specs.Cmp.Lexicographic.{slice_cmp}
use Rattle.std.specs.List.{All}
use Rattle.std.specs.List.Sorted.{IsStrictlySortedBy}
use Rattle.std.specs.Ordering.{nat_cmp}
use Rattle.base64.specs.GeneralPurpose.{IsBytes}
use Rattle.otel_base.specs.AnyValue as any
use Rattle.otel_base.specs.AnyValue.{Tree, Trees, no_trees, more_trees, Entries, no_entries}
use Rattle.otel_base.specs.AnyValue.{more_entries, keys_of_entries}
use Rattle.otel_base.specs.InstrumentationScope.{Scope}
use Rattle.otel_sdk_logs.specs.Attributes.{Attribute, default_limits}
use Rattle.otel_sdk_logs.specs.LogRecord.{LogState, LogEntry, empty}
use Rattle.otel_sdk_logs.specs.declared.record.TraceContext.{TraceContext}
use Rattle.otel_otlp.specs.Lossless.{AreInRange, IsInteger}
use Rattle.otel_otlp.specs.Logs.{attributes, dropped}
use Rattle.otel_otlp.specs.ReadBack.{read_scope}
use Rattle.otel_otlp.specs.ReadLogs.{target_among, without_target}
use Rattle.otel_otlp.specs.Trees.{max_levels, cut}

-- ---- as programs have it
abbrev mutual
  -- its integers have 64 bits and its bytes 8, and the keys of each map rise
  pub IsHeldTree : Tree → Type 0
  IsHeldTree (any.integer z) = IsInteger z
  IsHeldTree (any.text s) = ⊤
  IsHeldTree (any.boolean b) = ⊤
  IsHeldTree (any.bytes bs) = IsBytes bs
  IsHeldTree (any.list ts) = AreHeldTrees ts
  IsHeldTree (any.map es) =
      IsStrictlySortedBy (slice_cmp nat_cmp) (keys_of_entries es) × HaveHeldTrees es

  -- each tree of a list
  pub AreHeldTrees : Trees → Type 0
  AreHeldTrees no_trees = ⊤
  AreHeldTrees (more_trees t ts) = IsHeldTree t × AreHeldTrees ts

  -- the tree of each entry of a map
  pub HaveHeldTrees : Entries → Type 0
  HaveHeldTrees no_entries = ⊤
  HaveHeldTrees (more_entries k t es) = IsHeldTree t × HaveHeldTrees es

-- the trace id has 128 bits, the span id 64, the flags 8
pub record IsHeldContext (c : TraceContext) : Type 0 where
  pub trace_id : c.trace_id < 2 ^ 128
  pub span_id : c.span_id < 2 ^ 64
  pub flags : IfSome c.trace_flags (λ flags. flags < 256)

-- the numbers fit their types, and a severity is from 1 to 24
pub record IsHeldEntry (e : LogEntry) : Type 0 where
  pub timestamp : IfSome e.log.timestamp (λ time. time < 2 ^ 64)
  pub observed_timestamp : IfSome e.log.observed_timestamp (λ time. time < 2 ^ 64)
  pub severity : IfSome e.log.severity_number (λ n. (0 < n) × (n < 25))
  pub body : IfSome e.log.body IsHeldTree
  pub attributes : All (λ a. IsHeldTree a.1) e.log.attributes
  pub context : IfSome e.log.trace_context IsHeldContext
  pub scope_in_range : AreInRange e.scope.attributes

-- ---- what is read of it
-- the tree as it is written: its lists and maps within `max_levels` others are the text `..`
abbrev pub read_tree : Tree → Tree
read_tree = cut max_levels

abbrev pub read_attribute : Attribute → Attribute
read_attribute a = (a.0, read_tree a.1)

-- the attributes as they are written, with the target last
abbrev pub read_attributes : LogState → List Attribute
read_attributes l = map read_attribute (attributes l)

-- the record with the default limits; the target is the text of the last attribute that is written,
-- if its key is `log.target`; the number of dropped attributes is the one that is written
abbrev pub read_log : LogState → LogState
read_log l = record {
  event_name = l.event_name;
  target = target_among (read_attributes l);
  timestamp = l.timestamp;
  observed_timestamp = l.observed_timestamp;
  severity_text = l.severity_text;
  severity_number = l.severity_number;
  body = option_map read_tree l.body;
  attributes = without_target (read_attributes l) (target_among (read_attributes l));
  dropped_attributes = dropped l;
  limits = default_limits;
  trace_context = l.trace_context;
}

-- the log record of a group of this scope, which is the same as the record's
abbrev pub read_entry : Scope → LogEntry → LogEntry
read_entry scope e = record { log = read_log e.log; scope = read_scope scope }

-- ---- worked rows
-- a target is read as one
target_example :
    read_log (record empty {
      target = Some (codes "t");
      attributes = (codes "a", any.boolean true) ∷ [];
    })
    ≡ record empty { target = Some (codes "t"); attributes = (codes "a", any.boolean true) ∷ [] }
target_example = refl

-- a target isn't written beside an attribute with its key, so it is lost
given_target_example :
    read_log (record empty {
      target = Some (codes "t");
      attributes = (codes "log.target", any.boolean true) ∷ [];
    })
    ≡ record empty { attributes = (codes "log.target", any.boolean true) ∷ [] }
given_target_example = refl

-- a last attribute with the target's key and a text is read as the target
text_example :
    read_log (record empty { attributes = (codes "log.target", any.text (codes "t")) ∷ [] })
    ≡ record empty { target = Some (codes "t") }
text_example = refl
