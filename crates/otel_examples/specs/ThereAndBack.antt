-- A context that is sent in a map of texts, and received from it.
use Rattle.std.specs.Prelude.{Bool, Result, ◌++◌}
use Rattle.std.specs.HashMap.{HashMap}
use Rattle.std.specs.declared.string.String.{String}
use Rattle.otel_context.specs.Context.{ContextRecord}
use Rattle.opentelemetry.specs.Carrier.{Pairs, SetsBeginning, TextMap, map_state, text_map}
use Rattle.opentelemetry.specs.Extraction.{Extracts}
use Rattle.opentelemetry.specs.Injection.{Injects}
use Rattle.opentelemetry.specs.declared.propagation.error.PropagationError.{PropagationError}
use Rattle.otel_propagators.specs.BaggagePropagator.{baggage_pairs}
use Rattle.otel_propagators.specs.TraceContext.{trace_pairs}

-- an injection of the pairs into the map, which was `old` and is `new`, had this result
abbrev pub Fills : {A S T : Type 0} → Pairs → Bool → HashMap (String A) (String A) S
    → HashMap (String A) (String A) S → Result T PropagationError → Type 0
Fills pairs may_refuse old new result =
    Injects pairs may_refuse (map_state old.entries) (map_state new.entries) result

-- an extraction from the map had this result; its texts give the context
abbrev pub Reads : {A S : Type 0} → (TextMap → ContextRecord) → Bool
    → HashMap (String A) (String A) S → Result ContextRecord PropagationError → Type 0
Reads extracted may_refuse map result =
    Extracts (extracted (text_map map.entries)) may_refuse result

-- a prefix of the pairs of the context's trace and then of its baggage is set
abbrev pub SetsSome : {A S : Type 0} → ContextRecord → HashMap (String A) (String A) S
    → HashMap (String A) (String A) S → Type 0
SetsSome context old new =
    SetsBeginning (text_map old.entries)
    (trace_pairs context ++ baggage_pairs context) (text_map new.entries)
