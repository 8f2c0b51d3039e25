-- The pairs that the program's own propagator sets, and the contexts of its attaches.
use Rattle.std.specs.Prelude.{ℕ, List, [], ◌∷◌, true, false, Option, Some, None, option_map, codes}
use Rattle.std.specs.Option.{option_map_or}
use Rattle.std.specs.FinMap as map
use Rattle.otel_ids.specs.TraceState.{Pair}
use Rattle.otel_ids.specs.SpanContext.{SpanContextRecord}
use Rattle.otel_base.specs.AnyValue.{Tree, integer, text, boolean, bytes, list, map as map_tree}
use Rattle.otel_context.specs.Context.{ContextRecord}
use Rattle.opentelemetry.specs.Carrier.{Pairs}

-- the text of a value tree, if it is one
abbrev pub text_in : Option Tree → Option (List ℕ)
text_in None = None
text_in (Some (integer n)) = None
text_in (Some (text t)) = Some t
text_in (Some (boolean b)) = None
text_in (Some (bytes bs)) = None
text_in (Some (list ts)) = None
text_in (Some (map_tree es)) = None

-- the name of a context: its entry `name`, if that is a text
abbrev pub name_in : ContextRecord → Option (List ℕ)
name_in context = text_in (map.get context.entries (codes "name"))

-- the pairs of `NameMember`: `Context-Name` with the context's name, if it has one
abbrev pub name_pairs : ContextRecord → Pairs
name_pairs context = option_map_or (λ name. (codes "Context-Name", name) ∷ []) (name_in context) []

-- the field of `NameMember`. Not in the Rust crate.
abbrev pub name_fields : List (List ℕ)
name_fields = codes "Context-Name" ∷ []

-- the span context of an attach with this trace state: it is remote, its ids are both `id`, and its
-- only flag is `sampled`
abbrev pub span_context_for : List Pair → ℕ → SpanContextRecord
span_context_for state id = record {
  trace_id = id;
  span_id = id;
  trace_flags = 1;
  is_remote = true;
  trace_state = state;
}

-- The context of an attach: the empty one with the entry `name` and, if a trace state is given,
-- with a span context with that state.
abbrev pub context_for : List ℕ → Option (List Pair) → ℕ → ContextRecord
context_for name state id = record {
  entries = map.insert map.empty (codes "name") (text name);
  baggage = None;
  span = option_map (λ pairs. record { context = span_context_for pairs id; number = None }) state;
  suppressed = false;
}
