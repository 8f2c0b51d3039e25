-- The parts of a context that the headers of B3 restore. Not in the Rust crate.
use Rattle.std.specs.Prelude.{◌≡◌, ◌≢◌, ℕ, true, ◌||◌, List, [], ◌++◌, All, Some, None}
use Rattle.std.specs.Prelude.{if◌then◌else◌}
use Rattle.otel_ids.specs.SpanContext.{SpanContextRecord, IsValidSpanContext}
use Rattle.otel_ids.specs.TraceFlags.{is_sampled}
use Rattle.otel_context.specs.Context.{ContextRecord, get, span_context}
use Rattle.opentelemetry.specs.Carrier.{Pairs, TextMap, Sets, at, lower}
use Rattle.otel_propagators.specs.B3.{b3_extracted, b3_key, b3_pairs, debug_key, deferred_key}
use Rattle.otel_propagators.specs.B3.{flags_key, is_debug, sampled_key, sampling_of}
use Rattle.otel_propagators.specs.B3.{span_id_key, trace_id_key}
use Rattle.otel_propagators.specs.Laws.{IsContext}
use Rattle.otel_propagators.specs.declared.b3.form.Form.{Form}
use Rattle.otel_propagators.specs.declared.b3.form.Form.TheVariants.{Single, Multi}
use Rattle.otel_propagators.specs.declared.b3.sampling.Sampling.TheVariants.{Deferred}

-- ---- there

-- the pair's key is none of B3's
pub record IsNotB3 (pair : List ℕ × List ℕ) : Type 0 where
  pub single : lower pair.0 ≢ b3_key
  pub trace_id : lower pair.0 ≢ trace_id_key
  pub span_id : lower pair.0 ≢ span_id_key
  pub sampled : lower pair.0 ≢ sampled_key
  pub flags : lower pair.0 ≢ flags_key

-- The propagator injects the context in this form, alone or in a composite, whose other members set
-- pairs with other keys before and after it.
pub record B3Injects (form : Form) (context : ContextRecord) (old new : TextMap) : Type 0 where
  pub before : Pairs
  pub after : Pairs
  pub others : All IsNotB3 before × All IsNotB3 after
  pub sets : Sets old (before ++ (b3_pairs form context ++ after)) new

-- ---- and back

-- the span context that the other side receives: remote, with the same ids, the flag `sampled` if
-- the trace is sampled or debugged, and no other flag and no trace state
abbrev pub b3_received : ContextRecord → SpanContextRecord
b3_received context = record {
  trace_id = (span_context context).trace_id;
  span_id = (span_context context).span_id;
  trace_flags =
      if is_debug context || is_sampled (span_context context).trace_flags then 1 else 0;
  is_remote = true;
  trace_state = [];
}

-- the result of injecting a context and extracting it into the context `given`
pub record B3ComesBack (context given back : ContextRecord) : Type 0 where
  pub span : back.span ≡ Some (record { context = b3_received context; number = None })
  -- the same debug flag, whatever the flag of the given context
  pub debug : is_debug back ≡ is_debug context
  -- the same state is sent on, so a deferred decision stays deferred
  pub state : sampling_of back ≡ sampling_of context
  -- the given entries stay, but for the debug flag and the deferred span
  pub entries : (key : List ℕ) → key ≢ debug_key → key ≢ deferred_key
      → get back key ≡ get given key
  -- nothing else changes: the given baggage, and whether telemetry is suppressed
  pub nothing_else : back ≡ record given { span = back.span; entries = back.entries }

-- ---- the laws

-- a context whose valid span context was injected as `b3` is restored
abbrev pub SingleComesBack : Type 0
SingleComesBack = (context given : ContextRecord) (old new : TextMap) → IsContext context
    → IsValidSpanContext (span_context context) → B3Injects Single context old new
    → B3ComesBack context given (b3_extracted given new)

-- a context whose valid span context was injected as multiple headers is restored, if the carrier
-- had no `b3` and no `x-b3-flags`, which this injection doesn't replace, nor an `x-b3-sampled` if the
-- decision is deferred
abbrev pub MultiComesBack : Type 0
MultiComesBack = (context given : ContextRecord) (old new : TextMap) → IsContext context
    → IsValidSpanContext (span_context context) → B3Injects Multi context old new
    → at old b3_key ≡ None → at old flags_key ≡ None
    → (sampling_of context ≡ Deferred → at old sampled_key ≡ None)
    → B3ComesBack context given (b3_extracted given new)

-- a context without a valid span context doesn't change what is extracted
abbrev pub NoSpanIsSent : Type 0
NoSpanIsSent = (form : Form) (context given : ContextRecord) (old new : TextMap)
    → ¬ IsValidSpanContext (span_context context) → B3Injects form context old new
    → b3_extracted given new ≡ b3_extracted given old
