-- The parent of each span that a tracer starts. Not in the Rust crate.
use Rattle.std.specs.Prelude.{◌≡◌, ◌⊎◌, ℕ, Bool, false, Option, Some, None, Result}
use Rattle.otel_base.specs.InstrumentationScope.{Scope}
use Rattle.otel_context.specs.Context.{ContextRecord}
use Rattle.otel_ids.specs.SpanContext.{SpanContextRecord, no_span_context}
use Rattle.opentelemetry.specs.SpanBuilder.{BuilderRecord}
use Rattle.otel_sdk.specs.Tracer.{MayBuild, parent_of}
use Rattle.otel_sdk.specs.Sampler.{Answer, Asked}
use Rattle.otel_sdk.specs.declared.trace.id_generator.IdError.{IdError}
use Rattle.otel_sdk_span.specs.Span.{SpanState}
use Rattle.otel_sdk_span.specs.SpanData.{SpanRecord}
use Rattle.otel_sdk_span.specs.declared.limits.SpanLimits.{SpanLimits}

-- the trace id of the parent, or no ids at all; a root may have any [OpenTelemetry trace API,
-- "SpanContext"]
abbrev pub IsInTrace : Option SpanContextRecord → SpanContextRecord → Type 0
IsInTrace None own = Unit {0}
IsInTrace (Some parent) own = (own ≡ no_span_context) ⊎ (own.trace_id ≡ parent.trace_id)

-- The recorded data has the parent's trace id, its span id, and whether it is remote. A root has
-- the parent span id 0.
abbrev pub IsChild : Option SpanContextRecord → SpanRecord → Type 0
IsChild None span = (span.parent_span_id ≡ 0) × (span.parent_span_is_remote ≡ false)
IsChild (Some parent) span = (span.span_context.trace_id ≡ parent.trace_id)
    × (span.parent_span_id ≡ parent.span_id) × (span.parent_span_is_remote ≡ parent.is_remote)

-- the same for a span that has recorded data; the data has the span's own span context
abbrev pub IsChildIfRecorded : Option SpanContextRecord → SpanContextRecord → Option SpanRecord
    → Type 0
IsChildIfRecorded parent own None = Unit {0}
IsChildIfRecorded parent own (Some span) = (span.span_context ≡ own) × IsChild parent span

-- a span under this parent, or a root
pub record IsUnder (parent : Option SpanContextRecord) (span : SpanState) : Type 0 where
  pub trace : IsInTrace parent span.context
  pub child : IsChildIfRecorded parent span.context span.recorded

-- each span that may be started is under its parent
abbrev pub StartChildren : (BuilderRecord → ContextRecord → SpanState → Type 0) → Type 0
StartChildren may_start = (builder : BuilderRecord) (parent : ContextRecord) (span : SpanState)
    → may_start builder parent span → IsUnder (parent_of parent) span

-- the same for the tracers of a provider
abbrev pub TracersStartChildren : {G : Type 0} → (G → Result ℕ IdError → Type 0)
    → (G → Result ℕ IdError → Type 0) → (ℕ → Type 0) → Type 0 → (Bool → Type 0) → Type 0
TracersStartChildren {G} may_trace may_span may_show is_counted is_read = (answer : Asked → Answer)
    (random : Bool) (id_generator : G) (limits : SpanLimits) (scope : Scope)
    → StartChildren (λ builder parent. MayBuild answer random (may_trace id_generator)
    (may_span id_generator) may_show is_counted limits scope builder parent is_read)
