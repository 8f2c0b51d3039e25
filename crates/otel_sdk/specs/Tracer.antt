-- Which spans a tracer starts.
use Rattle.std.specs.Prelude.{◌≡◌, ◌≢◌, ◌⊎◌, ℕ, ◌+◌, ◌/◌, ◌%◌, ◌==◌, List, [], ◌++◌, Bool, true}
use Rattle.std.specs.Prelude.{false}
use Rattle.std.specs.Prelude.{Option, Some, None, Result, Ok, Err, if◌then◌else◌, refl}
use Rattle.std.specs.Option.{option_map_or, unwrap_or}
use Rattle.std.specs.Rc.{rc_value}
use Rattle.std.specs.declared.alloc.Global.{Global}
use Rattle.std.specs.declared.rc.Rc.{Rc}
use Rattle.otel_base.specs.InstrumentationScope.{Scope}
use Rattle.otel_base.specs.KeyValue.{Attribute}
use Rattle.otel_context.specs.Context.{ContextRecord, span_context, is_telemetry_suppressed}
use Rattle.otel_context.specs.declared.span.status.SpanKind.{SpanKind}
use Rattle.otel_context.specs.declared.span.status.SpanKind.TheVariants.{Internal}
use Rattle.otel_context.specs.declared.span.status.Status.TheVariants.{Unset}
use Rattle.otel_ids.specs.SpanContext.{SpanContextRecord, no_span_context}
use Rattle.otel_ids.specs.TraceState.{Pair}
use Rattle.opentelemetry.specs.SpanBuilder.{BuilderRecord}
use Rattle.otel_sdk_base.specs.Resource.{Parts, merge, with_defaults}
use Rattle.otel_sdk.specs.Sampler.{Asked, Answer, has_parent}
use Rattle.otel_sdk_span.specs.Span.{SpanState, started, unrecorded}
use Rattle.otel_sdk_span.specs.SpanData.{SpanRecord}
use Rattle.otel_sdk_span.specs.declared.limits.SpanLimits.{SpanLimits}
use Rattle.otel_sdk.specs.declared.trace.id_generator.IdError.{IdError}
use Rattle.otel_sdk.specs.declared.trace.sampler.SamplingDecision.{SamplingDecision}
use Rattle.otel_sdk.specs.declared.trace.sampler.SamplingDecision.TheVariants.{Drop, RecordOnly}
use Rattle.otel_sdk.specs.declared.trace.sampler.SamplingDecision.TheVariants.{RecordAndSample}
use Rattle.otel_sdk.specs.declared.trace.tracer.config.TracerConfig.{TracerConfig}

-- ---- parents, ids and flags

-- the span context of the parent if neither of its ids is 0; otherwise the span is a root
-- [OpenTelemetry trace API, "Determining the Parent Span from a Context"]
abbrev pub parent_of : ContextRecord → Option SpanContextRecord
parent_of context =
    if has_parent (span_context context) then Some (span_context context) else None

-- The trace id of a span: its parent's, or, for a root, one that the generator gave, which isn't 0.
abbrev pub IsTraceId : (Result ℕ IdError → Type 0) → Option SpanContextRecord → ℕ → Type 0
IsTraceId may_trace None id = may_trace (Ok id) × (id ≢ 0)
IsTraceId may_trace (Some parent) id = id ≡ parent.trace_id

-- the generator gave the span id, which isn't 0
abbrev pub IsSpanId : (Result ℕ IdError → Type 0) → ℕ → Type 0
IsSpanId may_span id = may_span (Ok id) × (id ≢ 0)

-- the generator gave this error for the span id or, for a root, for the trace id
abbrev pub HasFailed : (Result ℕ IdError → Type 0) → (Result ℕ IdError → Type 0)
    → Option SpanContextRecord → IdError → Type 0
HasFailed may_trace may_span None error = may_trace (Err error) ⊎ may_span (Err error)
HasFailed may_trace may_span (Some parent) error = may_span (Err error)

-- the parent's span id, 0 for a root
abbrev pub parent_span_id : Option SpanContextRecord → ℕ
parent_span_id None = 0
parent_span_id (Some parent) = parent.span_id

-- whether the parent came from another process
abbrev pub parent_is_remote : Option SpanContextRecord → Bool
parent_is_remote None = false
parent_is_remote (Some parent) = parent.is_remote

-- whether bit 1 is set, as in 2 and 255 [W3C trace-context-2, "Random Trace ID Flag"]
abbrev pub is_random : ℕ → Bool
is_random flags = flags / 2 % 2 == 1

-- Whether the trace id is random, according to the parent's flags, or, for a root, the generator.
abbrev pub has_random_id : Option SpanContextRecord → Bool → Bool
has_random_id None random = random
has_random_id (Some parent) random = is_random parent.trace_flags

-- whether the span records [OpenTelemetry trace SDK, "Sampling"]
abbrev pub records : SamplingDecision → Bool
records Drop = false
records RecordOnly = true
records RecordAndSample = true

-- whether the span is exported [OpenTelemetry trace SDK, "Sampling"]
abbrev pub samples : SamplingDecision → Bool
samples Drop = false
samples RecordOnly = false
samples RecordAndSample = true

-- The flags of a span: bit 0 is set if it is exported, and bit 1 if its trace id is random. No
-- other bit is set [W3C trace-context-2, "trace-flags"].
abbrev pub flags_of : SamplingDecision → Bool → ℕ
flags_of decision random = (if samples decision then 1 else 0) + (if random then 2 else 0)

-- ---- the start of a span

-- the given list, or an empty one
abbrev pub listed : {X : Type 0} → Option (List X) → List X
listed given = unwrap_or given []

-- `Internal` if no kind is given [OpenTelemetry trace API, "Span Creation"]
abbrev pub kind_of : Option SpanKind → SpanKind
kind_of kind = unwrap_or kind Internal

-- the question to the sampler about a span of this trace
abbrev pub asked : BuilderRecord → ContextRecord → ℕ → Asked
asked builder context trace_id = record {
  parent = context;
  trace_id = trace_id;
  name = builder.name;
  kind = kind_of builder.span_kind;
  attributes = listed builder.attributes;
  links = listed builder.links;
  start_time = builder.start_time;
}

-- the span context with these ids: local, with the flags of the decision and this trace state
abbrev pub span_context_of : ℕ → ℕ → SamplingDecision → Bool → List Pair → SpanContextRecord
span_context_of trace_id span_id decision random trace_state = record {
  trace_id = trace_id;
  span_id = span_id;
  trace_flags = flags_of decision random;
  is_remote = false;
  trace_state = trace_state;
}

-- The data of a span that starts at this time: the builder's parts, with the sampler's attributes
-- after the builder's [the Rust crate's `build_recording_span`].
abbrev pub given_data : Scope → BuilderRecord → Option SpanContextRecord → SpanContextRecord
    → List Attribute → ℕ → SpanRecord
given_data scope builder parent context sampled start = record {
  span_context = context;
  parent_span_id = parent_span_id parent;
  parent_span_is_remote = parent_is_remote parent;
  span_kind = kind_of builder.span_kind;
  name = builder.name;
  start_time = start;
  end_time = start;
  attributes = listed builder.attributes ++ sampled;
  dropped_attributes = 0;
  events = listed builder.events;
  dropped_events = 0;
  links = listed builder.links;
  dropped_links = 0;
  status = Unset;
  scope = scope;
}

-- the span that doesn't record and has no ids
abbrev pub silent : SpanState
silent = unrecorded no_span_context

-- the span without new ids: it doesn't record, and has its parent's span context if there is one
abbrev pub without_ids : Option SpanContextRecord → SpanState
without_ids None = silent
without_ids (Some parent) = unrecorded parent

-- ---- tracers

-- the parts of a tracer that its spans depend on: the sampler, the generator of ids, the limits,
-- the scope
pub record TracerState (S G : Type 0) : Type 0 where
  pub sampler : S
  pub id_generator : G
  pub limits : SpanLimits
  pub scope : Scope

-- the sampler was told of the span, and nothing else changed (`OpenPipeline::begin`)
abbrev pub TellsSampler : {S G : Type 0} → (S → ContextRecord → SpanState → S → Type 0)
    → TracerState S G → ContextRecord → SpanState → TracerState S G → Type 0
TellsSampler counts old parent span new = counts old.sampler parent span new.sampler
    × (new ≡ record old { sampler = new.sampler })

-- the tracer of this scope that starts spans with a `TracerConfig`
abbrev pub of_config : {S G C : Type 0} → TracerConfig S G C → Rc Scope Global → TracerState S G
of_config config scope = record {
  sampler = config.sampler;
  id_generator = config.id_generator;
  limits = config.limits;
  scope = rc_value scope;
}

-- the start time: the builder's or, if it has none, one that the clock showed
abbrev pub IsStartTime : (ℕ → Type 0) → Option ℕ → ℕ → Type 0
IsStartTime may_show None start = may_show start
IsStartTime may_show (Some given) start = start ≡ given

-- the span records from its start time on
abbrev pub Records : (ℕ → Type 0) → SpanLimits → Scope → BuilderRecord → Option SpanContextRecord
    → SpanContextRecord → List Attribute → SpanState → Type 0
Records may_show limits scope builder parent context sampled span = (start : ℕ)
    × IsStartTime may_show builder.start_time start
    × (span ≡ started limits (given_data scope builder parent context sampled start))

-- The span with these ids starts as the sampler answered: one that it dropped has only its span
-- context.
abbrev pub StartsWith : (Asked → Answer) → Bool → (ℕ → Type 0) → SpanLimits → Scope → BuilderRecord
    → ContextRecord → ℕ → ℕ → SpanState → Type 0
StartsWith answer random may_show limits scope builder context trace_id span_id span =
    let parent = parent_of context in
    let answered = answer (asked builder context trace_id) in
    let own = span_context_of trace_id span_id answered.decision (has_random_id parent random)
    answered.trace_state in
    (records answered.decision ≡ false → span ≡ unrecorded own)
    × (records answered.decision ≡ true
    → Records may_show limits scope builder parent own answered.attributes span)

-- the tracer started the span with these ids
abbrev pub IsStarted : {S G : Type 0} → (S → Asked → Answer) → (G → Bool) → (ℕ → Type 0)
    → TracerState S G → BuilderRecord → ContextRecord → ℕ → ℕ → SpanState → Type 0
IsStarted answer random may_show t builder context trace_id span_id span =
    StartsWith (answer t.sampler) (random t.id_generator) may_show t.limits t.scope builder context
    trace_id span_id span

-- the tracer's span with this span context and these attributes from the sampler records
abbrev pub IsRecorded : {S G : Type 0} → (ℕ → Type 0) → TracerState S G → BuilderRecord
    → Option SpanContextRecord → SpanContextRecord → List Attribute → SpanState → Type 0
IsRecorded may_show t builder parent context sampled span =
    Records may_show t.limits t.scope builder parent context sampled span

-- The relations `may_trace`, `may_span` and `may_show` are what the generator gave for trace ids
-- and for span ids and the times that the clock showed, and `is_counted` says that a failure was
-- counted. Only a call shows that one holds.
module _ (answer : Asked → Answer) (random : Bool) (may_trace may_span : Result ℕ IdError → Type 0)
    (may_show : ℕ → Type 0) (is_counted : Type 0) (limits : SpanLimits) (scope : Scope)
    (builder : BuilderRecord) (context : ContextRecord) where
  -- the span has ids that the generator gave
  abbrev pub StartsNew : SpanState → Type 0
  StartsNew span = (trace_id : ℕ) × (span_id : ℕ) × IsTraceId may_trace (parent_of context) trace_id
      × IsSpanId may_span span_id
      × StartsWith answer random may_show limits scope builder context trace_id span_id span

  -- the generator failed, which was counted, and the span has no new ids
  abbrev pub StartsWithout : SpanState → Type 0
  StartsWithout span = (error : IdError) × HasFailed may_trace may_span (parent_of context) error
      × is_counted × (span ≡ without_ids (parent_of context))

  -- the spans that start unless telemetry is suppressed
  abbrev pub Starts : SpanState → Type 0
  Starts span = StartsNew span ⊎ StartsWithout span

  -- The spans that may start: under suppressed telemetry only the silent one (`OpenPipeline`).
  abbrev pub MayStart : SpanState → Type 0
  MayStart span = (is_telemetry_suppressed context ≡ true → span ≡ silent)
      × (is_telemetry_suppressed context ≡ false → Starts span)

  -- The same for a tracer of a provider, which reads whether the provider is shut down: then, too,
  -- only the silent span may start (`TracerPipeline`).
  abbrev pub MayBuild : (Bool → Type 0) → SpanState → Type 0
  MayBuild is_read span = (is_telemetry_suppressed context ≡ true → span ≡ silent)
      × (is_telemetry_suppressed context ≡ false
      → (is_read true × (span ≡ silent)) ⊎ (is_read false × Starts span))

-- ---- providers

-- the parts of a provider that its tracers depend on, and its resource
pub record ProviderState (S G : Type 0) : Type 0 where
  pub sampler : S
  pub id_generator : G
  pub limits : SpanLimits
  pub resource : Parts

-- a provider under construction; `None` means the default resource
pub record ProviderParts (S G : Type 0) : Type 0 where
  pub sampler : S
  pub id_generator : G
  pub limits : SpanLimits
  pub resource : Option Parts

-- the same parts with this sampler (`TracerProviderBuilder::with_sampler`)
abbrev pub with_sampler : {S T G : Type 0} → T → ProviderParts S G → ProviderParts T G
with_sampler sampler parts = record {
  sampler = sampler;
  id_generator = parts.id_generator;
  limits = parts.limits;
  resource = parts.resource;
}

-- the same parts with this generator (`TracerProviderBuilder::with_id_generator`)
abbrev pub with_id_generator : {S G T : Type 0} → T → ProviderParts S G → ProviderParts S T
with_id_generator id_generator parts = record {
  sampler = parts.sampler;
  id_generator = id_generator;
  limits = parts.limits;
  resource = parts.resource;
}

-- the same parts with this resource, merged into an earlier one
-- (`TracerProviderBuilder::with_resource`)
abbrev pub with_resource : {S G : Type 0} → Parts → ProviderParts S G → ProviderParts S G
with_resource resource parts = record parts {
  resource = Some (option_map_or (λ old. merge old resource) parts.resource resource);
}

module _ {S G : Type 0} where
  -- the provider's tracer for this scope
  abbrev pub tracer_of : ProviderState S G → Scope → TracerState S G
  tracer_of provider scope = record {
    sampler = provider.sampler;
    id_generator = provider.id_generator;
    limits = provider.limits;
    scope = scope;
  }

  -- One of the tracer's spans that start unless telemetry is suppressed.
  abbrev pub TracerStarts : (S → Asked → Answer) → (G → Bool) → (G → Result ℕ IdError → Type 0)
      → (G → Result ℕ IdError → Type 0) → (ℕ → Type 0) → Type 0 → TracerState S G
      → BuilderRecord → ContextRecord → SpanState → Type 0
  TracerStarts answer random may_trace may_span may_show is_counted t builder context span =
      Starts (answer t.sampler) (random t.id_generator) (may_trace t.id_generator)
      (may_span t.id_generator) may_show is_counted t.limits t.scope builder context span

  -- the provider with these parts
  abbrev pub provider_of : ProviderParts S G → ProviderState S G
  provider_of parts = record {
    sampler = parts.sampler;
    id_generator = parts.id_generator;
    limits = parts.limits;
    resource = unwrap_or parts.resource with_defaults;
  }

-- ---- worked rows
sampled_example : flags_of RecordAndSample true ≡ 3
sampled_example = refl

only_recorded_example : flags_of RecordOnly true ≡ 2
only_recorded_example = refl

counted_example : flags_of RecordAndSample false ≡ 1
counted_example = refl

reserved_example : flags_of RecordAndSample (is_random 252) ≡ 1
reserved_example = refl
