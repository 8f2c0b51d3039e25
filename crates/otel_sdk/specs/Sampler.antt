-- The questions to a sampler and its answers.
use Rattle.std.specs.Prelude.{◌≡◌, ℕ, List, [], ◌++◌, Bool, true, false, map, codes, if◌then◌else◌}
use Rattle.std.specs.Prelude.{◌||◌, MatchBool, Option}
use Rattle.std.specs.Prelude.{nat_eq, to_bits}
use Rattle.std.specs.Float.{binary64}
use Rattle.otel_ids.specs.TraceState.{Pair}
use Rattle.otel_ids.specs.SpanContext.{SpanContextRecord}
use Rattle.otel_ids.specs.TraceFlags.{is_sampled}
use Rattle.otel_base.specs.KeyValue.{Attribute}
use Rattle.otel_base.specs.View.{attribute_of}
use Rattle.otel_base.specs.declared.key_value.KeyValue.{KeyValue}
use Rattle.otel_context.specs.Context.{ContextRecord, span_context}
use Rattle.otel_context.specs.declared.span.status.SpanKind.{SpanKind}
use Rattle.opentelemetry.specs.Event.{LinkRecord}
use Rattle.opentelemetry.specs.View.{link_of}
use Rattle.opentelemetry.specs.declared.trace.link.Link.{Link}
use Rattle.otel_sdk.specs.Ratio.{samples, IsNumberText}
use Rattle.otel_sdk.specs.declared.trace.sampler.SamplingDecision.{SamplingDecision}
use Rattle.otel_sdk.specs.declared.trace.sampler.SamplingDecision.TheVariants.{Drop}
use Rattle.otel_sdk.specs.declared.trace.sampler.SamplingDecision.TheVariants.{RecordAndSample}
use Rattle.otel_sdk.specs.declared.trace.sampler.SamplingParameters.{SamplingParameters}
use Rattle.otel_sdk.specs.declared.trace.sampler.SamplingResult.{SamplingResult}
use Rattle.otel_sdk.specs.declared.trace.sampler.Sampler.{Sampler}
use Rattle.otel_sdk.specs.declared.trace.sampler.Sampler.TheVariants.{AlwaysOn, AlwaysOff}
use Rattle.otel_sdk.specs.declared.trace.sampler.Sampler.TheVariants.{TraceIdRatioBased}
use Rattle.otel_sdk.specs.declared.trace.sampler.parent_based.ParentBased.{ParentBased}

-- the parent context, the trace id of the span, and the name, kind, attributes, links and start time
-- from its builder [OpenTelemetry trace SDK, "ShouldSample"; the start time is own]
pub record Asked : Type 0 where
  pub parent : ContextRecord
  pub trace_id : ℕ
  pub name : List ℕ
  pub kind : SpanKind
  pub attributes : List Attribute
  pub links : List LinkRecord
  pub start_time : Option ℕ

-- the decision, attributes to set on the span, and its trace state
-- [OpenTelemetry trace SDK, "ShouldSample"]
pub record Answer : Type 0 where
  pub decision : SamplingDecision
  pub attributes : List Attribute
  pub trace_state : List Pair

-- the question as a record, its attributes and links as lists
abbrev pub asked_of : SamplingParameters → Asked
asked_of span = record {
  parent = span.parent_context.now;
  trace_id = span.trace_id;
  name = span.name.now;
  kind = span.span_kind;
  attributes = map attribute_of span.attributes.now;
  links = map link_of span.links.now;
  start_time = span.start_time;
}

-- a result as a record, its attributes as a list
abbrev pub result_of : SamplingResult → Answer
result_of r = record {
  decision = r.decision;
  attributes = map attribute_of r.attributes.items;
  trace_state = r.trace_state;
}

-- whether the parent is a span: both of its ids are nonzero
abbrev pub has_parent : SpanContextRecord → Bool
has_parent parent = if nat_eq parent.trace_id 0 || nat_eq parent.span_id 0 then false else true

-- ---- the built-in samplers

-- the parent's trace state, or the empty one for a root
abbrev pub parents_trace_state : SpanContextRecord → List Pair
parents_trace_state parent = if has_parent parent then parent.trace_state else []

-- that decision, with no attributes and the parent's trace state
abbrev pub unchanged : SamplingDecision → Asked → Answer
unchanged decision asked = record {
  decision = decision;
  attributes = [];
  trace_state = parents_trace_state (span_context asked.parent);
}

-- the decision for a span of the trace [OpenTelemetry trace SDK, "AlwaysOn", "AlwaysOff",
-- "TraceIdRatioBased"]
abbrev pub decision_of : Sampler → ℕ → SamplingDecision
decision_of AlwaysOn trace_id = RecordAndSample
decision_of AlwaysOff trace_id = Drop
decision_of (TraceIdRatioBased ratio) trace_id =
    if samples (to_bits binary64 ratio) trace_id then RecordAndSample else Drop

-- the text describes the sampler
abbrev pub IsDescription : Sampler → List ℕ → Type 0
IsDescription AlwaysOn text = text ≡ codes "AlwaysOnSampler"
IsDescription AlwaysOff text = text ≡ codes "AlwaysOffSampler"
IsDescription (TraceIdRatioBased ratio) text =
    (number : List ℕ) × IsNumberText (to_bits binary64 ratio) number
    × (text ≡ codes "TraceIdRatioBased{" ++ number ++ codes "}")

-- ---- `ParentBased`

-- The answer of one of five samplers: the first for a root, the others for a parent that is remote
-- and sampled, remote and not sampled, local and sampled, local and not sampled [OpenTelemetry
-- trace SDK, "ParentBased"].
abbrev pub parent_based : (Asked → Answer) → (Asked → Answer) → (Asked → Answer)
    → (Asked → Answer) → (Asked → Answer) → Asked → Answer
parent_based root remote_on remote_off local_on local_off asked =
    let parent = span_context asked.parent in
    let sampled = is_sampled parent.trace_flags in
    if has_parent parent
    then (if parent.is_remote
    then (if sampled then remote_on asked else remote_off asked)
    else (if sampled then local_on asked else local_off asked))
    else root asked

-- One of five samplers was told of the span, the one that was asked about it, and the others are
-- unchanged.
abbrev pub ParentBasedCounts : {A B C D E S : Type 0}
    → (A → ContextRecord → S → A → Type 0) → (B → ContextRecord → S → B → Type 0)
    → (C → ContextRecord → S → C → Type 0) → (D → ContextRecord → S → D → Type 0)
    → (E → ContextRecord → S → E → Type 0) → ParentBased A B C D E → ContextRecord → S
    → ParentBased A B C D E → Type 0
ParentBasedCounts root remote_on remote_off local_on local_off old parent span new =
    let own = span_context parent in
    let sampled = is_sampled own.trace_flags in
    MatchBool (has_parent own) (MatchBool own.is_remote
    (MatchBool sampled
    (remote_on old.remote_parent_sampled parent span new.remote_parent_sampled
    × (new ≡ record old { remote_parent_sampled = new.remote_parent_sampled }))
    (remote_off old.remote_parent_not_sampled parent span new.remote_parent_not_sampled
    × (new ≡ record old { remote_parent_not_sampled = new.remote_parent_not_sampled })))
    (MatchBool sampled
    (local_on old.local_parent_sampled parent span new.local_parent_sampled
    × (new ≡ record old { local_parent_sampled = new.local_parent_sampled }))
    (local_off old.local_parent_not_sampled parent span new.local_parent_not_sampled
    × (new ≡ record old { local_parent_not_sampled = new.local_parent_not_sampled }))))
    (root old.root parent span new.root × (new ≡ record old { root = new.root }))

-- the description made from descriptions of the five samplers
abbrev pub parent_based_text : List ℕ → List ℕ → List ℕ → List ℕ → List ℕ → List ℕ
parent_based_text root remote_on remote_off local_on local_off =
    codes "ParentBased{root:" ++ root
    ++ codes ",remoteParentSampled:" ++ remote_on
    ++ codes ",remoteParentNotSampled:" ++ remote_off
    ++ codes ",localParentSampled:" ++ local_on
    ++ codes ",localParentNotSampled:" ++ local_off ++ codes "}"

-- the text is made from descriptions of the five samplers
abbrev pub DescribesParentBased : (List ℕ → Type 0) → (List ℕ → Type 0) → (List ℕ → Type 0)
    → (List ℕ → Type 0) → (List ℕ → Type 0) → List ℕ → Type 0
DescribesParentBased root remote_on remote_off local_on local_off text =
    (a : List ℕ) × (b : List ℕ) × (c : List ℕ) × (d : List ℕ) × (e : List ℕ)
    × root a × remote_on b × remote_off c × local_on d × local_off e
    × (text ≡ parent_based_text a b c d e)
