-- No call of a span changes its ids.
use Rattle.std.specs.Prelude.{◌≡◌, ℕ, Bool, true, false, List, Option, Some, None, refl}
use Rattle.std.specs.Prelude.{if◌then◌else◌, option_map}
use Rattle.std.proofs.Common.{ap}
use Rattle.otel_base.specs.KeyValue.{Attribute}
use Rattle.otel_context.specs.declared.span.status.Status.{Status}
use Rattle.otel_ids.specs.SpanContext.{SpanContextRecord}
use Rattle.opentelemetry.specs.Event.{LinkRecord}
use Rattle.otel_sdk.specs.Processor.{ids_of}
use Rattle.otel_sdk_span.specs.Span.{SpanState, after_attribute, after_end, after_event, after_link}
use Rattle.otel_sdk_span.specs.Span.{after_name, after_status, recording, says_nothing}
use Rattle.otel_sdk_span.specs.Span.{with_kept_link, with_link}
use Rattle.otel_sdk_span.specs.SpanData.{SpanRecord}
use Rattle.otel_sdk_span.specs.declared.limits.SpanLimits.{SpanLimits}

-- the ids of the parent in recorded data
abbrev parent_ids : SpanRecord → ℕ × Bool
parent_ids d = (d.parent_span_id, d.parent_span_is_remote)

if-ids : (b : Bool) (change : SpanRecord → SpanRecord)
    → ((d : SpanRecord) → parent_ids (change d) ≡ parent_ids d) → (o : Option SpanRecord)
    → option_map parent_ids (if b then o else option_map change o) ≡ option_map parent_ids o
if-ids true change same o = refl
if-ids false change same None = refl
if-ids false change same (Some d) = ap Some (same d)

recording-ids : (s : SpanState) (change : SpanRecord → SpanRecord)
    → ((d : SpanRecord) → parent_ids (change d) ≡ parent_ids d)
    → ids_of (recording s change) ≡ ids_of s
recording-ids s change same =
    ap (λ (p : Option (ℕ × Bool)). record { context = s.context; parent = p })
    (if-ids s.has_ended change same s.recorded)

link-ids_of : (b : Bool) (limits : SpanLimits) (l : LinkRecord) (d : SpanRecord)
    → parent_ids (if b then d else with_kept_link limits d l) ≡ parent_ids d
link-ids_of true limits l d = refl
link-ids_of false limits l d = refl

-- ---- each call

pub event : (s : SpanState) (name : List ℕ) (time : ℕ) (attributes : List Attribute)
    → ids_of (after_event s name time attributes) ≡ ids_of s
event s name time attributes = recording-ids s _ (λ d. refl)

pub attribute : (s : SpanState) (a : Attribute) → ids_of (after_attribute s a) ≡ ids_of s
attribute s a = recording-ids s _ (λ d. refl)

pub link : (s : SpanState) (linked : SpanContextRecord) (attributes : List Attribute)
    → ids_of (after_link s linked attributes) ≡ ids_of s
link s linked attributes =
    let l : LinkRecord = record {
      span_context = linked;
      attributes = attributes;
      dropped_attributes_count = 0;
    } in
    recording-ids s (λ d. with_link s.limits d l) (λ d. link-ids_of (says_nothing l) s.limits l d)

pub status : (s : SpanState) (x : Status) → ids_of (after_status s x) ≡ ids_of s
status s x = recording-ids s _ (λ d. refl)

pub name : (s : SpanState) (n : List ℕ) → ids_of (after_name s n) ≡ ids_of s
name s n = recording-ids s _ (λ d. refl)

pub end : (s : SpanState) (time : ℕ) → ids_of (after_end s time) ≡ ids_of s
end s time = recording-ids s (λ d. record d { end_time = time }) (λ d. refl)
