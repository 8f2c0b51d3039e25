-- What the events and links that the exporter writes are read as.
use Rattle.std.proofs.Common.{◌≡◌, refl, sym, ap, subst, ◌∙◌, ℕ, ◌+◌, ◌/◌, ◌%◌, ◌<◌, ◌^◌, ◌==◌, arith}
use Rattle.std.proofs.Common.{Bool, true, false, List, map, codes, Some, option_and_then}
use Rattle.opentelemetry.specs.Event.{EventRecord, LinkRecord}
use Rattle.otel_ids.specs.SpanContext.{SpanContextRecord}
use Rattle.otel_ids.specs.TraceState.{IsState, header}
use Rattle.otel_ids.specs.Laws.{cut_value}
use Rattle.otel_ids.specs.Reading.{Reads}
use Rattle.otel_ids.proofs.shared.Header.{header_reads, one_reading}
use Rattle.serde_json.specs.Data.{string}
use Rattle.serde_json.specs.Find.{as_str}
use Rattle.otel_otlp.specs.Json.{Member, object_of, text_unless_empty, trace_id_text, span_id_text}
use Rattle.otel_otlp.specs.Lossless.{IsContextInRange, IsEventInRange, IsLinkInRange}
use Rattle.otel_otlp.specs.ReadBack.{IsHeldEvent, IsHeldLink, read_context, read_event, read_link}
use Rattle.otel_otlp.specs.ReadMembers.{trace_id_of, span_id_of}
use Rattle.otel_otlp.specs.ReadTraces as spec
use Rattle.otel_otlp.specs.Traces.{event, link, flags}
use Rattle.otel_otlp.proofs.Found.{found}
use Rattle.otel_otlp.proofs.OneRecord.{event_front, event_members, link_front, link_members, time_of, title_of, attributes_found, lost_found, linked_trace, linked_span, linked_flags, state_found, none_of_attributes, none_of_losses}
use Rattle.otel_otlp.proofs.ReadBack.{Only, member_in, text_is, text_left_out, wide_is, narrow_is, number_left_out}
use Rattle.otel_otlp.proofs.ReadBackValues.{trace_id_again, span_id_again, only_attributes}
use Rattle.otel_otlp.proofs.ReadErrors.{some_same}

-- ---- events
pub only_event : (e : EventRecord) → IsEventInRange e × IsHeldEvent e
    → Only (spec.IsEvent (event e)) (read_event e)
only_event e h =
    let ms = event_members e in
    let time = wide_is (codes "timeUnixNano") ms e.timestamp h.0.timestamp (time_of e) in
    let name = text_is (codes "name") ms e.name (title_of e) in
    let given = only_attributes ms e.attributes h.0.attributes
    (attributes_found (event_front e) e.attributes e.dropped_attributes_count refl) in
    let lost = number_left_out (codes "droppedAttributesCount") ms e.dropped_attributes_count h.1
    (lost_found (event_front e) e.attributes e.dropped_attributes_count refl) refl in (
      record { is_object = refl; timestamp = time.0; name = name; attributes = given.0; dropped = lost.0 },
      λ y k.
          let n = some_same _ _ (sym k.name ∙ name) in
          let t = time.1 y.timestamp k.timestamp in
          let a = given.1 y.attributes k.attributes in
          let d = lost.1 y.dropped_attributes_count k.dropped in
          λ i. record { name = n i; timestamp = t i; attributes = a i; dropped_attributes_count = d i },
    )

-- ---- flags
pub flags_small : (f : ℕ) (r : Bool) → f < 256 → flags f r < 2 ^ 32
flags_small f true h = omega (arith, h)
flags_small f false h = omega (arith, h)

pub flags_again : (f : ℕ) (r : Bool) → f < 256 → spec.trace_flags (flags f r) ≡ f
flags_again f true h = omega (arith, h)
flags_again f false h = omega (arith, h)

pub remote_again : (f : ℕ) (r : Bool) → f < 256 → spec.is_remote (flags f r) ≡ r
remote_again f true h =
    let e : (f + 768) / 256 % 4 ≡ 3 = omega (arith, h) in ap (λ n. n == 3) e
remote_again f false h =
    let e : (f + 256) / 256 % 4 ≡ 1 = omega (arith, h) in ap (λ n. n == 3) e

-- ---- contexts
-- the members of a context among these
pub record HasContext (ms : List Member) (c : SpanContextRecord) : Type 0 where
  pub trace : found (codes "traceId") ms ≡ Some (string (trace_id_text c.trace_id))
  pub span : found (codes "spanId") ms ≡ Some (string (span_id_text c.span_id))
  pub state : found (codes "traceState") ms
      ≡ found (codes "traceState") (text_unless_empty (codes "traceState") (header c.trace_state))

pub only_context : (ms : List Member) (c : SpanContextRecord) (r remote : Bool) → HasContext ms c
    → IsContextInRange c → IsState c.trace_state
    → Only (spec.IsContext (object_of ms) (flags c.trace_flags r) remote) (read_context remote c)
only_context ms c r remote h fits state =
    let d = object_of ms in
    let trace =
    ap (λ o. option_and_then trace_id_of (option_and_then as_str o))
    (member_in (codes "traceId") ms (Some (string (trace_id_text c.trace_id))) h.trace)
    ∙ trace_id_again c.trace_id fits.trace_id in
    let span =
    ap (λ o. option_and_then span_id_of (option_and_then as_str o))
    (member_in (codes "spanId") ms (Some (string (span_id_text c.span_id))) h.span)
    ∙ span_id_again c.span_id fits.span_id in
    let text = text_left_out (codes "traceState") ms (header c.trace_state) h.state refl in
    let reads = header_reads c.trace_state state in (
      record {
        trace_id = trace;
        span_id = span;
        trace_flags = sym (flags_again c.trace_flags r fits.flags);
        is_remote = refl;
        trace_state = record { text = header c.trace_state; has_text = text; reads = reads };
      },
      λ y k.
          let t = some_same _ _ (sym k.trace_id ∙ trace) in
          let s = some_same _ _ (sym k.span_id ∙ span) in
          let f = k.trace_flags ∙ flags_again c.trace_flags r fits.flags in
          let m = k.is_remote in
          let same = some_same _ _ (sym k.trace_state.has_text ∙ text) in
          let p = one_reading (header c.trace_state) y.trace_state (map cut_value c.trace_state)
          (subst (λ x. Reads x y.trace_state) same k.trace_state.reads) reads in
          λ i. record { trace_id = t i; span_id = s i; trace_flags = f i; is_remote = m i; trace_state = p i },
    )

-- ---- links
link_context : (l : LinkRecord) → HasContext (link_members l) l.span_context
link_context l = record { trace = linked_trace l; span = linked_span l; state = state_found l }

pub only_link : (l : LinkRecord) → IsLinkInRange l × IsHeldLink l
    → Only (spec.IsLink (link l)) (read_link l)
only_link l h =
    let ms = link_members l in
    let c = l.span_context in
    let fits = h.0.context.flags in
    let flagged = narrow_is (codes "flags") ms (flags c.trace_flags c.is_remote)
    (flags_small c.trace_flags c.is_remote fits) (linked_flags l) in
    let remote = remote_again c.trace_flags c.is_remote fits in
    let context = only_context ms c c.is_remote c.is_remote (link_context l) h.0.context h.1.state in
    let given = only_attributes ms l.attributes h.0.attributes
    (attributes_found (link_front l) l.attributes l.dropped_attributes_count (none_of_attributes l)) in
    let lost = number_left_out (codes "droppedAttributesCount") ms l.dropped_attributes_count h.1.dropped
    (lost_found (link_front l) l.attributes l.dropped_attributes_count (none_of_losses l)) refl in (
      record {
        is_object = refl;
        flags = flags c.trace_flags c.is_remote;
        has_flags = flagged.0;
        context = subst (λ b. spec.IsContext (link l) (flags c.trace_flags c.is_remote) b
            (read_context c.is_remote c)) (sym remote) context.0;
        attributes = given.0;
        dropped = lost.0;
      },
      λ y k.
          let same = flagged.1 k.flags k.has_flags in
          let moved = subst (λ n. spec.IsContext (link l) n (spec.is_remote n) y.span_context) same k.context in
          let s = context.1 y.span_context
          (subst (λ b. spec.IsContext (link l) (flags c.trace_flags c.is_remote) b y.span_context) remote moved) in
          let a = given.1 y.attributes k.attributes in
          let d = lost.1 y.dropped_attributes_count k.dropped in
          λ i. record { span_context = s i; attributes = a i; dropped_attributes_count = d i },
    )
