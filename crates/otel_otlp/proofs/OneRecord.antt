-- Events and links that have equal values.
use Rattle.std.proofs.Common.{◌≡◌, ℕ, ◌==◌, List, ◌++◌, map, Some, None, false, refl, sym, ap, ◌∙◌, codes, decimal, length}
use Rattle.std.proofs.lemmas.Fmt.{decimal_injective}
use Rattle.std.specs.List.{All, AllZip}
use Rattle.std.specs.Str.{bytes_eq}
use Rattle.opentelemetry.specs.Event.{EventRecord, LinkRecord}
use Rattle.otel_base.specs.KeyValue.{Attribute}
use Rattle.otel_ids.specs.SpanContext.{SpanContextRecord}
use Rattle.otel_ids.specs.TraceState.{header}
use Rattle.serde_json.specs.Data.{string, number, unsigned}
use Rattle.otel_otlp.specs.Common.{attributes_member, key_value}
use Rattle.otel_otlp.specs.Json.{Member, text_member, number_member, decimal_member, number_unless_zero, text_unless_empty, trace_id_text, span_id_text}
use Rattle.otel_otlp.specs.Lossless.{IsEventInRange, IsLinkInRange, SameEvent, SameLink}
use Rattle.otel_otlp.specs.Traces.{event, link, flags, context_members}
use Rattle.otel_otlp.proofs.Found.{or_else, or_else-none, found, same_found, found-append, found-before, no_list, no_number, no_text, text_in, number_in}
use Rattle.otel_otlp.proofs.Ids.{same_trace_id, same_span_id}
use Rattle.otel_otlp.proofs.Lists.{each, items_in, unless_empty_again}
use Rattle.otel_otlp.proofs.LeftOut.{text_again, number_again, same_flags}
use Rattle.otel_otlp.proofs.OneAttribute.{same_attributes}

-- ---- members with attributes and the number of dropped attributes after them
abbrev pub lost : ℕ → List Member
lost n = number_unless_zero (codes "droppedAttributesCount") n

abbrev with_attributes : List Member → List Attribute → ℕ → List Member
with_attributes front xs n = front ++ attributes_member xs ++ lost n

in_front : (q : List ℕ) (front : List Member) (xs : List Attribute) (n : ℕ) → bytes_eq q (codes "attributes") ≡ false → bytes_eq q (codes "droppedAttributesCount") ≡ false
    → found q (with_attributes front xs n) ≡ found q front
in_front q front xs n a d =
    found-before q (front ++ attributes_member xs) (lost n) (no_number q (codes "droppedAttributesCount") n d)
    ∙ found-before q front (attributes_member xs) (no_list q (codes "attributes") (map key_value xs) a)

pub attributes_found : (front : List Member) (xs : List Attribute) (n : ℕ) → found (codes "attributes") front ≡ None → found (codes "attributes") (with_attributes front xs n) ≡ found (codes "attributes") (attributes_member xs)
attributes_found front xs n none =
    let q = codes "attributes" in
    found-before q (front ++ attributes_member xs) (lost n) (no_number q (codes "droppedAttributesCount") n refl)
    ∙ found-append q front (attributes_member xs)
    ∙ ap (or_else (found q (attributes_member xs))) none
    ∙ or_else-none (found q (attributes_member xs))

attributes_behind : (front : List Member) (xs : List Attribute) (n : ℕ) → found (codes "attributes") front ≡ None → items_in (found (codes "attributes") (with_attributes front xs n)) ≡ map key_value xs
attributes_behind front xs n none =
    ap items_in (attributes_found front xs n none) ∙ unless_empty_again (codes "attributes") (map key_value xs) refl

pub lost_found : (front : List Member) (xs : List Attribute) (n : ℕ) → found (codes "droppedAttributesCount") front ≡ None → found (codes "droppedAttributesCount") (with_attributes front xs n) ≡ found (codes "droppedAttributesCount") (lost n)
lost_found front xs n none =
    let q = codes "droppedAttributesCount" in
    found-append q (front ++ attributes_member xs) (lost n)
    ∙ ap (or_else (found q (lost n))) (found-before q front (attributes_member xs) (no_list q (codes "attributes") (map key_value xs) refl) ∙ none)
    ∙ or_else-none (found q (lost n))

lost_behind : (front : List Member) (xs : List Attribute) (n : ℕ) → found (codes "droppedAttributesCount") front ≡ None → number_in (found (codes "droppedAttributesCount") (with_attributes front xs n)) ≡ n
lost_behind front xs n none =
    ap number_in (lost_found front xs n none) ∙ number_again (codes "droppedAttributesCount") n (n == 0) refl refl

-- ---- events
abbrev pub event_front : EventRecord → List Member
event_front e = decimal_member (codes "timeUnixNano") e.timestamp ++ text_member (codes "name") e.name

abbrev pub event_members : EventRecord → List Member
event_members e = with_attributes (event_front e) e.attributes e.dropped_attributes_count

pub time_of : (e : EventRecord) → found (codes "timeUnixNano") (event_members e) ≡ Some (string (decimal e.timestamp))
time_of e = in_front (codes "timeUnixNano") (event_front e) e.attributes e.dropped_attributes_count refl refl

pub title_of : (e : EventRecord) → found (codes "name") (event_members e) ≡ Some (string e.name)
title_of e = in_front (codes "name") (event_front e) e.attributes e.dropped_attributes_count refl refl

same_event : (a b : EventRecord) → IsEventInRange a → IsEventInRange b → event a ≡ event b → SameEvent a b
same_event a b in_a in_b e =
    let same = λ (q : List ℕ). same_found q (event_members a) (event_members b) e in
    record {
      name = ap text_in (sym (title_of a) ∙ same (codes "name") ∙ title_of b);
      timestamp = decimal_injective a.timestamp b.timestamp in_a.timestamp in_b.timestamp (ap text_in (sym (time_of a) ∙ same (codes "timeUnixNano") ∙ time_of b));
      attributes = same_attributes a.attributes b.attributes in_a.attributes in_b.attributes (sym (attributes_behind (event_front a) a.attributes a.dropped_attributes_count refl) ∙ ap items_in (same (codes "attributes")) ∙ attributes_behind (event_front b) b.attributes b.dropped_attributes_count refl);
      dropped_attributes = sym (lost_behind (event_front a) a.attributes a.dropped_attributes_count refl) ∙ ap number_in (same (codes "droppedAttributesCount")) ∙ lost_behind (event_front b) b.attributes b.dropped_attributes_count refl;
    }

pub same_events : (xs ys : List EventRecord) → All IsEventInRange xs → All IsEventInRange ys → map event xs ≡ map event ys → AllZip SameEvent xs ys
same_events = each event event IsEventInRange IsEventInRange SameEvent same_event

-- ---- links
abbrev ids : SpanContextRecord → List Member
ids c = text_member (codes "traceId") (trace_id_text c.trace_id) ++ text_member (codes "spanId") (span_id_text c.span_id)

abbrev pub state : SpanContextRecord → List Member
state c = text_unless_empty (codes "traceState") (header c.trace_state)

abbrev link_flags : LinkRecord → List Member
link_flags l = number_member (codes "flags") (flags l.span_context.trace_flags l.span_context.is_remote)

abbrev pub link_front : LinkRecord → List Member
link_front l = context_members l.span_context ++ link_flags l

abbrev pub link_members : LinkRecord → List Member
link_members l = with_attributes (link_front l) l.attributes l.dropped_attributes_count

in_link : (q : List ℕ) (l : LinkRecord) → bytes_eq q (codes "attributes") ≡ false → bytes_eq q (codes "droppedAttributesCount") ≡ false → found q (link_members l) ≡ found q (link_front l)
in_link q l = in_front q (link_front l) l.attributes l.dropped_attributes_count

-- after the ids come the trace state, which may be left out, and the flags
in_ids : (q : List ℕ) (l : LinkRecord) → found q (link_flags l) ≡ None → bytes_eq q (codes "traceState") ≡ false → found q (link_front l) ≡ found q (ids l.span_context)
in_ids q l f t =
    found-before q (context_members l.span_context) (link_flags l) f
    ∙ found-before q (ids l.span_context) (state l.span_context) (no_text q (codes "traceState") (header l.span_context.trace_state) t)

pub linked_trace : (l : LinkRecord) → found (codes "traceId") (link_members l) ≡ Some (string (trace_id_text l.span_context.trace_id))
linked_trace l = in_link (codes "traceId") l refl refl ∙ in_ids (codes "traceId") l refl refl

pub linked_span : (l : LinkRecord) → found (codes "spanId") (link_members l) ≡ Some (string (span_id_text l.span_context.span_id))
linked_span l = in_link (codes "spanId") l refl refl ∙ in_ids (codes "spanId") l refl refl

pub linked_flags : (l : LinkRecord) → found (codes "flags") (link_members l) ≡ Some (number (unsigned (flags l.span_context.trace_flags l.span_context.is_remote)))
linked_flags l = in_link (codes "flags") l refl refl ∙ found-append (codes "flags") (context_members l.span_context) (link_flags l)

pub state_found : (l : LinkRecord) → found (codes "traceState") (link_members l) ≡ found (codes "traceState") (state l.span_context)
state_found l =
    let q = codes "traceState" in
    in_link q l refl refl
    ∙ found-before q (context_members l.span_context) (link_flags l) refl
    ∙ found-append q (ids l.span_context) (state l.span_context) ∙ or_else-none (found q (state l.span_context))

linked_state : (l : LinkRecord) → text_in (found (codes "traceState") (link_members l)) ≡ header l.span_context.trace_state
linked_state l =
    let q = codes "traceState" in
    ap text_in (state_found l)
    ∙ text_again q (header l.span_context.trace_state) (length (header l.span_context.trace_state) == 0) refl refl

pub none_of_attributes : (l : LinkRecord) → found (codes "attributes") (link_front l) ≡ None
none_of_attributes l = in_ids (codes "attributes") l refl refl

pub none_of_losses : (l : LinkRecord) → found (codes "droppedAttributesCount") (link_front l) ≡ None
none_of_losses l = in_ids (codes "droppedAttributesCount") l refl refl

same_link : (a b : LinkRecord) → IsLinkInRange a → IsLinkInRange b → link a ≡ link b → SameLink a b
same_link a b in_a in_b e =
    let same = λ (q : List ℕ). same_found q (link_members a) (link_members b) e in
    let c = a.span_context in
    let d = b.span_context in
    let flagged = same_flags c.trace_flags d.trace_flags c.is_remote d.is_remote in_a.context.flags in_b.context.flags (ap number_in (sym (linked_flags a) ∙ same (codes "flags") ∙ linked_flags b)) in
    record {
      context = record {
        trace_id = same_trace_id c.trace_id d.trace_id in_a.context.trace_id in_b.context.trace_id (ap text_in (sym (linked_trace a) ∙ same (codes "traceId") ∙ linked_trace b));
        span_id = same_span_id c.span_id d.span_id in_a.context.span_id in_b.context.span_id (ap text_in (sym (linked_span a) ∙ same (codes "spanId") ∙ linked_span b));
        flags = flagged.0;
        trace_state = sym (linked_state a) ∙ ap text_in (same (codes "traceState")) ∙ linked_state b;
      };
      remote = flagged.1;
      attributes = same_attributes a.attributes b.attributes in_a.attributes in_b.attributes (sym (attributes_behind (link_front a) a.attributes a.dropped_attributes_count (none_of_attributes a)) ∙ ap items_in (same (codes "attributes")) ∙ attributes_behind (link_front b) b.attributes b.dropped_attributes_count (none_of_attributes b));
      dropped_attributes = sym (lost_behind (link_front a) a.attributes a.dropped_attributes_count (none_of_losses a)) ∙ ap number_in (same (codes "droppedAttributesCount")) ∙ lost_behind (link_front b) b.attributes b.dropped_attributes_count (none_of_losses b);
    }

pub same_links : (xs ys : List LinkRecord) → All IsLinkInRange xs → All IsLinkInRange ys → map link xs ≡ map link ys → AllZip SameLink xs ys
same_links = each link link IsLinkInRange IsLinkInRange SameLink same_link
