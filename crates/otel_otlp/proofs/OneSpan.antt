-- The value under each name in the value of a span.
use Rattle.std.proofs.Common.{length, [], if◌then◌else◌, Option, true≢false, ◌≡◌, ℕ, ◌<◌, ◌^◌, ◌==◌, List, ◌++◌, map, Some, None, Bool, true, false, refl, sym, ap, ◌∙◌, codes, decimal, arith}
use Rattle.std.proofs.lemmas.Fmt.{decimal_injective}
use Rattle.std.specs.Str.{bytes_eq}
use Rattle.otel_context.specs.declared.span.status.SpanKind.{SpanKind}
use Rattle.otel_context.specs.declared.span.status.SpanKind.TheVariants as kind
use Rattle.otel_context.specs.declared.span.status.Status.{Status}
use Rattle.otel_context.specs.declared.span.status.Status.TheVariants as status
use Rattle.otel_ids.specs.TraceState.{header}
use Rattle.otel_sdk_span.specs.SpanData.{SpanRecord}
use Rattle.serde_json.specs.Data.{Data, string, number, unsigned}
use Rattle.otel_otlp.specs.Common.{attributes_member, key_value}
use Rattle.otel_otlp.specs.Json.{Member, text_member, number_member, decimal_member, number_unless_zero, text_unless_empty, trace_id_text, span_id_text}
use Rattle.otel_otlp.specs.Lossless.{EqualValuesSaySame}
use Rattle.otel_otlp.specs.Traces.{event, link, flags, context_members, success, failure, status_member, kind_number, parent_member, identity, work, events_member, links_member, records, losses}
use Rattle.otel_otlp.proofs.Ids.{same_trace_id, same_span_id}
use Rattle.otel_otlp.proofs.LeftOut.{text_again, zero_is, number_again, same_flags}
use Rattle.otel_otlp.proofs.Lists.{items_in, unless_empty_again}
use Rattle.otel_otlp.proofs.OneAttribute.{same_attributes}
use Rattle.otel_otlp.proofs.OneRecord.{same_events, same_links}
use Rattle.otel_otlp.proofs.Found.{or_else, or_else-none, if_so, found, same_found, found-append, found-before, if_none, no_list, no_number, no_text, text_in, number_in}

abbrev pub members : SpanRecord → List Member
members s = identity s ++ work s ++ records s ++ losses s

-- the members of its work except the status
abbrev four : SpanRecord → List Member
four s =
    text_member (codes "name") s.name ++ number_member (codes "kind") (kind_number s.span_kind)
    ++ decimal_member (codes "startTimeUnixNano") s.start_time ++ decimal_member (codes "endTimeUnixNano") s.end_time

no_records : (q : List ℕ) (s : SpanRecord) → bytes_eq q (codes "attributes") ≡ false → bytes_eq q (codes "events") ≡ false → bytes_eq q (codes "links") ≡ false → found q (records s) ≡ None
no_records q s a e l =
    found-before q (attributes_member s.attributes ++ events_member s.events) (links_member s.links) (no_list q (codes "links") (map link s.links) l)
    ∙ found-before q (attributes_member s.attributes) (events_member s.events) (no_list q (codes "events") (map event s.events) e)
    ∙ no_list q (codes "attributes") (map key_value s.attributes) a

no_losses : (q : List ℕ) (s : SpanRecord) → bytes_eq q (codes "droppedAttributesCount") ≡ false → bytes_eq q (codes "droppedEventsCount") ≡ false → bytes_eq q (codes "droppedLinksCount") ≡ false → found q (losses s) ≡ None
no_losses q s a e l =
    found-before q (number_unless_zero (codes "droppedAttributesCount") s.dropped_attributes ++ number_unless_zero (codes "droppedEventsCount") s.dropped_events) (number_unless_zero (codes "droppedLinksCount") s.dropped_links) (no_number q (codes "droppedLinksCount") s.dropped_links l)
    ∙ found-before q (number_unless_zero (codes "droppedAttributesCount") s.dropped_attributes) (number_unless_zero (codes "droppedEventsCount") s.dropped_events) (no_number q (codes "droppedEventsCount") s.dropped_events e)
    ∙ no_number q (codes "droppedAttributesCount") s.dropped_attributes a

no_status : (q : List ℕ) (st : Status) → bytes_eq q (codes "status") ≡ false → found q (status_member st) ≡ None
no_status q status.Unset e = refl
no_status q status.Ok e = ap (λ b. if_so b success) e
no_status q (status.Error d) e = ap (λ b. if_so b (failure d)) e

-- none of the names that may be left out after the first four
record IsPlain (q : List ℕ) : Type 0 where
  a : bytes_eq q (codes "attributes") ≡ false
  e : bytes_eq q (codes "events") ≡ false
  l : bytes_eq q (codes "links") ≡ false
  da : bytes_eq q (codes "droppedAttributesCount") ≡ false
  de : bytes_eq q (codes "droppedEventsCount") ≡ false
  dl : bytes_eq q (codes "droppedLinksCount") ≡ false
  st : bytes_eq q (codes "status") ≡ false

in_span : (q : List ℕ) (s : SpanRecord) → IsPlain q → found q (members s) ≡ or_else (found q (four s)) (found q (identity s))
in_span q s p =
    found-before q (identity s ++ work s ++ records s) (losses s) (no_losses q s p.da p.de p.dl)
    ∙ found-before q (identity s ++ work s) (records s) (no_records q s p.a p.e p.l)
    ∙ found-append q (identity s) (work s)
    ∙ ap (λ o. or_else o (found q (identity s))) (found-before q (four s) (status_member s.status) (no_status q s.status p.st))

pub name_of : (s : SpanRecord) → found (codes "name") (members s) ≡ Some (string s.name)
name_of s = in_span (codes "name") s (record { a = refl; e = refl; l = refl; da = refl; de = refl; dl = refl; st = refl })

pub kind_of : (s : SpanRecord) → found (codes "kind") (members s) ≡ Some (number (unsigned (kind_number s.span_kind)))
kind_of s = in_span (codes "kind") s (record { a = refl; e = refl; l = refl; da = refl; de = refl; dl = refl; st = refl })

pub start_of : (s : SpanRecord) → found (codes "startTimeUnixNano") (members s) ≡ Some (string (decimal s.start_time))
start_of s = in_span (codes "startTimeUnixNano") s (record { a = refl; e = refl; l = refl; da = refl; de = refl; dl = refl; st = refl })

pub end_of : (s : SpanRecord) → found (codes "endTimeUnixNano") (members s) ≡ Some (string (decimal s.end_time))
end_of s = in_span (codes "endTimeUnixNano") s (record { a = refl; e = refl; l = refl; da = refl; de = refl; dl = refl; st = refl })

abbrev pub flags_member : SpanRecord → List Member
flags_member s = number_member (codes "flags") (flags s.span_context.trace_flags s.parent_span_is_remote)

pub flags_of : (s : SpanRecord) → found (codes "flags") (members s) ≡ Some (number (unsigned (flags s.span_context.trace_flags s.parent_span_is_remote)))
flags_of s =
    in_span (codes "flags") s (record { a = refl; e = refl; l = refl; da = refl; de = refl; dl = refl; st = refl })
    ∙ found-append (codes "flags") (context_members s.span_context ++ parent_member s.parent_span_id) (flags_member s)

-- the ids come before the members that may be left out
in_identity : (q : List ℕ) (s : SpanRecord) → found q (flags_member s) ≡ None → bytes_eq q (codes "parentSpanId") ≡ false → bytes_eq q (codes "traceState") ≡ false
    → found q (identity s) ≡ found q (text_member (codes "traceId") (trace_id_text s.span_context.trace_id) ++ text_member (codes "spanId") (span_id_text s.span_context.span_id))
in_identity q s f p t =
    found-before q (context_members s.span_context ++ parent_member s.parent_span_id) (flags_member s) f
    ∙ found-before q (context_members s.span_context) (parent_member s.parent_span_id) (if_none (s.parent_span_id == 0) q (text_member (codes "parentSpanId") (span_id_text s.parent_span_id)) (ap (λ b. if_so b (string (span_id_text s.parent_span_id))) p))
    ∙ found-before q (text_member (codes "traceId") (trace_id_text s.span_context.trace_id) ++ text_member (codes "spanId") (span_id_text s.span_context.span_id)) (text_unless_empty (codes "traceState") (header s.span_context.trace_state)) (no_text q (codes "traceState") (header s.span_context.trace_state) t)

pub trace_id_of : (s : SpanRecord) → found (codes "traceId") (members s) ≡ Some (string (trace_id_text s.span_context.trace_id))
trace_id_of s = in_span (codes "traceId") s (record { a = refl; e = refl; l = refl; da = refl; de = refl; dl = refl; st = refl }) ∙ in_identity (codes "traceId") s refl refl refl

pub span_id_of : (s : SpanRecord) → found (codes "spanId") (members s) ≡ Some (string (span_id_text s.span_context.span_id))
span_id_of s = in_span (codes "spanId") s (record { a = refl; e = refl; l = refl; da = refl; de = refl; dl = refl; st = refl }) ∙ in_identity (codes "spanId") s refl refl refl

pub state_found : (s : SpanRecord) → found (codes "traceState") (members s) ≡ found (codes "traceState") (text_unless_empty (codes "traceState") (header s.span_context.trace_state))
state_found s =
    let q = codes "traceState" in
    let ids = text_member (codes "traceId") (trace_id_text s.span_context.trace_id) ++ text_member (codes "spanId") (span_id_text s.span_context.span_id) in
    let state = text_unless_empty (codes "traceState") (header s.span_context.trace_state) in
    in_span q s (record { a = refl; e = refl; l = refl; da = refl; de = refl; dl = refl; st = refl })
    ∙ found-before q (context_members s.span_context ++ parent_member s.parent_span_id) (flags_member s) refl
    ∙ found-before q (context_members s.span_context) (parent_member s.parent_span_id) (if_none (s.parent_span_id == 0) q (text_member (codes "parentSpanId") (span_id_text s.parent_span_id)) refl)
    ∙ found-append q ids state ∙ or_else-none (found q state)

state_of : (s : SpanRecord) → text_in (found (codes "traceState") (members s)) ≡ header s.span_context.trace_state
state_of s =
    let q = codes "traceState" in
    ap text_in (state_found s) ∙ text_again q (header s.span_context.trace_state) (length (header s.span_context.trace_state) == 0) refl refl

pub message_of : (d : List ℕ) → text_in (found (codes "message") (number_member (codes "code") 2 ++ text_unless_empty (codes "message") d)) ≡ d
message_of d =
    ap text_in (found-append (codes "message") (number_member (codes "code") 2) (text_unless_empty (codes "message") d) ∙ or_else-none (found (codes "message") (text_unless_empty (codes "message") d)))
    ∙ text_again (codes "message") d (length d == 0) refl refl

pub code_of : (d : List ℕ) → found (codes "code") (number_member (codes "code") 2 ++ text_unless_empty (codes "message") d) ≡ Some (number (unsigned 2))
code_of d = found-before (codes "code") (number_member (codes "code") 2) (text_unless_empty (codes "message") d) (no_text (codes "code") (codes "message") d refl)

abbrev is_there : Option Data → Bool
is_there None = false
is_there (Some x) = true

abbrev inside : Data → Option Data → Data
inside d None = d
inside d (Some x) = x

same_status : (a b : Status) → found (codes "status") (status_member a) ≡ found (codes "status") (status_member b) → a ≡ b
same_status status.Unset status.Unset e = refl
same_status status.Unset status.Ok e = absurd (true≢false (sym (ap is_there e)))
same_status status.Unset (status.Error d) e = absurd (true≢false (sym (ap is_there e)))
same_status status.Ok status.Unset e = absurd (true≢false (ap is_there e))
same_status status.Ok status.Ok e = refl
same_status status.Ok (status.Error d) e =
    let codes_are : 1 ≡ 2 = ap number_in (same_found (codes "code") (number_member (codes "code") 1) (number_member (codes "code") 2 ++ text_unless_empty (codes "message") d) (ap (inside success) e) ∙ code_of d) in
    absurd (omega (arith, codes_are))
same_status (status.Error d) status.Unset e = absurd (true≢false (ap is_there e))
same_status (status.Error d) status.Ok e =
    let codes_are : 2 ≡ 1 = ap number_in (sym (code_of d) ∙ same_found (codes "code") (number_member (codes "code") 2 ++ text_unless_empty (codes "message") d) (number_member (codes "code") 1) (ap (inside success) e)) in
    absurd (omega (arith, codes_are))
same_status (status.Error d) (status.Error c) e =
    ap status.Error
    (sym (message_of d)
    ∙ ap text_in (same_found (codes "message") (number_member (codes "code") 2 ++ text_unless_empty (codes "message") d) (number_member (codes "code") 2 ++ text_unless_empty (codes "message") c) (ap (inside success) e))
    ∙ message_of c)

pub status_of : (s : SpanRecord) → found (codes "status") (members s) ≡ found (codes "status") (status_member s.status)
status_of s =
    let q = codes "status" in
    found-before q (identity s ++ work s ++ records s) (losses s) (no_losses q s refl refl refl)
    ∙ found-before q (identity s ++ work s) (records s) (no_records q s refl refl refl)
    ∙ found-append q (identity s) (work s)
    ∙ ap (or_else (found q (work s))) (in_identity q s refl refl refl)
    ∙ or_else-none (found q (work s))
    ∙ found-append q (four s) (status_member s.status)
    ∙ or_else-none (found q (status_member s.status))

-- the kind with this number
abbrev numbered : ℕ → SpanKind
numbered n = if n == 1 then kind.Internal else if n == 2 then kind.Server else if n == 3 then kind.Client else if n == 4 then kind.Producer else kind.Consumer

kind_again : (k : SpanKind) → numbered (kind_number k) ≡ k
kind_again kind.Internal = refl
kind_again kind.Server = refl
kind_again kind.Client = refl
kind_again kind.Producer = refl
kind_again kind.Consumer = refl

-- the id of a parent, which is left out if it is 0
same_parent : (q : List ℕ) (a b : ℕ) (za zb : Bool) → bytes_eq q q ≡ true → (a == 0) ≡ za → (b == 0) ≡ zb → a < 2 ^ 64 → b < 2 ^ 64
    → found q (if za then [] else text_member q (span_id_text a)) ≡ found q (if zb then [] else text_member q (span_id_text b)) → a ≡ b
same_parent q a b true true r ea eb ha hb e = zero_is a ea ∙ sym (zero_is b eb)
same_parent q a b true false r ea eb ha hb e = absurd (true≢false (sym (ap is_there (e ∙ ap (λ c. if_so c (string (span_id_text b))) r))))
same_parent q a b false true r ea eb ha hb e = absurd (true≢false (ap is_there (sym (ap (λ c. if_so c (string (span_id_text a))) r) ∙ e)))
same_parent q a b false false r ea eb ha hb e =
    same_span_id a b ha hb (ap text_in (sym (ap (λ c. if_so c (string (span_id_text a))) r) ∙ e ∙ ap (λ c. if_so c (string (span_id_text b))) r))

abbrev ids : SpanRecord → List Member
ids s = text_member (codes "traceId") (trace_id_text s.span_context.trace_id) ++ text_member (codes "spanId") (span_id_text s.span_context.span_id)

pub parent_of : (s : SpanRecord) → found (codes "parentSpanId") (members s) ≡ found (codes "parentSpanId") (parent_member s.parent_span_id)
parent_of s =
    let q = codes "parentSpanId" in
    in_span q s (record { a = refl; e = refl; l = refl; da = refl; de = refl; dl = refl; st = refl })
    ∙ found-before q (context_members s.span_context ++ parent_member s.parent_span_id) (flags_member s) refl
    ∙ found-append q (context_members s.span_context) (parent_member s.parent_span_id)
    ∙ ap (or_else (found q (parent_member s.parent_span_id)))
    (found-before q (ids s) (text_unless_empty (codes "traceState") (header s.span_context.trace_state)) (no_text q (codes "traceState") (header s.span_context.trace_state) refl))
    ∙ or_else-none (found q (parent_member s.parent_span_id))

-- a name that no member before the records has
pub record IsBehind (q : List ℕ) (s : SpanRecord) : Type 0 where
  st : bytes_eq q (codes "status") ≡ false
  p : bytes_eq q (codes "parentSpanId") ≡ false
  t : bytes_eq q (codes "traceState") ≡ false
  four : found q (four s) ≡ None
  flags : found q (flags_member s) ≡ None
  ids : found q (ids s) ≡ None

no_start : (q : List ℕ) (s : SpanRecord) → IsBehind q s → found q (identity s ++ work s) ≡ None
no_start q s h =
    found-append q (identity s) (work s)
    ∙ ap (λ o. or_else o (found q (identity s))) (found-before q (four s) (status_member s.status) (no_status q s.status h.st) ∙ h.four)
    ∙ in_identity q s h.flags h.p h.t ∙ h.ids

pub loss_of : (q : List ℕ) (s : SpanRecord) → IsBehind q s → bytes_eq q (codes "attributes") ≡ false → bytes_eq q (codes "events") ≡ false → bytes_eq q (codes "links") ≡ false
    → found q (members s) ≡ found q (losses s)
loss_of q s h a e l =
    found-append q (identity s ++ work s ++ records s) (losses s)
    ∙ ap (or_else (found q (losses s))) (found-before q (identity s ++ work s) (records s) (no_records q s a e l) ∙ no_start q s h)
    ∙ or_else-none (found q (losses s))

record_of : (q : List ℕ) (s : SpanRecord) → IsBehind q s → found q (losses s) ≡ None → found q (members s) ≡ found q (records s)
record_of q s h l =
    found-before q (identity s ++ work s ++ records s) (losses s) l
    ∙ found-append q (identity s ++ work s) (records s)
    ∙ ap (or_else (found q (records s))) (no_start q s h)
    ∙ or_else-none (found q (records s))

pub attributes_found : (s : SpanRecord) → found (codes "attributes") (members s) ≡ found (codes "attributes") (attributes_member s.attributes)
attributes_found s =
    let q = codes "attributes" in
    record_of q s (record { st = refl; p = refl; t = refl; four = refl; flags = refl; ids = refl }) (no_losses q s refl refl refl)
    ∙ found-before q (attributes_member s.attributes ++ events_member s.events) (links_member s.links) (no_list q (codes "links") (map link s.links) refl)
    ∙ found-before q (attributes_member s.attributes) (events_member s.events) (no_list q (codes "events") (map event s.events) refl)

attributes_of : (s : SpanRecord) → items_in (found (codes "attributes") (members s)) ≡ map key_value s.attributes
attributes_of s =
    ap items_in (attributes_found s) ∙ unless_empty_again (codes "attributes") (map key_value s.attributes) refl

pub events_found : (s : SpanRecord) → found (codes "events") (members s) ≡ found (codes "events") (events_member s.events)
events_found s =
    let q = codes "events" in
    record_of q s (record { st = refl; p = refl; t = refl; four = refl; flags = refl; ids = refl }) (no_losses q s refl refl refl)
    ∙ found-before q (attributes_member s.attributes ++ events_member s.events) (links_member s.links) (no_list q (codes "links") (map link s.links) refl)
    ∙ found-append q (attributes_member s.attributes) (events_member s.events)
    ∙ ap (or_else (found q (events_member s.events))) (no_list q (codes "attributes") (map key_value s.attributes) refl)
    ∙ or_else-none (found q (events_member s.events))

events_of : (s : SpanRecord) → items_in (found (codes "events") (members s)) ≡ map event s.events
events_of s =
    ap items_in (events_found s) ∙ unless_empty_again (codes "events") (map event s.events) refl

pub links_found : (s : SpanRecord) → found (codes "links") (members s) ≡ found (codes "links") (links_member s.links)
links_found s =
    let q = codes "links" in
    record_of q s (record { st = refl; p = refl; t = refl; four = refl; flags = refl; ids = refl }) (no_losses q s refl refl refl)
    ∙ found-append q (attributes_member s.attributes ++ events_member s.events) (links_member s.links)
    ∙ ap (or_else (found q (links_member s.links)))
    (found-before q (attributes_member s.attributes) (events_member s.events) (no_list q (codes "events") (map event s.events) refl)
    ∙ no_list q (codes "attributes") (map key_value s.attributes) refl)
    ∙ or_else-none (found q (links_member s.links))

links_of : (s : SpanRecord) → items_in (found (codes "links") (members s)) ≡ map link s.links
links_of s =
    ap items_in (links_found s) ∙ unless_empty_again (codes "links") (map link s.links) refl

abbrev pub lost_attributes : SpanRecord → List Member
lost_attributes s = number_unless_zero (codes "droppedAttributesCount") s.dropped_attributes

abbrev pub lost_events : SpanRecord → List Member
lost_events s = number_unless_zero (codes "droppedEventsCount") s.dropped_events

abbrev pub lost_links : SpanRecord → List Member
lost_links s = number_unless_zero (codes "droppedLinksCount") s.dropped_links

pub dropped_attributes_found : (s : SpanRecord) → found (codes "droppedAttributesCount") (members s) ≡ found (codes "droppedAttributesCount") (lost_attributes s)
dropped_attributes_found s =
    let q = codes "droppedAttributesCount" in
    loss_of q s (record { st = refl; p = refl; t = refl; four = refl; flags = refl; ids = refl }) refl refl refl
    ∙ found-before q (lost_attributes s ++ lost_events s) (lost_links s) (no_number q (codes "droppedLinksCount") s.dropped_links refl)
    ∙ found-before q (lost_attributes s) (lost_events s) (no_number q (codes "droppedEventsCount") s.dropped_events refl)

dropped_attributes_of : (s : SpanRecord) → number_in (found (codes "droppedAttributesCount") (members s)) ≡ s.dropped_attributes
dropped_attributes_of s =
    ap number_in (dropped_attributes_found s) ∙ number_again (codes "droppedAttributesCount") s.dropped_attributes (s.dropped_attributes == 0) refl refl

pub dropped_events_found : (s : SpanRecord) → found (codes "droppedEventsCount") (members s) ≡ found (codes "droppedEventsCount") (lost_events s)
dropped_events_found s =
    let q = codes "droppedEventsCount" in
    loss_of q s (record { st = refl; p = refl; t = refl; four = refl; flags = refl; ids = refl }) refl refl refl
    ∙ found-before q (lost_attributes s ++ lost_events s) (lost_links s) (no_number q (codes "droppedLinksCount") s.dropped_links refl)
    ∙ found-append q (lost_attributes s) (lost_events s)
    ∙ ap (or_else (found q (lost_events s))) (no_number q (codes "droppedAttributesCount") s.dropped_attributes refl)
    ∙ or_else-none (found q (lost_events s))

dropped_events_of : (s : SpanRecord) → number_in (found (codes "droppedEventsCount") (members s)) ≡ s.dropped_events
dropped_events_of s =
    ap number_in (dropped_events_found s) ∙ number_again (codes "droppedEventsCount") s.dropped_events (s.dropped_events == 0) refl refl

pub dropped_links_found : (s : SpanRecord) → found (codes "droppedLinksCount") (members s) ≡ found (codes "droppedLinksCount") (lost_links s)
dropped_links_found s =
    let q = codes "droppedLinksCount" in
    loss_of q s (record { st = refl; p = refl; t = refl; four = refl; flags = refl; ids = refl }) refl refl refl
    ∙ found-append q (lost_attributes s ++ lost_events s) (lost_links s)
    ∙ ap (or_else (found q (lost_links s)))
    (found-before q (lost_attributes s) (lost_events s) (no_number q (codes "droppedEventsCount") s.dropped_events refl)
    ∙ no_number q (codes "droppedAttributesCount") s.dropped_attributes refl)
    ∙ or_else-none (found q (lost_links s))

dropped_links_of : (s : SpanRecord) → number_in (found (codes "droppedLinksCount") (members s)) ≡ s.dropped_links
dropped_links_of s =
    ap number_in (dropped_links_found s) ∙ number_again (codes "droppedLinksCount") s.dropped_links (s.dropped_links == 0) refl refl

pub equal_values_say_same : EqualValuesSaySame
equal_values_say_same s t in_s in_t e =
    let same = λ (q : List ℕ). same_found q (members s) (members t) e in
    let c = s.span_context in
    let d = t.span_context in
    let flagged = same_flags c.trace_flags d.trace_flags s.parent_span_is_remote t.parent_span_is_remote in_s.context.flags in_t.context.flags (ap number_in (sym (flags_of s) ∙ same (codes "flags") ∙ flags_of t)) in
    record {
      context = record {
        trace_id = same_trace_id c.trace_id d.trace_id in_s.context.trace_id in_t.context.trace_id (ap text_in (sym (trace_id_of s) ∙ same (codes "traceId") ∙ trace_id_of t));
        span_id = same_span_id c.span_id d.span_id in_s.context.span_id in_t.context.span_id (ap text_in (sym (span_id_of s) ∙ same (codes "spanId") ∙ span_id_of t));
        flags = flagged.0;
        trace_state = sym (state_of s) ∙ ap text_in (same (codes "traceState")) ∙ state_of t;
      };
      parent = same_parent (codes "parentSpanId") s.parent_span_id t.parent_span_id (s.parent_span_id == 0) (t.parent_span_id == 0) refl refl refl in_s.parent in_t.parent (sym (parent_of s) ∙ same (codes "parentSpanId") ∙ parent_of t);
      remote = flagged.1;
      kind = sym (kind_again s.span_kind) ∙ ap numbered (ap number_in (sym (kind_of s) ∙ same (codes "kind") ∙ kind_of t)) ∙ kind_again t.span_kind;
      name = ap text_in (sym (name_of s) ∙ same (codes "name") ∙ name_of t);
      start = decimal_injective s.start_time t.start_time in_s.start in_t.start (ap text_in (sym (start_of s) ∙ same (codes "startTimeUnixNano") ∙ start_of t));
      end = decimal_injective s.end_time t.end_time in_s.end in_t.end (ap text_in (sym (end_of s) ∙ same (codes "endTimeUnixNano") ∙ end_of t));
      status = same_status s.status t.status (sym (status_of s) ∙ same (codes "status") ∙ status_of t);
      attributes = same_attributes s.attributes t.attributes in_s.attributes in_t.attributes (sym (attributes_of s) ∙ ap items_in (same (codes "attributes")) ∙ attributes_of t);
      events = same_events s.events t.events in_s.events in_t.events (sym (events_of s) ∙ ap items_in (same (codes "events")) ∙ events_of t);
      links = same_links s.links t.links in_s.links in_t.links (sym (links_of s) ∙ ap items_in (same (codes "links")) ∙ links_of t);
      dropped_attributes = sym (dropped_attributes_of s) ∙ ap number_in (same (codes "droppedAttributesCount")) ∙ dropped_attributes_of t;
      dropped_events = sym (dropped_events_of s) ∙ ap number_in (same (codes "droppedEventsCount")) ∙ dropped_events_of t;
      dropped_links = sym (dropped_links_of s) ∙ ap number_in (same (codes "droppedLinksCount")) ∙ dropped_links_of t;
    }
