-- What the spans that the exporter writes are read as.
use Rattle.std.proofs.Common.{◌≡◌, refl, sym, ap, subst, ◌∙◌, ℕ, ◌<◌, ◌^◌, ◌==◌}
use Rattle.std.proofs.Common.{Bool, true, false, if◌then◌else◌, List, [], ◌++◌, map, codes, length}
use Rattle.std.proofs.Common.{Option, Some, MatchOption, option_and_then}
use Rattle.std.specs.List.{All}
use Rattle.hex.proofs.HexLemmas.{decode_sized-encode_lower, decode_sized-ok}
use Rattle.std.specs.Int.{w64, to_be_bytes}
use Rattle.otel_base.specs.InstrumentationScope.{Scope}
use Rattle.otel_context.specs.declared.span.status.SpanKind.{SpanKind}
use Rattle.otel_context.specs.declared.span.status.SpanKind.TheVariants as kind
use Rattle.otel_context.specs.declared.span.status.Status.{Status}
use Rattle.otel_context.specs.declared.span.status.Status.TheVariants as status
use Rattle.otel_sdk_span.specs.SpanData.{SpanRecord}
use Rattle.serde_json.specs.Data.{Data, number, unsigned}
use Rattle.otel_otlp.specs.Json.{Member, text_member, number_member, text_unless_empty, span_id_text}
use Rattle.otel_otlp.specs.Lossless.{told, IsEventInRange, IsLinkInRange}
use Rattle.otel_otlp.specs.ReadBack.{IsHeld, IsHeldEvent, IsHeldLink, read_context, read_event, read_link, read_scope, read_span}
use Rattle.otel_otlp.specs.ReadMembers.{member_of, unless_null, text_of, text_in, parent_id_of, parent_id_in, span_id_of, IsWideIn, IsNarrowIn, AreIn}
use Rattle.otel_otlp.specs.ReadTraces as spec
use Rattle.otel_otlp.specs.ReadValues.{HasAttributes, HasDropped}
use Rattle.otel_otlp.specs.Traces.{span, event, link, flags, status_member, kind_number, parent_member, success, failure}
use Rattle.otel_otlp.proofs.Found.{or_else-none, found, found-append}
use Rattle.otel_otlp.proofs.Ids.{bytes_small}
use Rattle.otel_otlp.proofs.LeftOut.{zero_is}
use Rattle.otel_otlp.proofs.OneSpan.{members, name_of, kind_of, start_of, end_of, flags_of, trace_id_of, status_of, parent_of, state_found, code_of, attributes_found, events_found, links_found, dropped_attributes_found, dropped_events_found, dropped_links_found}
use Rattle.otel_otlp.proofs.OneSpan as one
use Rattle.otel_otlp.proofs.ReadBack.{Only, only_some, member_in, text_is, text_left_out, wide_is, narrow_is, number_left_out, list_left_out, list_says}
use Rattle.otel_otlp.proofs.ReadBackRecords.{only_event, only_link, flags_small, remote_again, HasContext, only_context}
use Rattle.otel_otlp.proofs.ReadBackValues.{only_there, only_attributes, span_id_again}
use Rattle.otel_otlp.proofs.ReadErrors.{some_same}

-- ---- the parent
id_length : (id : ℕ) → length (span_id_text id) ≡ 16
id_length id =
    decode_sized-ok (span_id_text id) 8 (to_be_bytes w64 id)
    (decode_sized-encode_lower (to_be_bytes w64 id) 8 refl (bytes_small 8 id))

parent_by : (id : ℕ) (b : Bool) → (id == 0) ≡ b → id < 2 ^ 64
    → option_and_then parent_id_of (text_of (option_and_then unless_null
    (found (codes "parentSpanId") (if b then [] else text_member (codes "parentSpanId") (span_id_text id)))))
    ≡ Some id
parent_by id true e h = ap (λ n. Some n) (sym (zero_is id e))
parent_by id false e h =
    ap (λ n. if n == 0 then Some 0 else span_id_of (span_id_text id)) (id_length id)
    ∙ span_id_again id h

parent_again : (s : SpanRecord) → s.parent_span_id < 2 ^ 64
    → parent_id_in (span s) ≡ Some s.parent_span_id
parent_again s h =
    let q = codes "parentSpanId" in
    ap (λ o. option_and_then parent_id_of (text_of o))
    (member_in q (members s) (found q (parent_member s.parent_span_id)) (parent_of s))
    ∙ parent_by s.parent_span_id (s.parent_span_id == 0) refl h

-- ---- the kind
kind_again : (k : SpanKind) → spec.kind_numbered (kind_number k) ≡ Some k
kind_again kind.Internal = refl
kind_again kind.Server = refl
kind_again kind.Client = refl
kind_again kind.Producer = refl
kind_again kind.Consumer = refl

only_kind : (s : SpanRecord) → Only (spec.HasKind (span s)) s.span_kind
only_kind s =
    let value = number (unsigned (kind_number s.span_kind)) in
    only_there (member_of (codes "kind") (span s)) value (λ k. k ≡ kind.Internal)
    (λ v k. spec.kind_of v ≡ Some k) s.span_kind
    (member_in (codes "kind") (members s) (Some value) (kind_of s))
    (only_some (spec.kind_of value) s.span_kind (kind_again s.span_kind))

-- ---- the status
abbrev failed : List ℕ → List Member
failed d = number_member (codes "code") 2 ++ text_unless_empty (codes "message") d

message_found : (d : List ℕ)
    → found (codes "message") (failed d) ≡ found (codes "message") (text_unless_empty (codes "message") d)
message_found d =
    found-append (codes "message") (number_member (codes "code") 2) (text_unless_empty (codes "message") d)
    ∙ or_else-none (found (codes "message") (text_unless_empty (codes "message") d))

only_success : Only (spec.IsStatus success) status.Ok
only_success = (
  record {
    is_object = refl;
    code = 1;
    has_code = refl;
    message = [];
    has_message = refl;
    is = refl;
  },
  λ y k. k.is ∙ ap (λ n. spec.status_of n k.message) (sym (some_same _ _ k.has_code)),
)

only_failure : (d : List ℕ) → Only (spec.IsStatus (failure d)) (status.Error d)
only_failure d =
    let text = text_left_out (codes "message") (failed d) d (message_found d) refl in
    let code = only_there (member_of (codes "code") (failure d)) (number (unsigned 2)) (λ c. c ≡ 0)
    (λ v c. spec.code_of v ≡ Some c) 2
    (member_in (codes "code") (failed d) (Some (number (unsigned 2))) (code_of d))
    (only_some (Some 2) 2 refl) in (
      record {
        is_object = refl;
        code = 2;
        has_code = code.0;
        message = d;
        has_message = text;
        is = refl;
      },
      λ y k.
          k.is ∙ ap (λ n. spec.status_of n k.message) (code.1 k.code k.has_code)
          ∙ ap (λ m. spec.status_of 2 m) (some_same _ _ (sym k.has_message ∙ text)),
    )

abbrev StatusIn : Option Data → Status → Type 0
StatusIn o s = MatchOption o (s ≡ status.Unset) (λ given. spec.IsStatus given s)

status_by : (s : Status)
    → Only (StatusIn (option_and_then unless_null (found (codes "status") (status_member s)))) s
status_by status.Unset = (refl, λ y h. h)
status_by status.Ok = only_success
status_by (status.Error d) = only_failure d

only_status : (s : SpanRecord) → Only (spec.HasStatus (span s)) s.status
only_status s =
    let q = codes "status" in
    subst (λ o. Only (StatusIn o) s.status)
    (sym (member_in q (members s) (found q (status_member s.status)) (status_of s)))
    (status_by s.status)

-- ---- the identity
span_context : (s : SpanRecord) → HasContext (members s) s.span_context
span_context s = record { trace = trace_id_of s; span = one.span_id_of s; state = state_found s }

-- ---- both of two facts about each item
both : {A : Type 0} (P Q : A → Type 0) (xs : List A) → All P xs → All Q xs → All (λ x. P x × Q x) xs
both P Q xs p q = λ k d below. (p k d below, q k d below)

-- ---- the span, of any scope
module _ (s : SpanRecord) (h : IsHeld s) where
  flagged : Only (IsNarrowIn (codes "flags") (span s)) (flags s.span_context.trace_flags s.parent_span_is_remote)
  flagged = narrow_is (codes "flags") (members s) (flags s.span_context.trace_flags s.parent_span_is_remote)
      (flags_small s.span_context.trace_flags s.parent_span_is_remote h.in_range.context.flags) (flags_of s)

  context : Only (spec.IsContext (span s) (flags s.span_context.trace_flags s.parent_span_is_remote) false)
      (read_context false s.span_context)
  context = only_context (members s) s.span_context s.parent_span_is_remote false (span_context s)
      h.in_range.context h.state

  remote : spec.is_remote (flags s.span_context.trace_flags s.parent_span_is_remote) ≡ s.parent_span_is_remote
  remote = remote_again s.span_context.trace_flags s.parent_span_is_remote h.in_range.context.flags

  start : Only (IsWideIn (codes "startTimeUnixNano") (span s)) s.start_time
  start = wide_is (codes "startTimeUnixNano") (members s) s.start_time h.in_range.start (start_of s)

  end : Only (IsWideIn (codes "endTimeUnixNano") (span s)) s.end_time
  end = wide_is (codes "endTimeUnixNano") (members s) s.end_time h.in_range.end (end_of s)

  name : text_in (codes "name") (span s) ≡ Some s.name
  name = text_is (codes "name") (members s) s.name (name_of s)

  given : Only (HasAttributes (span s)) (told s.attributes)
  given = only_attributes (members s) s.attributes h.in_range.attributes (attributes_found s)

  lost : Only (HasDropped (span s)) s.dropped_attributes
  lost = number_left_out (codes "droppedAttributesCount") (members s) s.dropped_attributes
      h.dropped_attributes (dropped_attributes_found s) refl

  events : Only (AreIn spec.IsEvent (codes "events") (span s)) (map read_event s.events)
  events = list_says spec.IsEvent event read_event (λ e. IsEventInRange e × IsHeldEvent e) only_event
      (codes "events") (span s) s.events
      (both IsEventInRange IsHeldEvent s.events h.in_range.events h.events)
      (list_left_out (codes "events") (members s) (map event s.events) (events_found s) refl)

  lost_events : Only (IsNarrowIn (codes "droppedEventsCount") (span s)) s.dropped_events
  lost_events = number_left_out (codes "droppedEventsCount") (members s) s.dropped_events
      h.dropped_events (dropped_events_found s) refl

  links : Only (AreIn spec.IsLink (codes "links") (span s)) (map read_link s.links)
  links = list_says spec.IsLink link read_link (λ l. IsLinkInRange l × IsHeldLink l) only_link
      (codes "links") (span s) s.links
      (both IsLinkInRange IsHeldLink s.links h.in_range.links h.links)
      (list_left_out (codes "links") (members s) (map link s.links) (links_found s) refl)

  lost_links : Only (IsNarrowIn (codes "droppedLinksCount") (span s)) s.dropped_links
  lost_links = number_left_out (codes "droppedLinksCount") (members s) s.dropped_links
      h.dropped_links (dropped_links_found s) refl

  pub span_says : (scope : Scope) → spec.IsSpan (span s) (read_span scope s)
  span_says scope = record {
    is_object = refl;
    identity = record {
      flags = flags s.span_context.trace_flags s.parent_span_is_remote;
      has_flags = flagged.0;
      context = context.0;
      parent_id = parent_again s h.in_range.parent;
      parent_is_remote = sym remote;
    };
    work = record {
      has_name = name;
      has_kind = (only_kind s).0;
      has_start = start.0;
      has_end = end.0;
      has_status = (only_status s).0;
    };
    attributes = given.0;
    dropped = lost.0;
    events = record { events = events.0; has_dropped = lost_events.0 };
    links = record { links = links.0; has_dropped = lost_links.0 };
  }

  -- nothing else is read of it
  pub span_only : (scope : Scope) (y : SpanRecord) → spec.IsSpan (span s) y
      → y.scope ≡ read_scope scope → y ≡ read_span scope s
  span_only scope y k of =
      let same = flagged.1 k.identity.flags k.identity.has_flags in
      let c = context.1 y.span_context
      (subst (λ n. spec.IsContext (span s) n false y.span_context) same k.identity.context) in
      let p : y.parent_span_id ≡ s.parent_span_id = some_same _ _ (sym k.identity.parent_id ∙ parent_again s h.in_range.parent) in
      let r : y.parent_span_is_remote ≡ s.parent_span_is_remote = k.identity.parent_is_remote ∙ ap spec.is_remote same ∙ remote in
      let n : y.name ≡ s.name = some_same _ _ (sym k.work.has_name ∙ name) in
      let f = (only_kind s).1 y.span_kind k.work.has_kind in
      let t = start.1 y.start_time k.work.has_start in
      let u = end.1 y.end_time k.work.has_end in
      let st = (only_status s).1 y.status k.work.has_status in
      let a = given.1 y.attributes k.attributes in
      let da = lost.1 y.dropped_attributes k.dropped in
      let es = events.1 y.events k.events.events in
      let de = lost_events.1 y.dropped_events k.events.has_dropped in
      let ls = links.1 y.links k.links.links in
      let dl = lost_links.1 y.dropped_links k.links.has_dropped in
      λ j. record {
        span_context = c j;
        parent_span_id = p j;
        parent_span_is_remote = r j;
        span_kind = f j;
        name = n j;
        start_time = t j;
        end_time = u j;
        attributes = a j;
        dropped_attributes = da j;
        events = es j;
        dropped_events = de j;
        links = ls j;
        dropped_links = dl j;
        status = st j;
        scope = of j;
      }
