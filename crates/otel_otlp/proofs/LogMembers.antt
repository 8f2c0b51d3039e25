-- The value under each name in the value of a log record.
use Rattle.std.proofs.Common.{◌≡◌, ℕ, List, ◌++◌, map, codes, bytes_eq, decimal}
use Rattle.std.proofs.Common.{false, Option, Some, None, refl, ap, ◌∙◌}
use Rattle.otel_base.specs.AnyValue.{Tree}
use Rattle.otel_sdk_logs.specs.LogRecord.{LogState}
use Rattle.otel_sdk_logs.specs.declared.record.TraceContext.{TraceContext}
use Rattle.serde_json.specs.Data.{string, number, unsigned}
use Rattle.otel_otlp.specs.Common.{tree_value}
use Rattle.otel_otlp.specs.Json.{Member, text_member, list_unless_empty, number_unless_zero, text_if_given, number_if_given, decimal_if_given, trace_id_text, span_id_text}
use Rattle.otel_otlp.specs.Logs.{times, content, details, body_member, attribute, attributes, dropped, trace_members}
use Rattle.otel_otlp.specs.Trees.{max_levels, cut}
use Rattle.otel_otlp.proofs.Found.{or_else, or_else-none, if_so, found, found-append, found-before, no_list, no_number}

abbrev pub members : LogState → List Member
members l = times l ++ content l ++ details l ++ trace_members l.trace_context

-- ---- behind members that don't have the name
found-behind : (q : List ℕ) (xs ys : List Member) → found q xs ≡ None → found q (xs ++ ys) ≡ found q ys
found-behind q xs ys none =
    found-append q xs ys ∙ ap (or_else (found q ys)) none ∙ or_else-none (found q ys)

both_none : (q : List ℕ) (xs ys : List Member) → found q xs ≡ None → found q ys ≡ None
    → found q (xs ++ ys) ≡ None
both_none q xs ys first second = found-before q xs ys second ∙ first

-- ---- members with other names
no_decimal : (q n : List ℕ) (o : Option ℕ) → bytes_eq q n ≡ false → found q (decimal_if_given n o) ≡ None
no_decimal q n None e = refl
no_decimal q n (Some k) e = ap (λ b. if_so b (string (decimal k))) e

no_given_number : (q n : List ℕ) (o : Option ℕ) → bytes_eq q n ≡ false
    → found q (number_if_given n o) ≡ None
no_given_number q n None e = refl
no_given_number q n (Some k) e = ap (λ b. if_so b (number (unsigned k))) e

no_given_text : (q n : List ℕ) (o : Option (List ℕ)) → bytes_eq q n ≡ false
    → found q (text_if_given n o) ≡ None
no_given_text q n None e = refl
no_given_text q n (Some t) e = ap (λ b. if_so b (string t)) e

no_body : (q : List ℕ) (o : Option Tree) → bytes_eq q (codes "body") ≡ false
    → found q (body_member o) ≡ None
no_body q None e = refl
no_body q (Some t) e = ap (λ b. if_so b (tree_value (cut max_levels t))) e

no_ids : (q : List ℕ) (o : Option TraceContext) → bytes_eq q (codes "traceId") ≡ false
    → bytes_eq q (codes "spanId") ≡ false → bytes_eq q (codes "flags") ≡ false
    → found q (trace_members o) ≡ None
no_ids q None t s f = refl
no_ids q (Some c) t s f =
    let trace = text_member (codes "traceId") (trace_id_text c.trace_id) in
    let span = text_member (codes "spanId") (span_id_text c.span_id) in
    both_none q (trace ++ span) (number_if_given (codes "flags") c.trace_flags)
    (both_none q trace span (ap (λ b. if_so b (string (trace_id_text c.trace_id))) t)
    (ap (λ b. if_so b (string (span_id_text c.span_id))) s))
    (no_given_number q (codes "flags") c.trace_flags f)

module _ (l : LogState) where
  abbrev happened : List Member
  happened = decimal_if_given (codes "timeUnixNano") l.timestamp

  abbrev observed : List Member
  observed = decimal_if_given (codes "observedTimeUnixNano") l.observed_timestamp

  abbrev severity : List Member
  severity = number_if_given (codes "severityNumber") l.severity_number

  abbrev severity_text : List Member
  severity_text = text_if_given (codes "severityText") l.severity_text

  abbrev event_name : List Member
  event_name = text_if_given (codes "eventName") l.event_name

  abbrev listed : List Member
  listed = list_unless_empty (codes "attributes") (map attribute (attributes l))

  abbrev lost : List Member
  lost = number_unless_zero (codes "droppedAttributesCount") (dropped l)

  abbrev ids : List Member
  ids = trace_members l.trace_context

  no_times : (q : List ℕ) → bytes_eq q (codes "timeUnixNano") ≡ false
      → bytes_eq q (codes "observedTimeUnixNano") ≡ false → found q (times l) ≡ None
  no_times q h o =
      both_none q happened observed (no_decimal q (codes "timeUnixNano") l.timestamp h)
      (no_decimal q (codes "observedTimeUnixNano") l.observed_timestamp o)

  no_texts : (q : List ℕ) → bytes_eq q (codes "severityNumber") ≡ false
      → bytes_eq q (codes "severityText") ≡ false → bytes_eq q (codes "eventName") ≡ false
      → found q (severity ++ severity_text ++ event_name) ≡ None
  no_texts q n t e =
      both_none q (severity ++ severity_text) event_name
      (both_none q severity severity_text (no_given_number q (codes "severityNumber") l.severity_number n)
      (no_given_text q (codes "severityText") l.severity_text t))
      (no_given_text q (codes "eventName") l.event_name e)

  no_details : (q : List ℕ) → bytes_eq q (codes "attributes") ≡ false
      → bytes_eq q (codes "droppedAttributesCount") ≡ false → found q (details l) ≡ None
  no_details q a d =
      both_none q listed lost (no_list q (codes "attributes") (map attribute (attributes l)) a)
      (no_number q (codes "droppedAttributesCount") (dropped l) d)

  -- none of the names after the content
  record IsInFront (q : List ℕ) : Type 0 where
    a : bytes_eq q (codes "attributes") ≡ false
    d : bytes_eq q (codes "droppedAttributesCount") ≡ false
    t : bytes_eq q (codes "traceId") ≡ false
    s : bytes_eq q (codes "spanId") ≡ false
    f : bytes_eq q (codes "flags") ≡ false

  in_front : (q : List ℕ) → IsInFront q → found q (members l) ≡ found q (times l ++ content l)
  in_front q h =
      found-before q (times l ++ content l ++ details l) ids (no_ids q l.trace_context h.t h.s h.f)
      ∙ found-before q (times l ++ content l) (details l) (no_details q h.a h.d)

  no_content : (q : List ℕ) → bytes_eq q (codes "severityNumber") ≡ false
      → bytes_eq q (codes "severityText") ≡ false → bytes_eq q (codes "eventName") ≡ false
      → bytes_eq q (codes "body") ≡ false → found q (content l) ≡ None
  no_content q n t e b =
      both_none q (severity ++ severity_text ++ event_name) (body_member l.body) (no_texts q n t e)
      (no_body q l.body b)

  in_times : (q : List ℕ) → IsInFront q → bytes_eq q (codes "severityNumber") ≡ false
      → bytes_eq q (codes "severityText") ≡ false → bytes_eq q (codes "eventName") ≡ false
      → bytes_eq q (codes "body") ≡ false → found q (members l) ≡ found q (times l)
  in_times q h n t e b = in_front q h ∙ found-before q (times l) (content l) (no_content q n t e b)

  pub happened_found : found (codes "timeUnixNano") (members l) ≡ found (codes "timeUnixNano") happened
  happened_found =
      let q = codes "timeUnixNano" in
      in_times q (record { a = refl; d = refl; t = refl; s = refl; f = refl }) refl refl refl refl
      ∙ found-before q happened observed
      (no_decimal q (codes "observedTimeUnixNano") l.observed_timestamp refl)

  pub observed_found : found (codes "observedTimeUnixNano") (members l)
      ≡ found (codes "observedTimeUnixNano") observed
  observed_found =
      let q = codes "observedTimeUnixNano" in
      in_times q (record { a = refl; d = refl; t = refl; s = refl; f = refl }) refl refl refl refl
      ∙ found-behind q happened observed (no_decimal q (codes "timeUnixNano") l.timestamp refl)

  in_content : (q : List ℕ) → IsInFront q → bytes_eq q (codes "timeUnixNano") ≡ false
      → bytes_eq q (codes "observedTimeUnixNano") ≡ false → found q (members l) ≡ found q (content l)
  in_content q h n o = in_front q h ∙ found-behind q (times l) (content l) (no_times q n o)

  in_texts : (q : List ℕ) → IsInFront q → bytes_eq q (codes "timeUnixNano") ≡ false
      → bytes_eq q (codes "observedTimeUnixNano") ≡ false → bytes_eq q (codes "body") ≡ false
      → found q (members l) ≡ found q (severity ++ severity_text ++ event_name)
  in_texts q h n o b =
      in_content q h n o
      ∙ found-before q (severity ++ severity_text ++ event_name) (body_member l.body) (no_body q l.body b)

  pub severity_found : found (codes "severityNumber") (members l) ≡ found (codes "severityNumber") severity
  severity_found =
      let q = codes "severityNumber" in
      in_texts q (record { a = refl; d = refl; t = refl; s = refl; f = refl }) refl refl refl
      ∙ found-before q (severity ++ severity_text) event_name
      (no_given_text q (codes "eventName") l.event_name refl)
      ∙ found-before q severity severity_text (no_given_text q (codes "severityText") l.severity_text refl)

  pub severity_text_found : found (codes "severityText") (members l)
      ≡ found (codes "severityText") severity_text
  severity_text_found =
      let q = codes "severityText" in
      in_texts q (record { a = refl; d = refl; t = refl; s = refl; f = refl }) refl refl refl
      ∙ found-before q (severity ++ severity_text) event_name
      (no_given_text q (codes "eventName") l.event_name refl)
      ∙ found-behind q severity severity_text
      (no_given_number q (codes "severityNumber") l.severity_number refl)

  pub event_name_found : found (codes "eventName") (members l) ≡ found (codes "eventName") event_name
  event_name_found =
      let q = codes "eventName" in
      in_texts q (record { a = refl; d = refl; t = refl; s = refl; f = refl }) refl refl refl
      ∙ found-behind q (severity ++ severity_text) event_name
      (both_none q severity severity_text
      (no_given_number q (codes "severityNumber") l.severity_number refl)
      (no_given_text q (codes "severityText") l.severity_text refl))

  pub body_found : found (codes "body") (members l) ≡ found (codes "body") (body_member l.body)
  body_found =
      let q = codes "body" in
      in_content q (record { a = refl; d = refl; t = refl; s = refl; f = refl }) refl refl
      ∙ found-behind q (severity ++ severity_text ++ event_name) (body_member l.body)
      (no_texts q refl refl refl)

  -- none of the names before the details
  record IsBehind (q : List ℕ) : Type 0 where
    h : bytes_eq q (codes "timeUnixNano") ≡ false
    o : bytes_eq q (codes "observedTimeUnixNano") ≡ false
    n : bytes_eq q (codes "severityNumber") ≡ false
    t : bytes_eq q (codes "severityText") ≡ false
    e : bytes_eq q (codes "eventName") ≡ false
    b : bytes_eq q (codes "body") ≡ false

  no_front : (q : List ℕ) → IsBehind q → found q (times l ++ content l) ≡ None
  no_front q is =
      both_none q (times l) (content l) (no_times q is.h is.o) (no_content q is.n is.t is.e is.b)

  in_details : (q : List ℕ) → IsBehind q → bytes_eq q (codes "traceId") ≡ false
      → bytes_eq q (codes "spanId") ≡ false → bytes_eq q (codes "flags") ≡ false
      → found q (members l) ≡ found q (details l)
  in_details q is t s f =
      found-before q (times l ++ content l ++ details l) ids (no_ids q l.trace_context t s f)
      ∙ found-behind q (times l ++ content l) (details l) (no_front q is)

  pub attributes_found : found (codes "attributes") (members l) ≡ found (codes "attributes") listed
  attributes_found =
      let q = codes "attributes" in
      in_details q (record { h = refl; o = refl; n = refl; t = refl; e = refl; b = refl }) refl refl refl
      ∙ found-before q listed lost (no_number q (codes "droppedAttributesCount") (dropped l) refl)

  pub lost_found : found (codes "droppedAttributesCount") (members l)
      ≡ found (codes "droppedAttributesCount") lost
  lost_found =
      let q = codes "droppedAttributesCount" in
      in_details q (record { h = refl; o = refl; n = refl; t = refl; e = refl; b = refl }) refl refl refl
      ∙ found-behind q listed lost
      (no_list q (codes "attributes") (map attribute (attributes l)) refl)

  in_ids : (q : List ℕ) → IsBehind q → bytes_eq q (codes "attributes") ≡ false
      → bytes_eq q (codes "droppedAttributesCount") ≡ false → found q (members l) ≡ found q ids
  in_ids q is a d =
      found-behind q (times l ++ content l ++ details l) ids
      (both_none q (times l ++ content l) (details l) (no_front q is) (no_details q a d))

  pub trace_found : found (codes "traceId") (members l) ≡ found (codes "traceId") ids
  trace_found =
      in_ids (codes "traceId") (record { h = refl; o = refl; n = refl; t = refl; e = refl; b = refl })
      refl refl

  pub span_found : found (codes "spanId") (members l) ≡ found (codes "spanId") ids
  span_found =
      in_ids (codes "spanId") (record { h = refl; o = refl; n = refl; t = refl; e = refl; b = refl })
      refl refl

  pub flags_found : found (codes "flags") (members l) ≡ found (codes "flags") ids
  flags_found =
      in_ids (codes "flags") (record { h = refl; o = refl; n = refl; t = refl; e = refl; b = refl })
      refl refl
