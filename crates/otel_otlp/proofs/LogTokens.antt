-- The tokens of a log record: its members in the order of their names make the record's object.
use Rattle.std.proofs.Common.{◌≡◌, ℕ, List, [], ◌∷◌, ◌++◌, ◌==◌, codes, length, map, Option, Some, None, option_map, option_and_then, inl, inr, refl, sym, subst}
use Rattle.std.proofs.lemmas.List.Elements.{All-append}
use Rattle.json.specs.Token.{begin_object, end_object}
use Rattle.json.specs.Written.{Written}
use Rattle.serde_json.specs.Data.{Data, array, number, unsigned}
use Rattle.serde_json.specs.View.{items_of}
use Rattle.otel_base.specs.AnyValue.{Tree}
use Rattle.otel_sdk_logs.specs.LogRecord.{LogState}
use Rattle.otel_sdk_logs.specs.declared.record.TraceContext.{TraceContext}
use Rattle.otel_otlp.specs.Common.{tree_value}
use Rattle.otel_otlp.specs.Json.{Member, object_of, text_if_given, number_if_given, decimal_if_given, number_unless_zero, list_unless_empty, trace_id_text, span_id_text}
use Rattle.otel_otlp.specs.Logs.{times, content, details, body_member, attribute, attributes, dropped, trace_members, log_record}
use Rattle.otel_otlp.specs.Tokens.{IsReadable, Appended, HasValue, HasMembers, HasItems}
use Rattle.otel_otlp.specs.Trees.{max_levels, cut}
use Rattle.otel_otlp.proofs.InOrder.{Group, one, both, IsAt, sorted, join, at_unless, at_text_if_given, at_number_if_given, at_decimal_if_given}
use Rattle.otel_otlp.proofs.Tokens.{IsProper, followed, item_tokens-append, whole_object}

-- ---- items after items
pub and_items : {a b c : Written} {xs ys : List Data} → HasItems a b xs → HasItems b c ys → HasItems a c (xs ++ ys)
and_items {a} {b} {c} {xs} {ys} first second = record {
  appended = subst (Appended a c) (sym (item_tokens-append xs ys)) (followed first.appended second.appended);
  readable = All-append IsReadable xs ys first.readable second.readable;
}

-- ---- the members that are written, each by itself
abbrev pub happened : LogState → List Member
happened l = decimal_if_given (codes "timeUnixNano") l.timestamp

abbrev pub observed : LogState → List Member
observed l = decimal_if_given (codes "observedTimeUnixNano") l.observed_timestamp

abbrev pub severity : LogState → List Member
severity l = number_if_given (codes "severityNumber") l.severity_number

abbrev pub severity_text : LogState → List Member
severity_text l = text_if_given (codes "severityText") l.severity_text

abbrev pub event_name : LogState → List Member
event_name l = text_if_given (codes "eventName") l.event_name

abbrev pub body : LogState → List Member
body l = body_member l.body

abbrev pub listed_attributes : LogState → List Member
listed_attributes l = list_unless_empty (codes "attributes") (map attribute (attributes l))

abbrev pub lost : ℕ → List Member
lost n = number_unless_zero (codes "droppedAttributesCount") n

abbrev trace_id_at : Option TraceContext → List Member
trace_id_at o = text_if_given (codes "traceId") (option_map (λ c. trace_id_text c.trace_id) o)

abbrev span_id_at : Option TraceContext → List Member
span_id_at o = text_if_given (codes "spanId") (option_map (λ c. span_id_text c.span_id) o)

abbrev flags_at : Option TraceContext → List Member
flags_at o = number_if_given (codes "flags") (option_and_then (λ c. c.trace_flags) o)

abbrev pub trace_id : LogState → List Member
trace_id l = trace_id_at l.trace_context

abbrev pub span_id : LogState → List Member
span_id l = span_id_at l.trace_context

abbrev pub flags : LogState → List Member
flags l = flags_at l.trace_context

-- those of the span that was active, together
trace_is : (o : Option TraceContext) → trace_id_at o ++ span_id_at o ++ flags_at o ≡ trace_members o
trace_is None = refl
trace_is (Some c) = refl

-- the same members, of an equal record
pub same_members : {a b : Written} {l m : LogState} (f : LogState → List Member) → l ≡ m → HasMembers a b (f l) → HasMembers a b (f m)
same_members {a} {b} f same h = subst (λ s. HasMembers a b (f s)) same h

-- ---- the object
at_body : (o : Option Tree) → IsAt (codes "body") (body_member o)
at_body None = inl refl
at_body (Some t) = inr (tree_value (cut max_levels t), refl)

abbrev times_group : LogState → Group
times_group l = both (one (codes "timeUnixNano") (happened l)) (one (codes "observedTimeUnixNano") (observed l))

abbrev content_group : LogState → Group
content_group l =
    both (both (both (one (codes "severityNumber") (severity l)) (one (codes "severityText") (severity_text l)))
    (one (codes "eventName") (event_name l)))
    (one (codes "body") (body l))

abbrev details_group : LogState → Group
details_group l =
    both (one (codes "attributes") (listed_attributes l)) (one (codes "droppedAttributesCount") (lost (dropped l)))

abbrev trace_group : LogState → Group
trace_group l =
    both (both (one (codes "traceId") (trace_id l)) (one (codes "spanId") (span_id l))) (one (codes "flags") (flags l))

abbrev log_group : LogState → Group
log_group l = both (both (both (times_group l) (content_group l)) (details_group l)) (trace_group l)

log_proper : (l : LogState) → IsProper (log_group l)
log_proper l =
    let values = map attribute (attributes l) in
    let context = l.trace_context in
    record {
      group = (
        (
          (
            (at_decimal_if_given (codes "timeUnixNano") l.timestamp, at_decimal_if_given (codes "observedTimeUnixNano") l.observed_timestamp),
            (
              (
                (at_number_if_given (codes "severityNumber") l.severity_number, at_text_if_given (codes "severityText") l.severity_text),
                at_text_if_given (codes "eventName") l.event_name,
              ),
              at_body l.body,
            ),
          ),
          (
            at_unless (length values == 0) (codes "attributes") (array (items_of values)),
            at_unless (dropped l == 0) (codes "droppedAttributesCount") (number (unsigned (dropped l))),
          ),
        ),
        (
          (
            at_text_if_given (codes "traceId") (option_map (λ c. trace_id_text c.trace_id) context),
            at_text_if_given (codes "spanId") (option_map (λ c. span_id_text c.span_id) context),
          ),
          at_number_if_given (codes "flags") (option_and_then (λ c. c.trace_flags) context),
        ),
      );
      distinct = refl;
      rise = refl;
    }

pub whole_log : {a b c d : Written} (l : LogState) → Appended a b (begin_object ∷ []) → HasMembers b c (join (sorted (log_group l)))
    → Appended c d (end_object ∷ []) → HasValue a d (log_record l)
whole_log {a} {b} {c} {d} l begins members ends =
    subst (λ ms. HasValue a d (object_of (times l ++ content l ++ details l ++ ms))) (trace_is l.trace_context)
    (whole_object (log_group l) (log_proper l) begins members ends)
