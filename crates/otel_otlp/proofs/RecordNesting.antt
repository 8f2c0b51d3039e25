-- How deep the value of a batch of log records nests.
use Rattle.std.proofs.Common.{◌≤◌, ℕ, zero, suc, ◌+◌, ◌*◌, ◌==◌, get_or, List, [], ◌∷◌, ◌++◌, map, subst, sym, Option, Some, None, codes, length, if◌then◌else◌, refl, arith}
use Rattle.otel_base.specs.AnyValue as any
use Rattle.otel_base.specs.AnyValue.{Tree, Trees, no_trees, more_trees, Entries, no_entries, more_entries}
use Rattle.otel_sdk_logs.specs.Attributes.{Attribute}
use Rattle.otel_sdk_logs.specs.LogRecord.{LogState}
use Rattle.otel_sdk_logs.specs.declared.record.TraceContext.{TraceContext}
use Rattle.serde_json.specs.Data.{Data, number, unsigned, depth, items_depth}
use Rattle.serde_json.specs.View.{items_of}
use Rattle.otel_otlp.specs.Common.{pair, tree_value, tree_values, entry_values}
use Rattle.otel_otlp.specs.Json.{text_member, number_unless_zero, list_member, text_if_given, number_if_given, decimal_if_given, trace_id_text, span_id_text}
use Rattle.otel_otlp.specs.Logs.{form, times, body_member, content, attribute, attributes, dropped, details, trace_members, log_record}
use Rattle.otel_otlp.specs.LogsReadBack.{RecordBatchesAreShallow}
use Rattle.otel_otlp.specs.Trees.{max_levels, cut, cut_trees, cut_entries}
use Rattle.otel_otlp.proofs.Nesting.{AreWithin, within-append, of_members, within-if, plain, given, of_list, count, of_batch}
use Rattle.otel_otlp.proofs.ReadBackTrees.{cut_list, cut_map}

-- ---- trees
pair_depth : (n : ℕ) (key : List ℕ) (d : Data) → depth d ≤ n → depth (pair key d) ≤ suc n
pair_depth n key d h = of_members n (text_member (codes "key") key ++ (codes "value", d) ∷ []) (omega arith, (h, omega arith))

mutual
  -- what is within n others is cut
  tree_depth : (n : ℕ) (t : Tree) → depth (tree_value (cut n t)) ≤ 4 * n + 1
  tree_depth n (any.integer z) = omega arith
  tree_depth n (any.text s) = omega arith
  tree_depth n (any.boolean b) = omega arith
  tree_depth n (any.bytes bs) = omega arith
  tree_depth zero (any.list ts) = omega arith
  tree_depth (suc n) (any.list ts) =
      let below = trees_depth n ts in
      subst (λ u. depth (tree_value u) ≤ 4 * suc n + 1) (sym (cut_list n ts)) (omega (arith, below))
  tree_depth zero (any.map es) = omega arith
  tree_depth (suc n) (any.map es) =
      let below = entries_depth n es in
      subst (λ u. depth (tree_value u) ≤ 4 * suc n + 1) (sym (cut_map n es)) (omega (arith, below))

  trees_depth : (n : ℕ) (ts : Trees) → items_depth (items_of (tree_values (cut_trees n ts))) ≤ 4 * n + 1
  trees_depth n no_trees = omega arith
  trees_depth n (more_trees t ts) =
      let here = tree_depth n t in
      let more = trees_depth n ts in
      omega (arith, here, more)

  entries_depth : (n : ℕ) (es : Entries) → items_depth (items_of (entry_values (cut_entries n es))) ≤ suc (4 * n + 1)
  entries_depth n no_entries = omega arith
  entries_depth n (more_entries key t es) =
      let here = pair_depth (4 * n + 1) key (tree_value (cut n t)) (tree_depth n t) in
      let more = entries_depth n es in
      omega (arith, here, more)

-- ---- members
a_number : (n : ℕ) (name : List ℕ) (c : Option ℕ) → AreWithin n (number_if_given name c)
a_number n name None = omega arith
a_number n name (Some c) = plain n name (number (unsigned c)) refl

a_decimal : (n : ℕ) (name : List ℕ) (c : Option ℕ) → AreWithin n (decimal_if_given name c)
a_decimal n name None = omega arith
a_decimal n name (Some c) = (omega arith, omega arith)

times_within : (n : ℕ) (l : LogState) → AreWithin n (times l)
times_within n l =
    within-append n (decimal_if_given (codes "timeUnixNano") l.timestamp) (decimal_if_given (codes "observedTimeUnixNano") l.observed_timestamp)
    (a_decimal n (codes "timeUnixNano") l.timestamp) (a_decimal n (codes "observedTimeUnixNano") l.observed_timestamp)

trace_within : (n : ℕ) (c : Option TraceContext) → AreWithin n (trace_members c)
trace_within n None = omega arith
trace_within n (Some c) =
    within-append n (text_member (codes "traceId") (trace_id_text c.trace_id) ++ text_member (codes "spanId") (span_id_text c.span_id)) (number_if_given (codes "flags") c.trace_flags)
    (omega arith, (omega arith, omega arith)) (a_number n (codes "flags") c.trace_flags)

-- ---- records
body_within : (body : Option Tree) → AreWithin 119 (body_member body)
body_within None = omega arith
body_within (Some t) = let inner = tree_depth max_levels t in (omega (arith, inner), omega arith)

content_within : (l : LogState) → AreWithin 119 (content l)
content_within l =
    let severity = number_if_given (codes "severityNumber") l.severity_number in
    let text = text_if_given (codes "severityText") l.severity_text in
    let name = text_if_given (codes "eventName") l.event_name in
    within-append 119 (severity ++ text ++ name) (body_member l.body)
    (within-append 119 (severity ++ text) name
    (within-append 119 severity text (a_number 119 (codes "severityNumber") l.severity_number) (given 119 (codes "severityText") l.severity_text))
    (given 119 (codes "eventName") l.event_name))
    (body_within l.body)

attribute_depth : (a : Attribute) → depth (attribute a) ≤ 118
attribute_depth a = pair_depth 117 a.0 (tree_value (cut max_levels a.1)) (tree_depth max_levels a.1)

details_within : (l : LogState) → AreWithin 119 (details l)
details_within l =
    let xs = attributes l in
    let list = list_member (codes "attributes") (map attribute xs) in
    within-append 119 (if length (map attribute xs) == 0 then [] else list) (number_unless_zero (codes "droppedAttributesCount") (dropped l))
    (within-if 119 (length (map attribute xs) == 0) list
    (of_list 118 (codes "attributes") attribute xs (λ i d below. attribute_depth (get_or xs i d))))
    (count 119 (codes "droppedAttributesCount") (dropped l))

record_depth : (l : LogState) → depth (log_record l) ≤ 120
record_depth l =
    of_members 119 (times l ++ content l ++ details l ++ trace_members l.trace_context)
    (within-append 119 (times l ++ content l ++ details l) (trace_members l.trace_context)
    (within-append 119 (times l ++ content l) (details l)
    (within-append 119 (times l) (content l) (times_within 119 l) (content_within l))
    (details_within l))
    (trace_within 119 l.trace_context))

-- ---- batches
pub record_batches_are_shallow : RecordBatchesAreShallow
record_batches_are_shallow r es =
    let inner = of_batch form 120 (omega arith) r es (λ i d below. record_depth (get_or es i d).log) in
    omega (arith, inner)
