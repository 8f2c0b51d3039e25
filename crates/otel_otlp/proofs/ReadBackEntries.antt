-- What the log records that the exporter writes are read as.
use Rattle.std.proofs.Common.{◌≤◌, ◌≡◌, refl, sym, ap, subst, ◌∙◌, ℕ, ◌+◌, ◌<◌, ◌^◌, arith}
use Rattle.std.proofs.Common.{Bool, true, false, if◌then◌else◌, List, [], ◌∷◌, map, codes, nat_lt}
use Rattle.std.proofs.Common.{Option, Some, None, IfSome, option_map}
use Rattle.std.proofs.lemmas.Grind.{common_steps}
use Rattle.std.proofs.lemmas.List.Elements.{All-nil, All-cons, All-append}
use Rattle.std.specs.List.{All, list_any}
use Rattle.otel_base.specs.AnyValue as any
use Rattle.otel_base.specs.AnyValue.{Tree}
use Rattle.otel_base.specs.InstrumentationScope.{Scope}
use Rattle.otel_sdk_base.specs.Attributes.{up_by}
use Rattle.otel_sdk_logs.specs.Attributes.{Attribute}
use Rattle.otel_sdk_logs.specs.LogRecord.{LogEntry}
use Rattle.serde_json.specs.Data.{Data}
use Rattle.otel_otlp.specs.Common.{tree_value}
use Rattle.otel_otlp.specs.Json.{Member, object_of}
use Rattle.otel_otlp.specs.Logs.{body_member, attribute, attributes, is_target, target_attribute, dropped, value_of}
use Rattle.otel_otlp.specs.ReadBack.{read_scope}
use Rattle.otel_otlp.specs.ReadBackLogs.{IsHeldTree, IsHeldEntry, read_tree, read_attribute, read_attributes, read_entry}
use Rattle.otel_otlp.specs.ReadLogs.{HasSeverity, HasActive, IsEntry, target_among, without_target}
use Rattle.otel_otlp.specs.ReadMembers.{member_of, given_text_in, IsGivenWideIn, IsNarrowIn}
use Rattle.otel_otlp.specs.ReadTrees.{IsTree, IsPair, HasAttributes, HasBody, levels}
use Rattle.otel_otlp.specs.Trees.{max_levels, cut, cut_parts_of_body, cut_parts_of_attributes}
use Rattle.otel_otlp.proofs.Found.{found}
use Rattle.otel_otlp.proofs.LogMembers.{members, happened_found, observed_found, severity_found, severity_text_found, event_name_found, body_found, attributes_found, lost_found, trace_found, span_found, flags_found}
use Rattle.otel_otlp.proofs.ReadBack.{Only, member_in, text_given, number_left_out, list_left_out, list_says}
use Rattle.otel_otlp.proofs.ReadBackGiven.{only_absent, given_wide, given_severity, given_active}
use Rattle.otel_otlp.proofs.ReadBackTrees.{not_null, only_pair, only_tree}
use Rattle.otel_otlp.proofs.ReadBackValues.{only_there}
use Rattle.otel_otlp.proofs.ReadErrors.{some_same}

-- ---- trees
enough_levels : max_levels ≤ levels
unfolding levels
enough_levels = omega arith

read_whole : (t : Tree) → IsHeldTree t → Only (IsTree levels (tree_value (read_tree t))) (read_tree t)
read_whole t h = only_tree levels max_levels t enough_levels h

-- ---- bodies
abbrev IsBody : Data → Option Tree → Type 0
IsBody d body = (t : Tree) × (body ≡ Some t) × IsTree levels d t

only_some_body : (d : Data) (t : Tree) → Only (IsTree levels d) t → Only (IsBody d) (Some t)
only_some_body d t one =
    ((t, refl, one.0), λ body k. k.1 ∙ ap (λ u. Some u) (one.1 k.0 k.2))

only_body : (xs : List Member) (o : Option Tree) → IfSome o IsHeldTree
    → found (codes "body") xs ≡ found (codes "body") (body_member o)
    → Only (HasBody (object_of xs)) (option_map read_tree o)
only_body xs None h e =
    let q = codes "body" in
    only_absent (member_of q (object_of xs)) (λ b. b ≡ None) IsBody None (member_in q xs None e)
    (refl, λ b k. k)
only_body xs (Some t) h e =
    let q = codes "body" in
    let d = tree_value (read_tree t) in
    only_there (member_of q (object_of xs)) d (λ b. b ≡ None) IsBody (Some (read_tree t))
    (member_in q xs (Some d) e ∙ not_null (read_tree t))
    (only_some_body d (read_tree t) (read_whole t h))

-- ---- attributes
abbrev IsHeldAttribute : Attribute → Type 0
IsHeldAttribute a = IsHeldTree a.1

only_attribute : (a : Attribute) → IsHeldAttribute a
    → Only (IsPair levels (attribute a)) (read_attribute a)
only_attribute a h = only_pair (IsTree levels) a.0 (read_tree a.1) (read_whole a.1 h)

held_target : (xs : List Attribute) (o : Option (List ℕ)) → All IsHeldAttribute (target_attribute xs o)
held_target xs None = All-nil IsHeldAttribute
held_target xs (Some t) = by (list_any is_target xs)
  where
    by : (b : Bool) → All IsHeldAttribute (if b then [] else (codes "log.target", any.text t) ∷ [])
    by true = All-nil IsHeldAttribute
    by false = All-cons IsHeldAttribute (codes "log.target", any.text t) [] tt (All-nil IsHeldAttribute)

up_small : (n more : ℕ) → up_by n more < 2 ^ 32
up_small n more = by (nat_lt (n + more) 4294967296) refl
  where
    by : (b : Bool) → nat_lt (n + more) 4294967296 ≡ b
        → (if b then n + more else 4294967295) < 2 ^ 32
    by true e = grind (arith, common_steps)
    by false e = omega arith

-- ---- the record, of any scope
module _ (e : LogEntry) (h : IsHeldEntry e) where
  happened : Only (IsGivenWideIn (codes "timeUnixNano") (value_of e)) e.log.timestamp
  happened = given_wide (codes "timeUnixNano") (members e.log) e.log.timestamp h.timestamp
      (happened_found e.log) refl

  observed : Only (IsGivenWideIn (codes "observedTimeUnixNano") (value_of e)) e.log.observed_timestamp
  observed = given_wide (codes "observedTimeUnixNano") (members e.log) e.log.observed_timestamp
      h.observed_timestamp (observed_found e.log) refl

  severity : Only (HasSeverity (value_of e)) e.log.severity_number
  severity = given_severity (members e.log) e.log.severity_number h.severity (severity_found e.log)

  severity_text : given_text_in (codes "severityText") (value_of e) ≡ Some e.log.severity_text
  severity_text = text_given (codes "severityText") (members e.log) e.log.severity_text
      (severity_text_found e.log) refl

  event_name : given_text_in (codes "eventName") (value_of e) ≡ Some e.log.event_name
  event_name = text_given (codes "eventName") (members e.log) e.log.event_name
      (event_name_found e.log) refl

  body : Only (HasBody (value_of e)) (option_map read_tree e.log.body)
  body = only_body (members e.log) e.log.body h.body (body_found e.log)

  given : Only (HasAttributes (value_of e)) (read_attributes e.log)
  given = list_says (IsPair levels) attribute read_attribute IsHeldAttribute only_attribute
      (codes "attributes") (value_of e) (attributes e.log)
      (All-append IsHeldAttribute e.log.attributes (target_attribute e.log.attributes e.log.target)
      h.attributes (held_target e.log.attributes e.log.target))
      (list_left_out (codes "attributes") (members e.log) (map attribute (attributes e.log))
      (attributes_found e.log) refl)

  lost : Only (IsNarrowIn (codes "droppedAttributesCount") (value_of e)) (dropped e.log)
  lost = number_left_out (codes "droppedAttributesCount") (members e.log) (dropped e.log)
      (up_small e.log.dropped_attributes
      (cut_parts_of_attributes e.log.attributes + cut_parts_of_body e.log.body))
      (lost_found e.log) refl

  active : Only (HasActive (value_of e)) e.log.trace_context
  active = given_active (members e.log) e.log.trace_context h.context
      (record { trace = trace_found e.log; span = span_found e.log; flags = flags_found e.log })

  pub entry_says : (scope : Scope) → IsEntry (value_of e) (read_entry scope e)
  entry_says scope = record {
    is_object = refl;
    moment = record {
      has_happened = happened.0;
      has_observed = observed.0;
      has_severity = severity.0;
    };
    words = record { has_severity = severity_text; has_name = event_name; has_body = body.0 };
    details = record {
      given = read_attributes e.log;
      has_given = given.0;
      has_target = refl;
      attributes = refl;
      has_dropped = lost.0;
    };
    active = active.0;
    limits = refl;
  }

  -- nothing else is read of it
  pub entry_only : (scope : Scope) (y : LogEntry) → IsEntry (value_of e) y
      → y.scope ≡ read_scope scope → y ≡ read_entry scope e
  entry_only scope y k of =
      let xs = given.1 k.details.given k.details.has_given in
      let target : y.log.target ≡ target_among (read_attributes e.log) =
      k.details.has_target ∙ ap target_among xs in
      let rest : y.log.attributes
      ≡ without_target (read_attributes e.log) (target_among (read_attributes e.log)) =
      k.details.attributes ∙ (λ i. without_target (xs i) (target i)) in
      let t = happened.1 y.log.timestamp k.moment.has_happened in
      let o = observed.1 y.log.observed_timestamp k.moment.has_observed in
      let s = severity.1 y.log.severity_number k.moment.has_severity in
      let w : y.log.severity_text ≡ e.log.severity_text =
      some_same _ _ (sym k.words.has_severity ∙ severity_text) in
      let n : y.log.event_name ≡ e.log.event_name =
      some_same _ _ (sym k.words.has_name ∙ event_name) in
      let b = body.1 y.log.body k.words.has_body in
      let d = lost.1 y.log.dropped_attributes k.details.has_dropped in
      let c = active.1 y.log.trace_context k.active in
      let ls = k.limits in
      λ i. record {
        log = record {
          event_name = n i;
          target = target i;
          timestamp = t i;
          observed_timestamp = o i;
          severity_text = w i;
          severity_number = s i;
          body = b i;
          attributes = rest i;
          dropped_attributes = d i;
          limits = ls i;
          trace_context = c i;
        };
        scope = of i;
      }
