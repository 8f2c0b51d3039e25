-- Batches that have equal values.
use Rattle.std.proofs.Common.{◌≡◌, ℕ, List, [], ◌∷◌, Some, refl, sym, ap, ◌∙◌, codes, map, filter}
use Rattle.std.proofs.lemmas.List.Elements.{All-filter}
use Rattle.std.specs.List.{All}
use Rattle.otel_base.specs.InstrumentationScope.{Scope}
use Rattle.otel_sdk_base.specs.Resource.{Parts}
use Rattle.otel_sdk_span.specs.SpanData.{SpanRecord}
use Rattle.serde_json.specs.Data.{Data, null}
use Rattle.otel_otlp.specs.Common.{attributes_member, instrumentation_scope, key_value, resource, unique}
use Rattle.otel_otlp.specs.Groups.{is_of}
use Rattle.otel_otlp.specs.Json.{Member, list_member}
use Rattle.otel_otlp.specs.Lossless.{AreInRange, IsInRange, SaysSame, SameScope, SameGroup, SameBatch, EqualBatchesSaySame, scopes}
use Rattle.otel_otlp.specs.Traces.{form, span, scope_of, scope_spans, resource_spans}
use Rattle.otel_otlp.proofs.Found.{found, same_found, text_in}
use Rattle.otel_otlp.proofs.GroupMembers as groups
use Rattle.otel_otlp.proofs.GroupMembers.{HasRange, scope_members, name_in, scope_attributes_found, unique_in_range, scopes_in_range}
use Rattle.otel_otlp.proofs.Lists.{each, items_in, items_again, unless_empty_again}
use Rattle.otel_otlp.proofs.OneAttribute.{same_attributes}
use Rattle.otel_otlp.proofs.OneGroup.{given_in, given_again, inside, version_in, spans_named}
use Rattle.otel_otlp.proofs.OneSpan.{equal_values_say_same}

-- ---- scopes
scope_attributes_in : (s : Scope) → items_in (found (codes "attributes") (scope_members s)) ≡ map key_value (unique s.attributes)
scope_attributes_in s = ap items_in (scope_attributes_found s) ∙ unless_empty_again (codes "attributes") (map key_value (unique s.attributes)) refl

-- ---- groups
abbrev group_members : List SpanRecord → Scope → List Member
group_members = groups.group_members form

abbrev of_group : List SpanRecord → Scope → List Data
of_group = groups.values_of form

scope_in : (ss : List SpanRecord) (s : Scope) → found (codes "scope") (group_members ss s) ≡ Some (instrumentation_scope s)
scope_in = groups.scope_found form spans_named

spans_in : (ss : List SpanRecord) (s : Scope) → items_in (found (codes "spans") (group_members ss s)) ≡ of_group ss s
spans_in ss s = ap items_in (groups.items_found form spans_named ss s) ∙ items_again (of_group ss s)

group_url_in : (ss : List SpanRecord) (s : Scope) → given_in (found (codes "schemaUrl") (group_members ss s)) ≡ s.schema_url
group_url_in ss s = ap given_in (groups.group_url_found form spans_named ss s) ∙ given_again (codes "schemaUrl") s.schema_url refl

same_scope : (ss ts : List SpanRecord) (a b : Scope) → HasRange a → HasRange b → scope_spans ss a ≡ scope_spans ts b → SameScope a b
same_scope ss ts a b in_a in_b e =
    let same = λ (q : List ℕ). same_found q (group_members ss a) (group_members ts b) e in
    let values : instrumentation_scope a ≡ instrumentation_scope b = ap inside (sym (scope_in ss a) ∙ same (codes "scope") ∙ scope_in ts b) in
    let told_of = λ (q : List ℕ). same_found q (scope_members a) (scope_members b) values in
    record {
      name = ap text_in (sym (name_in a) ∙ told_of (codes "name") ∙ name_in b);
      version = sym (version_in a) ∙ ap given_in (told_of (codes "version")) ∙ version_in b;
      schema_url = sym (group_url_in ss a) ∙ ap given_in (same (codes "schemaUrl")) ∙ group_url_in ts b;
      attributes = same_attributes (unique a.attributes) (unique b.attributes) (unique_in_range a.attributes in_a) (unique_in_range b.attributes in_b) (sym (scope_attributes_in a) ∙ ap items_in (told_of (codes "attributes")) ∙ scope_attributes_in b);
    }

same_group : (ss ts : List SpanRecord) → All IsInRange ss → All IsInRange ts → (a b : Scope) → HasRange a → HasRange b → scope_spans ss a ≡ scope_spans ts b → SameGroup ss ts a b
same_group ss ts in_ss in_ts a b in_a in_b e =
    let values : of_group ss a ≡ of_group ts b = sym (spans_in ss a) ∙ ap items_in (same_found (codes "spans") (group_members ss a) (group_members ts b) e) ∙ spans_in ts b in
    record {
      scope = same_scope ss ts a b in_a in_b e;
      spans = each span span IsInRange IsInRange SaysSame equal_values_say_same (filter (is_of scope_of a) ss) (filter (is_of scope_of b) ts)
          (All-filter (is_of scope_of a) IsInRange ss in_ss) (All-filter (is_of scope_of b) IsInRange ts in_ts) values;
    }

-- ---- batches
abbrev group_values : List SpanRecord → List Data
group_values = groups.group_values form

abbrev batch_members : Parts → List SpanRecord → List Member
batch_members = groups.batch_members form

resource_in : (r : Parts) (ss : List SpanRecord) → found (codes "resource") (batch_members r ss) ≡ Some (resource r)
resource_in = groups.resource_found form spans_named

groups_in : (r : Parts) (ss : List SpanRecord) → items_in (found (codes "scopeSpans") (batch_members r ss)) ≡ group_values ss
groups_in r ss = ap items_in (groups.groups_found form spans_named r ss) ∙ items_again (group_values ss)

url_in : (r : Parts) (ss : List SpanRecord) → given_in (found (codes "schemaUrl") (batch_members r ss)) ≡ r.schema_url
url_in r ss = ap given_in (groups.batch_url_found form spans_named r ss) ∙ given_again (codes "schemaUrl") r.schema_url refl

resource_attributes_in : (r : Parts) → items_in (found (codes "attributes") (attributes_member r.attributes)) ≡ map key_value r.attributes
resource_attributes_in r = unless_empty_again (codes "attributes") (map key_value r.attributes) refl

abbrev head_of : List Data → Data
head_of [] = null
head_of (d ∷ ds) = d

same_resource_spans : (r q : Parts) (ss ts : List SpanRecord) → AreInRange r.attributes → AreInRange q.attributes → All IsInRange ss → All IsInRange ts
    → resource_spans r ss ≡ resource_spans q ts → SameBatch r q ss ts
same_resource_spans r q ss ts in_r in_q in_ss in_ts e =
    let same = λ (n : List ℕ). same_found n (batch_members r ss) (batch_members q ts) e in
    let values : resource r ≡ resource q = ap inside (sym (resource_in r ss) ∙ same (codes "resource") ∙ resource_in q ts) in
    let in_range = scopes_in_range scope_of IsInRange (λ s h. h.scope) in
    let groups_same : group_values ss ≡ group_values ts = sym (groups_in r ss) ∙ ap items_in (same (codes "scopeSpans")) ∙ groups_in q ts in
    record {
      resource = record {
        attributes = same_attributes r.attributes q.attributes in_r in_q
            (sym (resource_attributes_in r) ∙ ap items_in (same_found (codes "attributes") (attributes_member r.attributes) (attributes_member q.attributes) values) ∙ resource_attributes_in q);
        schema_url = sym (url_in r ss) ∙ ap given_in (same (codes "schemaUrl")) ∙ url_in q ts;
      };
      groups = each (scope_spans ss) (scope_spans ts) HasRange HasRange (SameGroup ss ts) (same_group ss ts in_ss in_ts) (scopes ss) (scopes ts)
          (in_range [] ss in_ss) (in_range [] ts in_ts) groups_same;
    }

pub equal_batches_say_same : EqualBatchesSaySame
equal_batches_say_same r q ss ts in_r in_q in_ss in_ts e =
    let n = codes "resourceSpans" in
    same_resource_spans r q ss ts in_r in_q in_ss in_ts
    (ap (λ o. head_of (items_in o)) (same_found n (list_member n (resource_spans r ss ∷ [])) (list_member n (resource_spans q ts ∷ [])) e))
