-- Batches with the same bytes.
use Rattle.std.proofs.Common.{◌≡◌, ℕ, List, [], ◌∷◌, ◌++◌, map, Option, Some, None, Bool, true, false, if◌then◌else◌, slice_set, refl, sym, ap, ◌∙◌}
use Rattle.std.specs.List.{All, list_any}
use Rattle.std.specs.Option.{option_map_or}
use Rattle.std.proofs.lemmas.List.Elements.{All-nil, All-cons, All-append, All-head, All-tail, All-filter, All-set}
use Rattle.otel_base.specs.InstrumentationScope.{Scope}
use Rattle.otel_base.specs.KeyValue.{Attribute}
use Rattle.otel_sdk_base.specs.Resource.{Parts}
use Rattle.otel_sdk_base.specs.Attributes as given
use Rattle.otel_proto.specs.Common.{key_value}
use Rattle.otel_proto.specs.Laws.{IsField, AreShort}
use Rattle.otel_proto.specs.Wire.{Field, Content, bytes}
use Rattle.otel_proto.specs.Written.{bytes_of, message, messages}
use Rattle.otel_proto.proofs.shared.ReadBack.{equal_bytes}
use Rattle.otel_proto.proofs.shared.Readable.{messages_are_fields}
use Rattle.otel_proto_batches.specs.Common.{resource, scope, unique, text_if_given}
use Rattle.otel_proto_batches.specs.Facts.{told, told_text, span_facts, scope_facts, resource_facts, group_facts, batch_facts}
use Rattle.otel_proto_batches.specs.Groups.{Form, is_of, items_of, new_scope, first_scopes, scope_group, request}
use Rattle.otel_proto_batches.specs.InRange.{IsValueInRange, AreInRange, IsInRange}
use Rattle.otel_proto_batches.specs.Laws.{EqualBatchesSaySame, EqualTracesSaySame, EqualLogsSaySame}
use Rattle.otel_proto_batches.specs.LogFacts.{record_facts}
use Rattle.otel_proto_batches.specs.Logs as logs
use Rattle.otel_proto_batches.specs.LogsInRange.{IsEntryInRange}
use Rattle.otel_proto_batches.specs.Traces as traces
use Rattle.otel_proto_batches.proofs.Pieces.{Piece, IsOf, last_of, more_of, one_piece, same_at, one, text, text_piece, each, each_piece, given_piece, text_in, text_again, same_ends, fits, none_fit, all_fields, one_fits, text_fits, each_fits, first_short, short_at, short_one, short_ends, one_same, each_same}
use Rattle.otel_proto_batches.proofs.SameAttributes.{same_attributes}
use Rattle.otel_proto_batches.proofs.SameRecords.{record_fits, same_record}
use Rattle.otel_proto_batches.proofs.SameSpans.{span_fits, same_span}

same_given : (a b : Option (List ℕ)) → text (told_text a) ++ [] ≡ text (told_text b) ++ [] → Some (told_text a) ≡ Some (told_text b)
same_given a b e = ap Some (sym (text_again (told_text a)) ∙ ap text_in e ∙ text_again (told_text b))

-- ---- scopes
abbrev scope_pieces : Scope → List Piece
scope_pieces s = (1, text s.name) ∷ (2, text (told_text s.version)) ∷ (3, each key_value (unique s.attributes)) ∷ []

scope_is : (s : Scope) → IsOf (scope s) (scope_pieces s)
scope_is s = more_of (text_piece 1 s.name) (more_of (given_piece 2 s.version) (last_of (each_piece 3 key_value (unique s.attributes))))

scope_fits : (s : Scope) → All IsField (scope s)
scope_fits s =
    all_fields (scope_is s)
    (fits 1 refl (text_fits s.name) (fits 2 refl (text_fits (told_text s.version)) (fits 3 refl (each_fits key_value (unique s.attributes)) none_fit)))

abbrev Ranged : Attribute → Type 0
Ranged a = IsValueInRange a.1

abbrev ScopeInRange : Scope → Type 0
ScopeInRange s = AreInRange s.attributes

put_in_range : (xs : List Attribute) (a : Attribute) (at : Option ℕ) → AreInRange xs → Ranged a → AreInRange (option_map_or (λ i. slice_set xs i a) at (xs ++ a ∷ []))
put_in_range xs a None h g = All-append Ranged xs (a ∷ []) h (All-cons Ranged a [] g (All-nil Ranged))
put_in_range xs a (Some i) h g = All-set Ranged xs i a g h

put_all_in_range : (held xs : List Attribute) → AreInRange held → AreInRange xs → AreInRange (given.put_all held xs)
put_all_in_range held [] h g = h
put_all_in_range held (a ∷ xs) h g =
    put_all_in_range (given.put held a) xs (put_in_range held a (given.place a.0 held) h (All-head Ranged a xs g)) (All-tail Ranged a xs g)

unique_in_range : (s : Scope) → ScopeInRange s → AreInRange (unique s.attributes)
unique_in_range s h = put_all_in_range [] s.attributes (All-nil Ranged) h

same_scope : (a b : Scope) → ScopeInRange a → ScopeInRange b → AreShort (scope a) → scope a ≡ scope b → Some (told_text a.schema_url) ≡ Some (told_text b.schema_url) → scope_facts a ≡ scope_facts b
same_scope a b p q short e url =
    let same = same_at (scope_is a) (scope_is b) e in
    let shorts = short_at (scope_is a) short in
    let name : a.name ≡ b.name = sym (text_again a.name) ∙ ap text_in (same 1) ∙ text_again b.name in
    let version = same_given a.version b.version (same 2) in
    let values : told (unique a.attributes) ≡ told (unique b.attributes) =
    same_attributes (unique a.attributes) (unique b.attributes) (unique_in_range a p) (unique_in_range b q) (short_ends (each key_value (unique a.attributes)) (shorts 3)) (same_ends (each key_value (unique a.attributes)) (each key_value (unique b.attributes)) (same 3)) in
    λ i. record { name = name i; version = version i; schema_url = url i; attributes = values i }

-- ---- resources
resource_is : (r : Parts) → IsOf (resource r) ((1, each key_value r.attributes) ∷ [])
resource_is r = last_of (each_piece 1 key_value r.attributes)

resource_fits : (r : Parts) → All IsField (resource r)
resource_fits r = messages_are_fields 1 key_value r.attributes refl

same_resource : (r q : Parts) → AreInRange r.attributes → AreInRange q.attributes → AreShort (resource r) → resource r ≡ resource q → Some (told_text r.schema_url) ≡ Some (told_text q.schema_url) → resource_facts r ≡ resource_facts q
same_resource r q in_r in_q short e url =
    let values : told r.attributes ≡ told q.attributes =
    same_attributes r.attributes q.attributes in_r in_q (short_ends (each key_value r.attributes) (short_at (resource_is r) short 1)) (same_ends (each key_value r.attributes) (each key_value q.attributes) (same_at (resource_is r) (resource_is q) e 1)) in
    λ i. record { attributes = values i; schema_url = url i }

-- ---- batches of a form
-- items whose messages have the same bytes have the same facts
module _ {R F : Type 0} (form : Form R) (facts : R → F) (InRange : R → Type 0) (scope_range : (r : R) → InRange r → ScopeInRange (form.scope_of r))
    (item_fits : (r : R) → InRange r → All IsField (form.fields_of r))
    (same_item : (r s : R) → InRange r → InRange s → AreShort (form.fields_of r) → form.fields_of r ≡ form.fields_of s → facts r ≡ facts s) where
  abbrev items : List R → Scope → List R
  items = items_of form.scope_of

  abbrev group_pieces : List R → Scope → List Piece
  group_pieces xs a =
      (1, one (bytes (bytes_of (scope a)))) ∷ (2, each form.fields_of (items xs a)) ∷ (3, text (told_text a.schema_url)) ∷ []

  group_is : (xs : List R) (a : Scope) → IsOf (scope_group form xs a) (group_pieces xs a)
  group_is xs a =
      more_of (one_piece 1 (bytes (bytes_of (scope a)))) (more_of (each_piece 2 form.fields_of (items xs a)) (last_of (given_piece 3 a.schema_url)))

  group_fits : (xs : List R) (a : Scope) → All IsField (scope_group form xs a)
  group_fits xs a =
      all_fields (group_is xs a)
      (fits 1 refl (one_fits (bytes (bytes_of (scope a))) tt) (fits 2 refl (each_fits form.fields_of (items xs a)) (fits 3 refl (text_fits (told_text a.schema_url)) none_fit)))

  same_group : (xs ys : List R) → All InRange xs → All InRange ys → (a b : Scope) → ScopeInRange a → ScopeInRange b
      → AreShort (scope_group form xs a) → scope_group form xs a ≡ scope_group form ys b → group_facts form.scope_of facts xs a ≡ group_facts form.scope_of facts ys b
  same_group xs ys in_xs in_ys a b p q short e =
      let same = same_at (group_is xs a) (group_is ys b) e in
      let shorts = short_at (group_is xs a) short in
      let inner : AreShort (scope a) = short_one (bytes_of (scope a)) (shorts 1) in
      let scopes : scope a ≡ scope b = one_same (scope a) (scope b) (scope_fits a) (scope_fits b) inner (same 1) in
      let whole = same_scope a b p q inner scopes (same_given a.schema_url b.schema_url (same 3)) in
      let told_items : map facts (items xs a) ≡ map facts (items ys b) =
      each_same form.fields_of form.fields_of facts facts InRange InRange item_fits item_fits same_item (items xs a) (items ys b)
      (All-filter (is_of form.scope_of a) InRange xs in_xs) (All-filter (is_of form.scope_of b) InRange ys in_ys)
      (short_ends (each form.fields_of (items xs a)) (shorts 2)) (same_ends (each form.fields_of (items xs a)) (each form.fields_of (items ys b)) (same 2)) in
      λ i. record { scope = whole i; items = told_items i }

  abbrev scopes : List R → List Scope
  scopes = first_scopes form.scope_of []

  new_in_range : (before : List R) (r : R) → InRange r → All ScopeInRange (new_scope form.scope_of before r)
  new_in_range before r h = by (list_any (is_of form.scope_of (form.scope_of r)) before)
    where
      by : (b : Bool) → All ScopeInRange (if b then [] else form.scope_of r ∷ [])
      by true = All-nil ScopeInRange
      by false = All-cons ScopeInRange (form.scope_of r) [] (scope_range r h) (All-nil ScopeInRange)

  scopes_in_range : (before xs : List R) → All InRange xs → All ScopeInRange (first_scopes form.scope_of before xs)
  scopes_in_range before [] h = All-nil ScopeInRange
  scopes_in_range before (x ∷ xs) h =
      All-append ScopeInRange (new_scope form.scope_of before x) (first_scopes form.scope_of (before ++ x ∷ []) xs)
      (new_in_range before x (All-head InRange x xs h)) (scopes_in_range (before ++ x ∷ []) xs (All-tail InRange x xs h))

  abbrev groups_of : List R → List Content
  groups_of xs = each (scope_group form xs) (scopes xs)

  abbrev batch_pieces : Parts → List R → List Piece
  batch_pieces r xs =
      (1, one (bytes (bytes_of (resource r)))) ∷ (2, groups_of xs) ∷ (3, text (told_text r.schema_url)) ∷ []

  -- the fields of the one message in a request
  abbrev inside : Parts → List R → List Field
  inside r xs =
      message 1 (resource r) ∷ (messages 2 (scope_group form xs) (scopes xs) ++ text_if_given 3 r.schema_url)

  inside_is : (r : Parts) (xs : List R) → IsOf (inside r xs) (batch_pieces r xs)
  inside_is r xs =
      more_of (one_piece 1 (bytes (bytes_of (resource r)))) (more_of (each_piece 2 (scope_group form xs) (scopes xs)) (last_of (given_piece 3 r.schema_url)))

  inside_fits : (r : Parts) (xs : List R) → All IsField (inside r xs)
  inside_fits r xs =
      all_fields (inside_is r xs)
      (fits 1 refl (one_fits (bytes (bytes_of (resource r))) tt) (fits 2 refl (each_fits (scope_group form xs) (scopes xs)) (fits 3 refl (text_fits (told_text r.schema_url)) none_fit)))

  same_inside : (r q : Parts) (xs ys : List R) → AreInRange r.attributes → AreInRange q.attributes → All InRange xs → All InRange ys
      → AreShort (inside r xs) → inside r xs ≡ inside q ys → batch_facts form.scope_of facts r xs ≡ batch_facts form.scope_of facts q ys
  same_inside r q xs ys in_r in_q in_xs in_ys short e =
      let same = same_at (inside_is r xs) (inside_is q ys) e in
      let shorts = short_at (inside_is r xs) short in
      let inner : AreShort (resource r) = short_one (bytes_of (resource r)) (shorts 1) in
      let resources : resource r ≡ resource q = one_same (resource r) (resource q) (resource_fits r) (resource_fits q) inner (same 1) in
      let whole = same_resource r q in_r in_q inner resources (same_given r.schema_url q.schema_url (same 3)) in
      let groups : map (group_facts form.scope_of facts xs) (scopes xs) ≡ map (group_facts form.scope_of facts ys) (scopes ys) =
      each_same (scope_group form xs) (scope_group form ys) (group_facts form.scope_of facts xs) (group_facts form.scope_of facts ys) ScopeInRange ScopeInRange
      (λ a h. group_fits xs a) (λ b h. group_fits ys b) (same_group xs ys in_xs in_ys) (scopes xs) (scopes ys)
      (scopes_in_range [] xs in_xs) (scopes_in_range [] ys in_ys) (short_ends (groups_of xs) (shorts 2)) (same_ends (groups_of xs) (groups_of ys) (same 2)) in
      λ i. record { resource = whole i; groups = groups i }

  equal_batches : EqualBatchesSaySame form facts InRange
  equal_batches r q xs ys in_r in_q in_xs in_ys short e =
      let fields : request form r xs ≡ request form q ys =
      equal_bytes (request form r xs) (request form q ys)
      (messages_are_fields 1 (λ (fs : List Field). fs) (inside r xs ∷ []) refl) (messages_are_fields 1 (λ (fs : List Field). fs) (inside q ys ∷ []) refl) short e in
      let inner : AreShort (inside r xs) = first_short (message 1 (inside r xs)) [] short in
      same_inside r q xs ys in_r in_q in_xs in_ys inner
      (one_same (inside r xs) (inside q ys) (inside_fits r xs) (inside_fits q ys) inner (ap (λ (fs : List Field). map (λ f. f.1) fs) fields))

pub equal_traces : EqualTracesSaySame
equal_traces = equal_batches traces.form span_facts IsInRange (λ s h. h.scope) span_fits same_span

pub equal_logs : EqualLogsSaySame
equal_logs = equal_batches logs.form record_facts IsEntryInRange (λ e h. h.scope) record_fits same_record
