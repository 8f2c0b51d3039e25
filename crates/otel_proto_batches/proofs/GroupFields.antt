-- The fields of a group of the program are those of its scope with its items.
use Rattle.std.proofs.Common.{◌≡◌, List, [], ◌∷◌, ◌++◌, map, Bor, refl, sym, ap, ◌∙◌}
use Rattle.otel_base.specs.KeyValue.{Attribute}
use Rattle.otel_proto.specs.Wire.{Field}
use Rattle.otel_proto.specs.Written.{message, messages}
use Rattle.otel_proto_batches.specs.Common.{scope, scope_with, unique, text_if_given}
use Rattle.otel_proto_batches.specs.Groups.{Form, scope_group, first_scopes}
use Rattle.otel_proto_batches.specs.GroupView.{group_fields}
use Rattle.otel_proto_batches.specs.Sorted.{Sorted, group_of, sort}
use Rattle.otel_proto_batches.specs.declared.groups.Group.{Group}

map-twice : {A B C : Type 0} (f : B → C) (g : A → B) (xs : List A) → map f (map g xs) ≡ map (λ x. f (g x)) xs
map-twice f g [] = refl
map-twice f g (x ∷ xs) = ap (λ l. f (g x) ∷ l) (map-twice f g xs)

module _ {R : Type 0} (fields_of : R → List Field) where
  -- the fields of a scope with its items
  abbrev pub sorted_fields : Sorted R → List Field
  sorted_fields g =
      message 1 (scope g.0) ∷ (messages 2 fields_of g.1 ++ text_if_given 3 g.0.schema_url)

  items_same : (xs : List (Bor R)) → messages 2 (λ (r : Bor R). fields_of r.now) xs ≡ messages 2 fields_of (map (λ r. r.now) xs)
  items_same [] = refl
  items_same (x ∷ xs) = ap (λ fs. message 2 (fields_of x.now) ∷ fs) (items_same xs)

  pub group_same : (g : Group R) → g.attributes.attributes ≡ unique g.scope.attributes → group_fields fields_of g ≡ sorted_fields (g.scope, map (λ r. r.now) g.items.items)
  group_same g e =
      ap (λ (xs : List Attribute). message 1 (scope_with g.scope xs) ∷ (messages 2 (λ r. fields_of r.now) g.items.items ++ text_if_given 3 g.scope.schema_url)) e
      ∙ ap (λ (ms : List Field). message 1 (scope g.scope) ∷ (ms ++ text_if_given 3 g.scope.schema_url)) (items_same g.items.items)

-- the groups of sorted items
pub groups_of : {R : Type 0} (form : Form R) (items : List R)
    → map (sorted_fields form.fields_of) (sort form.scope_of items) ≡ map (scope_group form items) (first_scopes form.scope_of [] items)
groups_of form items = map-twice (sorted_fields form.fields_of) (group_of form.scope_of items) (first_scopes form.scope_of [] items)

messages_by : {A : Type 0} (f : A → List Field) (xs : List A) → messages 2 f xs ≡ map (message 2) (map f xs)
messages_by f [] = refl
messages_by f (x ∷ xs) = ap (λ fs. message 2 (f x) ∷ fs) (messages_by f xs)

-- messages of elements with the same fields
pub messages_same : {A B : Type 0} (f : A → List Field) (g : B → List Field) (xs : List A) (ys : List B) → map f xs ≡ map g ys → messages 2 f xs ≡ messages 2 g ys
messages_same f g xs ys e = messages_by f xs ∙ ap (map (message 2)) e ∙ sym (messages_by g ys)
