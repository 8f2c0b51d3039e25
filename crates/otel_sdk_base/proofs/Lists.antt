-- Places in lists of attributes.
use Rattle.std.proofs.Common.{◌≡◌, ℕ, Bool, List, [], ◌∷◌, ◌++◌, map}
use Rattle.std.proofs.Common.{Some, None, inl, inr, refl, sym, ap, ◌∙◌, slice_set}
use Rattle.std.specs.Prelude.{find, option_map}
use Rattle.std.specs.Option.{option_map_or}
use Rattle.std.proofs.lemmas.Bool.{cases_Bool}
use Rattle.std.proofs.lemmas.List.{map-set}
use Rattle.otel_base.specs.View.{attribute_of}
use Rattle.otel_base.specs.declared.key_value.KeyValue.{KeyValue}
use Rattle.otel_sdk_base.specs.Attributes as spec

-- a list written at the place of the key
pub put_at : (xs : List KeyValue) (a : KeyValue) (i : ℕ) → spec.place a.key (map attribute_of xs) ≡ Some i
    → map attribute_of (slice_set xs i a) ≡ spec.put (map attribute_of xs) (attribute_of a)
put_at xs a i h =
    map-set attribute_of xs i a
    ∙ ap (λ r. option_map_or (λ j. slice_set (map attribute_of xs) j (attribute_of a)) r (map attribute_of xs ++ attribute_of a ∷ [])) (sym h)

-- the first image that passes is the image of the first element whose image passes
pub find_map : {X Y : Type 0} (p : Y → Bool) (f : X → Y) (xs : List X) → find p (map f xs) ≡ option_map f (find (λ x. p (f x)) xs)
find_map p f [] = refl
find_map p f (x ∷ xs) = elim (cases_Bool (p (f x))) [ inl t ↦ rw t refl | inr h ↦ rw h (find_map p f xs) ]
