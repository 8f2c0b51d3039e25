-- Lists whose elements are mapped, for example to their views.
use Rattle.std.proofs.Common.{◌≡◌, List, [], ◌∷◌, Bool, true, false, ◌||◌, cond, map, refl, ap}
use Rattle.std.specs.List.{AllZip, filter, list_any}
use Rattle.otel_base.specs.View.{attribute_of}
use Rattle.otel_base.specs.declared.key_value.KeyValue.{KeyValue}

module _ {X Y : Type 0} (view : X → Y) where
  -- lists whose elements have equal views have equal views
  pub same_views : (xs ys : List X) → AllZip (λ x y. view y ≡ view x) xs ys → map view ys ≡ map view xs
  same_views [] [] h = refl
  same_views [] (y ∷ ys) h = elim h [ ]
  same_views (x ∷ xs) [] h = elim h [ ]
  same_views (x ∷ xs) (y ∷ ys) h = λ i. h.0 i ∷ same_views xs ys h.1 i

  kept : (b : Bool) (x : X) (ys : List Y) (xs : List X) → ys ≡ map view xs
      → cond b (view x ∷ ys) ys ≡ map view (cond b (x ∷ xs) xs)
  kept true x ys xs h = ap (λ zs. view x ∷ zs) h
  kept false x ys xs h = h

  -- filtering the views gives the views of the filtered list
  pub filter_views : (test : Y → Bool) (xs : List X)
      → filter test (map view xs) ≡ map view (filter (λ x. test (view x)) xs)
  filter_views test [] = refl
  filter_views test (x ∷ xs) = kept (test (view x)) x _ _ (filter_views test xs)

-- clones of attributes
pub cloned_pairs : (xs ys : List KeyValue) → AllZip (λ x y. attribute_of y ≡ attribute_of x) xs ys
    → map attribute_of ys ≡ map attribute_of xs
cloned_pairs xs ys h = same_views attribute_of xs ys h

pub list_any-map : {X Y : Type 0} (p : Y → Bool) (f : X → Y) (xs : List X) → list_any p (map f xs) ≡ list_any (λ x. p (f x)) xs
list_any-map p f [] = refl
list_any-map p f (x ∷ xs) = ap (λ b. p (f x) || b) (list_any-map p f xs)
