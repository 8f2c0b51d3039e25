-- Places in lists of attributes.
use Rattle.std.proofs.Common.{◌≡◌, ℕ, List, [], ◌∷◌, ◌++◌, Some, refl, ap, ◌∙◌}
use Rattle.std.proofs.Common.{slice_set}
use Rattle.std.specs.List.{AllZip}
use Rattle.std.specs.Option.{option_map_or}
use Rattle.std.proofs.lemmas.List.{map-set}
use Rattle.otel_base.specs.View.{tree, pairs_view}
use Rattle.otel_base.specs.declared.any_value.AnyValue.{AnyValue}
use Rattle.otel_sdk_logs.specs.Attributes as spec

-- a list written at the place of the key
pub put_at : (xs : List (List ℕ × AnyValue)) (key : List ℕ) (v : AnyValue) (i : ℕ) → Some i ≡ spec.place key (pairs_view xs)
    → pairs_view (slice_set xs i (key, v)) ≡ spec.put (pairs_view xs) (key, tree v)
put_at xs key v i h =
    map-set (λ e. (e.0, tree e.1)) xs i (key, v)
    ∙ ap (λ r. option_map_or (λ j. slice_set (pairs_view xs) j (key, tree v)) r (pairs_view xs ++ (key, tree v) ∷ [])) h

-- the same, if the list and the key have other names
pub put_found : (xs ys : List (List ℕ × AnyValue)) (key k : List ℕ) (v : AnyValue) (i : ℕ) → ys ≡ xs → k ≡ key
    → Some i ≡ spec.place k (pairs_view ys)
    → pairs_view (slice_set xs i (key, v)) ≡ spec.put (pairs_view xs) (key, tree v)
put_found xs ys key k v i e f h =
    put_at xs key v i (h ∙ ap (λ (q : List ℕ). spec.place q (pairs_view ys)) f
    ∙ ap (λ (zs : List (List ℕ × AnyValue)). spec.place key (pairs_view zs)) e)

-- copies of pairs, one by one
pub copied_pairs : (xs ys : List (List ℕ × AnyValue)) → AllZip (λ x y. (y.0 ≡ x.0) × (tree y.1 ≡ tree x.1)) xs ys
    → pairs_view ys ≡ pairs_view xs
copied_pairs [] [] h = refl
copied_pairs [] (y ∷ ys) h = elim h [ ]
copied_pairs (x ∷ xs) [] h = elim h [ ]
copied_pairs (x ∷ xs) (y ∷ ys) h = λ i. (h.0.0 i, h.0.1 i) ∷ copied_pairs xs ys h.1 i
