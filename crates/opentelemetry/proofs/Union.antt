-- The union of lists of texts, in order of first appearance.
use Rattle.std.proofs.Common.{◌≡◌, ℕ, ◌+◌, ◌<◌, ◌≤◌, List, [], ◌∷◌, ◌++◌, true, false, cond, not, ◌||◌, refl, sym, ap, subst, ◌∙◌, take, length, get_or, append_assoc, map, string_bytes, filter}
use Rattle.std.specs.List.{flat_map, list_any}
use Rattle.std.specs.Str.{bytes_eq}
use Rattle.std.specs.String.{string_eq}
use Rattle.otel_base.proofs.shared.Bytes.{bytes_eq-sym}
use Rattle.otel_base.proofs.shared.Steps.{flat_map-take_more}
use Rattle.std.specs.declared.string.String.{String}
use Rattle.std.proofs.lemmas.List.{append-nil, take_all, map-append}
use Rattle.std.proofs.lemmas.List.Sums.{fold-append}
use Rattle.std.proofs.lemmas.List.Folds.{list_any-append}
use Rattle.std.proofs.lemmas.Slice.Eq.{bytes_eq-Decides}
use Rattle.indexmap.specs.IndexSet.{insert_key, insert_all}
use Rattle.opentelemetry.specs.Composite.{first_appearances}

-- the strings' texts after one more
list_any-texts : {A : Type 0} (k : String A) (ks : List (String A)) → list_any (string_eq k) ks ≡ list_any (bytes_eq (string_bytes k)) (map string_bytes ks)
list_any-texts k [] = refl
list_any-texts k (x ∷ ks) = ap (λ b. bytes_eq (string_bytes k) (string_bytes x) || b) (list_any-texts k ks)

pub texts-insert_key : {A : Type 0} (ks : List (String A)) (k : String A) → map string_bytes (insert_key string_eq ks k) ≡ insert_key bytes_eq (map string_bytes ks) (string_bytes k)
texts-insert_key ks k =
    rw (← list_any-texts k ks)
    (elim (list_any (string_eq k) ks) as (λ b. map string_bytes (cond b ks (ks ++ k ∷ [])) ≡ cond b (map string_bytes ks) (map string_bytes ks ++ string_bytes k ∷ [])) [
      | true ↦ refl
      | false ↦ map-append string_bytes ks (k ∷ [])
    ])

-- the texts that aren't among the earlier ones
abbrev pub others : List (List ℕ) → List (List ℕ) → List (List ℕ)
others ks xs = filter (λ y. not (list_any (bytes_eq y) ks)) xs

others-nothing : (xs : List (List ℕ)) → xs ≡ others [] xs
others-nothing [] = refl
others-nothing (x ∷ xs) = ap (λ ys. x ∷ ys) (others-nothing xs)

-- a text that is among the earlier ones is left out anyway
others-known : (ks : List (List ℕ)) (x : List ℕ) (ys : List (List ℕ)) → list_any (bytes_eq x) ks ≡ true → others ks ys ≡ others ks (filter (λ y. not (bytes_eq x y)) ys)
others-known ks x [] known = refl
others-known ks x (y ∷ ys) known =
    elim (bytes_eq x y) as (λ b. bytes_eq x y ≡ b → others ks (y ∷ ys) ≡ others ks (cond (not b) (y ∷ filter (λ z. not (bytes_eq x z)) ys) (filter (λ z. not (bytes_eq x z)) ys))) [
      | true ↦ λ is.
          let same : x ≡ y = (bytes_eq-Decides x y).0 is in
          let there : list_any (bytes_eq y) ks ≡ true = subst (λ z. list_any (bytes_eq z) ks ≡ true) same known in
          ap (λ b. cond (not b) (y ∷ others ks ys) (others ks ys)) there ∙ others-known ks x ys known
      | false ↦ λ is. ap (λ r. cond (not (list_any (bytes_eq y) ks)) (y ∷ r) r) (others-known ks x ys known)
    ] refl

-- a new text is left out of the others from then on
others-new : (ks : List (List ℕ)) (x : List ℕ) (ys : List (List ℕ)) → others (ks ++ x ∷ []) ys ≡ others ks (filter (λ y. not (bytes_eq x y)) ys)
others-new ks x [] = refl
others-new ks x (y ∷ ys) =
    ap (λ b. cond (not b) (y ∷ others (ks ++ x ∷ []) ys) (others (ks ++ x ∷ []) ys)) (list_any-append (bytes_eq y) ks (x ∷ []))
    ∙ ap (λ r. cond (not (list_any (bytes_eq y) ks || (bytes_eq y x || false))) (y ∷ r) r) (others-new ks x ys)
    ∙ rw (bytes_eq-sym y x)
    (elim (bytes_eq x y) as (λ b. cond (not (list_any (bytes_eq y) ks || (b || false))) (y ∷ others ks (filter (λ z. not (bytes_eq x z)) ys)) (others ks (filter (λ z. not (bytes_eq x z)) ys))
    ≡ others ks (cond (not b) (y ∷ filter (λ z. not (bytes_eq x z)) ys) (filter (λ z. not (bytes_eq x z)) ys))) [
      | true ↦ elim (list_any (bytes_eq y) ks) as (λ a. cond (not (a || true)) (y ∷ others ks (filter (λ z. not (bytes_eq x z)) ys)) (others ks (filter (λ z. not (bytes_eq x z)) ys)) ≡ others ks (filter (λ z. not (bytes_eq x z)) ys)) [ true ↦ refl | false ↦ refl ]
      | false ↦ elim (list_any (bytes_eq y) ks) as (λ a. cond (not (a || false)) (y ∷ others ks (filter (λ z. not (bytes_eq x z)) ys)) (others ks (filter (λ z. not (bytes_eq x z)) ys)) ≡ cond (not a) (y ∷ others ks (filter (λ z. not (bytes_eq x z)) ys)) (others ks (filter (λ z. not (bytes_eq x z)) ys))) [ true ↦ refl | false ↦ refl ]
    ])

pub insert_all-others : (ks xs : List (List ℕ)) → insert_all bytes_eq ks xs ≡ ks ++ others ks (first_appearances xs)
insert_all-others ks [] = sym (append-nil ks)
insert_all-others ks (x ∷ xs) =
    elim (list_any (bytes_eq x) ks) as (λ b. list_any (bytes_eq x) ks ≡ b → insert_all bytes_eq (cond b ks (ks ++ x ∷ [])) xs ≡ ks ++ cond (not b) (x ∷ others ks (filter (λ y. not (bytes_eq x y)) (first_appearances xs))) (others ks (filter (λ y. not (bytes_eq x y)) (first_appearances xs)))) [
      | true ↦ λ known. insert_all-others ks xs ∙ ap (λ r. ks ++ r) (others-known ks x (first_appearances xs) known)
      | false ↦ λ new. insert_all-others (ks ++ x ∷ []) xs ∙ ap (λ r. (ks ++ x ∷ []) ++ r) (others-new ks x (first_appearances xs)) ∙ append_assoc ks (x ∷ []) _
    ] refl

pub insert_all-first_appearances : (xs : List (List ℕ)) → insert_all bytes_eq [] xs ≡ first_appearances xs
insert_all-first_appearances xs = insert_all-others [] xs ∙ sym (others-nothing (first_appearances xs))

-- one more member's names
pub insert_all_members : {X : Type 0} (f : X → List (List ℕ)) (ks : List (List ℕ)) (xs : List X) (i : ℕ) (x : X) (n : List (List ℕ)) → i < length xs → x ≡ get_or xs i x →
    n ≡ insert_all bytes_eq ks (f x) → ks ≡ insert_all bytes_eq [] (flat_map f (take i xs)) → n ≡ insert_all bytes_eq [] (flat_map f (take (i + 1) xs))
insert_all_members f ks xs i x n h is more so_far =
    more ∙ ap (λ r. insert_all bytes_eq r (f x)) so_far ∙ sym (fold-append (insert_key bytes_eq) [] (flat_map f (take i xs)) (f x))
    ∙ ap (insert_all bytes_eq []) (sym (flat_map-take_more f xs i x h is))

-- past the last member
pub names_all : {X : Type 0} (f : X → List (List ℕ)) (n : List (List ℕ)) (xs ys : List X) (i : ℕ) → xs ≡ ys → length xs ≤ i →
    n ≡ insert_all bytes_eq [] (flat_map f (take i xs)) → n ≡ first_appearances (flat_map f ys)
names_all f n xs ys i same h is = is ∙ ap (λ zs. insert_all bytes_eq [] (flat_map f zs)) (take_all i xs h ∙ same) ∙ insert_all-first_appearances (flat_map f ys)
