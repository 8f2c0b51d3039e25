-- The keys of a map of strings in ascending order.
use Rattle.std.proofs.Common.{◌≡◌, ℕ, List, [], ◌∷◌, Bool, false, cond, refl, sym, ap, subst, ◌∙◌, string_bytes, map, is_some, Bor, Option, None, Some}
use Rattle.std.specs.Cmp.Lexicographic.{slice_cmp, texts_ties, nat_list_eq_equiv, on_texts}
use Rattle.std.specs.List.{list_any, dedup, dedup_from, IsDistinct, AllByRecursion}
use Rattle.std.specs.List.Sorted.{IsSorted, IsStrictlySortedBy, IsPermutation}
use Rattle.std.specs.Ordering.{nat_cmp}
use Rattle.std.specs.declared.cmp.Ordering.{Ordering}
use Rattle.std.specs.declared.cmp.Ordering.TheVariants.{Less}
use Rattle.std.specs.Str.{bytes_eq}
use Rattle.std.specs.String.{string_eq}
use Rattle.std.specs.HashMap as hash
use Rattle.std.specs.HashMap.{HashMap}
use Rattle.std.specs.Map.{lookup}
use Rattle.std.specs.Option.{option_map}
use Rattle.std.specs.declared.string.String.{String}
use Rattle.std.proofs.lemmas.List.Kept.{IsStrictlySortedBy-dedup}
use Rattle.std.proofs.lemmas.List.Sorted.{IsPermutation-map, list_any-IsPermutation}
use Rattle.std.proofs.lemmas.Map.Keys.{IsDistinct-IsPermutation, IsDistinct-tail}
use Rattle.std.proofs.lemmas.Map.Made.{is_some-lookup}
use Rattle.opentelemetry.specs.Carrier.{text_map, AreKeys}
use Rattle.opentelemetry.proofs.shared.Maps.{at-text_map}
use Rattle.otel_base.proofs.shared.MappedLists.{list_any-map}

is_some-option_map : {X Y : Type 0} (f : X → Y) (o : Option X) → is_some (option_map f o) ≡ is_some o
is_some-option_map f None = refl
is_some-option_map f (Some x) = refl

all_map : {X Y : Type 0} (f : X → Y) (P : Y → Type 0) (xs : List X) → AllByRecursion (λ x. P (f x)) xs → AllByRecursion P (map f xs)
all_map f P [] h = h
all_map f P (x ∷ xs) h = (h.0, all_map f P xs h.1)

all_unmap : {X Y : Type 0} (f : X → Y) (P : Y → Type 0) (xs : List X) → AllByRecursion P (map f xs) → AllByRecursion (λ x. P (f x)) xs
all_unmap f P [] h = h
all_unmap f P (x ∷ xs) h = (h.0, all_unmap f P xs h.1)

distinct_map : {X Y : Type 0} (f : X → Y) (e : Y → Y → Bool) (xs : List X) → IsDistinct (λ x y. e (f x) (f y)) xs → IsDistinct e (map f xs)
unfolding IsDistinct
distinct_map f e [] h = h
distinct_map f e (x ∷ xs) h = (all_map f (λ y. e (f x) y ≡ false) xs h.0, distinct_map f e xs h.1)

distinct_unmap : {X Y : Type 0} (f : X → Y) (e : Y → Y → Bool) (xs : List X) → IsDistinct e (map f xs) → IsDistinct (λ x y. e (f x) (f y)) xs
unfolding IsDistinct
distinct_unmap f e [] h = h
distinct_unmap f e (x ∷ xs) h = (all_unmap f (λ y. e (f x) y ≡ false) xs h.0, distinct_unmap f e xs h.1)

pub rising_map : {X Y : Type 0} (f : X → Y) (R : Y → Y → Ordering) (xs : List X) → IsStrictlySortedBy (λ x y. R (f x) (f y)) xs → IsStrictlySortedBy R (map f xs)
unfolding IsStrictlySortedBy
rising_map f R [] h = h
rising_map f R (x ∷ xs) h = (all_map f (λ y. R (f x) y ≡ Less) xs h.0, rising_map f R xs h.1)

first_false : {X : Type 0} (e : X → X → Bool) (k x : X) (xs : List X) → IsDistinct e (k ∷ x ∷ xs) → e k x ≡ false
unfolding IsDistinct
first_false e k x xs h = h.0.0

dedup_from-distinct : {X : Type 0} (e : X → X → Bool) → ((x y : X) → e x y ≡ e y x) → (k : X) (xs : List X) → IsDistinct e (k ∷ xs) → dedup_from e k xs ≡ k ∷ xs
dedup_from-distinct e flips k [] h = refl
dedup_from-distinct e flips k (x ∷ xs) h =
    ap (λ b. cond b (dedup_from e k xs) (k ∷ dedup_from e x xs)) (flips x k ∙ first_false e k x xs h)
    ∙ ap (λ r. k ∷ r) (dedup_from-distinct e flips x xs (IsDistinct-tail e k (x ∷ xs) h))

pub dedup-distinct : {X : Type 0} (e : X → X → Bool) → ((x y : X) → e x y ≡ e y x) → (xs : List X) → IsDistinct e xs → dedup e xs ≡ xs
dedup-distinct e flips [] h = refl
dedup-distinct e flips (x ∷ xs) h = dedup_from-distinct e flips x xs h

-- the result of sorting the keys, borrowed as texts
pub keys_sorted : {A S : Type 0} (m : HashMap (String A) (String A) S) (xs ys : List (Bor (List ℕ))) →
    hash.IsUnique string_eq m → map (λ x. x.now) xs ≡ map string_bytes (hash.keys m) →
    IsPermutation xs ys → IsSorted (λ x y. slice_cmp nat_cmp x.now y.now) ys →
    AreKeys (text_map m.entries) (map (λ x. x.now) ys)
keys_sorted m xs ys unique same moved sorted =
    let now : Bor (List ℕ) → List ℕ = λ x. x.now in
    let texts : IsPermutation (map now xs) (map now ys) = IsPermutation-map now xs ys moved in
    let differ : IsDistinct bytes_eq (map now xs) = subst (IsDistinct bytes_eq) (sym same) (distinct_map string_bytes bytes_eq (hash.keys m) unique) in
    let differ_after : IsDistinct bytes_eq (map now ys) = IsDistinct-IsPermutation bytes_eq nat_list_eq_equiv.symm _ _ texts differ in
    record {
      rising = rising_map now (slice_cmp nat_cmp) ys
          (subst (IsStrictlySortedBy (λ x y. slice_cmp nat_cmp (now x) (now y))) (dedup-distinct (λ x y. bytes_eq (now x) (now y)) (λ x y. nat_list_eq_equiv.symm (now x) (now y)) ys (distinct_unmap now bytes_eq ys differ_after))
          (IsStrictlySortedBy-dedup (on_texts now) (λ x y. texts_ties (now x) (now y)) ys sorted));
      each = λ q.
          ap is_some (at-text_map m.entries q) ∙ is_some-option_map string_bytes (lookup (λ k. bytes_eq q (string_bytes k)) m.entries)
          ∙ is_some-lookup (λ k. bytes_eq q (string_bytes k)) m.entries ∙ sym (list_any-map (bytes_eq q) string_bytes (hash.keys m))
          ∙ ap (list_any (bytes_eq q)) (sym same) ∙ list_any-IsPermutation (bytes_eq q) (map now xs) (map now ys) texts;
    }
