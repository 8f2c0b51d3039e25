-- The pairs that have a key, and the first pair of each key.
use Rattle.std.proofs.Common.{◌≡◌, ℕ, zero, suc, ◌≤◌, Bool, true, false, cond, List, [], ◌∷◌, ◌++◌, length, take, Option, Some, None, refl, sym, ap, ◌∙◌, arith, inl, inr}
use Rattle.std.specs.Prelude.{map, filter, not, ◌||◌, is_some, option_copied}
use denote.Ref.{Bor}
use Rattle.std.specs.List.{AllByRecursion, list_any}
use Rattle.std.specs.Str.{bytes_eq}
use Rattle.std.proofs.lemmas.Bool.{cases_Bool}
use Rattle.std.proofs.lemmas.Cmp.{nat_list_eq_equiv}
use Rattle.std.proofs.lemmas.Slice.Eq.{bytes_eq-Decides}
use Rattle.std.proofs.lemmas.List.{append-nil}
use Rattle.std.proofs.lemmas.List.Elements.{filter-append}
use Rattle.std.proofs.lemmas.Map.Views.{any-filter_same}
use Rattle.otel_ids.specs.TraceState.{Pair, has_key, LacksKey, DistinctKeys, get, delete, first_of_each_key}
use Rattle.otel_ids.specs.View.{with_new_key}
use Rattle.otel_ids.specs.Laws.{RepeatsLeftOut, cut_value}

-- ---- the pairs that a filter keeps

pub valid_filter : (P : Pair → Type 0) (test : Pair → Bool) (ps : List Pair) → AllByRecursion P ps → AllByRecursion P (filter test ps)
valid_filter P test [] h = tt
valid_filter P test (p ∷ ps) h =
    elim (cases_Bool (test p)) [
      | inl t ↦ rw t (h.0, valid_filter P test ps h.1)
      | inr f ↦ rw f (valid_filter P test ps h.1)
    ]

pub length_filter : (test : Pair → Bool) (ps : List Pair) → length (filter test ps) ≤ length ps
length_filter test [] = omega arith
length_filter test (p ∷ ps) =
    let l = length_filter test ps in
    elim (cases_Bool (test p)) [
      | inl t ↦ rw t (omega arith)
      | inr f ↦ rw f (omega arith)
    ]

lacks_filter : (key : List ℕ) (test : Pair → Bool) (ps : List Pair) → LacksKey key ps → LacksKey key (filter test ps)
lacks_filter key test ps h = valid_filter _ test ps h

pub distinct_filter : (test : Pair → Bool) (ps : List Pair) → DistinctKeys ps → DistinctKeys (filter test ps)
distinct_filter test [] h = tt
distinct_filter test (p ∷ ps) h =
    elim (cases_Bool (test p)) [
      | inl t ↦ rw t (lacks_filter p.key test ps h.0, distinct_filter test ps h.1)
      | inr f ↦ rw f (distinct_filter test ps h.1)
    ]

lacks_take : (key : List ℕ) (n : ℕ) (ps : List Pair) → LacksKey key ps → LacksKey key (take n ps)
lacks_take key zero ps h = tt
lacks_take key (suc n) [] h = tt
lacks_take key (suc n) (p ∷ ps) h = (h.0, lacks_take key n ps h.1)

distinct_take : (n : ℕ) (ps : List Pair) → DistinctKeys ps → DistinctKeys (take n ps)
distinct_take zero ps h = tt
distinct_take (suc n) [] h = tt
distinct_take (suc n) (p ∷ ps) h = (lacks_take p.key n ps h.0, distinct_take n ps h.1)

-- ---- a key that is deleted

lacks_delete : (key : List ℕ) (ps : List Pair) → LacksKey key (delete ps key)
lacks_delete key [] = tt
lacks_delete key (p ∷ ps) =
    elim (cases_Bool (has_key key p)) [
      | inl t ↦ rw t (lacks_delete key ps)
      | inr f ↦ rw f (f, lacks_delete key ps)
    ]

pub delete_lacking : (key : List ℕ) (ps : List Pair) → LacksKey key ps → delete ps key ≡ ps
delete_lacking key [] h = refl
delete_lacking key (p ∷ ps) h = rw h.0 (ap (λ (x : List Pair). p ∷ x) (delete_lacking key ps h.1))

pub distinct_insert : (p : Pair) (n : ℕ) (ps : List Pair) → DistinctKeys ps → DistinctKeys (p ∷ take n (delete ps p.key))
distinct_insert p n ps h =
    (lacks_take p.key n (delete ps p.key) (lacks_delete p.key ps), distinct_take n (delete ps p.key) (distinct_filter _ ps h))

-- ---- the first pair of each key

other_key : (k j : List ℕ) → bytes_eq j k ≡ false → (p : Pair) → has_key k p ≡ true → not (has_key j p) ≡ true
other_key k j f p t =
    let same : p.key ≡ k = (bytes_eq-Decides p.key k).0 t in
    ap not (ap (λ (x : List ℕ). bytes_eq x j) same ∙ nat_list_eq_equiv.symm k j ∙ f)

pub any_first : (k : List ℕ) (ps : List Pair) → list_any (has_key k) (first_of_each_key ps) ≡ list_any (has_key k) ps
any_first k [] = refl
any_first k (p ∷ ps) =
    elim (cases_Bool (has_key k p)) [
      | inl t ↦ rw t refl
      | inr f ↦ rw f (any-filter_same (has_key k) (λ q. not (has_key p.key q)) true (other_key k p.key f) (first_of_each_key ps) ∙ any_first k ps)
    ]

pub distinct_first : (ps : List Pair) → DistinctKeys (first_of_each_key ps)
distinct_first [] = tt
distinct_first (p ∷ ps) = (lacks_delete p.key (first_of_each_key ps), distinct_filter _ (first_of_each_key ps) (distinct_first ps))

pub valid_first : (P : Pair → Type 0) (ps : List Pair) → AllByRecursion P ps → AllByRecursion P (first_of_each_key ps)
valid_first P [] h = tt
valid_first P (p ∷ ps) h = (h.0, valid_filter P _ (first_of_each_key ps) (valid_first P ps h.1))

pub length_first : (ps : List Pair) → length (first_of_each_key ps) ≤ length ps
length_first [] = omega arith
length_first (p ∷ ps) = let l = length_first ps in omega (arith, length_filter (λ q. not (has_key p.key q)) (first_of_each_key ps))

-- pairs with distinct keys are all kept
pub first_same : (ps : List Pair) → DistinctKeys ps → first_of_each_key ps ≡ ps
first_same [] h = refl
first_same (p ∷ ps) h = ap (λ (x : List Pair). p ∷ x) (ap (λ (x : List Pair). delete x p.key) (first_same ps h.1) ∙ delete_lacking p.key ps h.0)

pub nothing_first : (ps : List Pair) → first_of_each_key ps ≡ [] → ps ≡ []
nothing_first [] h = refl
nothing_first (p ∷ ps) h = absurd cc

abbrev if_new : List Pair → Pair → List Pair
if_new ps p = cond (list_any (has_key p.key) ps) [] (p ∷ [])

delete_one : (key : List ℕ) (p : Pair) (b : Bool) → delete (cond b [] (p ∷ [])) key ≡ cond (has_key key p || b) [] (p ∷ [])
delete_one key p true = elim (cases_Bool (has_key key p)) [ inl t ↦ rw t refl | inr f ↦ rw f refl ]
delete_one key p false = elim (cases_Bool (has_key key p)) [ inl t ↦ rw t refl | inr f ↦ rw f refl ]

pub repeats_left_out : RepeatsLeftOut
repeats_left_out [] p = refl
repeats_left_out (q ∷ ps) p =
    let others : first_of_each_key (ps ++ p ∷ []) ≡ first_of_each_key ps ++ if_new ps p = repeats_left_out ps p in
    let turned : has_key q.key p ≡ has_key p.key q = nat_list_eq_equiv.symm p.key q.key in
    let last : delete (if_new ps p) q.key ≡ if_new (q ∷ ps) p =
    delete_one q.key p (list_any (has_key p.key) ps) ∙ ap (λ (b : Bool). cond (b || list_any (has_key p.key) ps) [] (p ∷ [])) turned in
    ap (λ (x : List Pair). q ∷ x) (
    ap (λ (x : List Pair). delete x q.key) others ∙ filter-append (λ r. not (has_key q.key r)) (first_of_each_key ps) (if_new ps p)
    ∙ ap (λ (x : List Pair). delete (first_of_each_key ps) q.key ++ x) last
    )

-- one pair more
pub first_push : (ps : List Pair) (p : Pair) → with_new_key (first_of_each_key ps) p ≡ first_of_each_key (ps ++ p ∷ [])
first_push ps p =
    let any = any_first p.key ps in
    elim (cases_Bool (list_any (has_key p.key) ps)) [
      | inl t ↦ rw (any, t) (sym (repeats_left_out ps p ∙ rw t (append-nil (first_of_each_key ps))))
      | inr f ↦ rw (any, f) (sym (repeats_left_out ps p ∙ rw f refl))
    ]

-- ---- a key that is looked up

get_any : (ps : List Pair) (key : List ℕ) → is_some (get ps key) ≡ list_any (has_key key) ps
get_any [] key = refl
get_any (p ∷ ps) key =
    elim (cases_Bool (has_key key p)) [
      | inl t ↦ rw t refl
      | inr f ↦ rw f (get_any ps key)
    ]

copied_some : (o : Option (Bor (List ℕ))) → is_some o ≡ is_some (option_copied o)
copied_some None = refl
copied_some (Some x) = refl

pub has_from_get : (ps : List Pair) (key : List ℕ) (o : Option (Bor (List ℕ))) → option_copied o ≡ get ps key → is_some o ≡ list_any (has_key key) ps
has_from_get ps key o e = copied_some o ∙ ap is_some e ∙ get_any ps key

-- a pair whose key an earlier pair has is left out
pub with_new_key-present : (ps : List Pair) (p : Pair) → list_any (has_key p.key) ps ≡ true → ps ≡ with_new_key ps p
with_new_key-present ps p t = rw t refl

pub with_new_key-new : (ps : List Pair) (p : Pair) → list_any (has_key p.key) ps ≡ false → ps ++ p ∷ [] ≡ with_new_key ps p
with_new_key-new ps p f = rw f refl

-- ---- values that are cut

lacks_cut : (key : List ℕ) (ps : List Pair) → LacksKey key ps → LacksKey key (map cut_value ps)
lacks_cut key [] h = tt
lacks_cut key (p ∷ ps) h = (h.0, lacks_cut key ps h.1)

pub distinct_cut : (ps : List Pair) → DistinctKeys ps → DistinctKeys (map cut_value ps)
distinct_cut [] h = tt
distinct_cut (p ∷ ps) h = (lacks_cut p.key ps h.0, distinct_cut ps h.1)
