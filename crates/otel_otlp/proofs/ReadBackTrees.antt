-- What the value trees that the exporter writes are read as.
use Rattle.std.proofs.Common.{◌≡◌, refl, sym, ap, subst, ◌∙◌, ℕ, zero, suc, ◌-◌, ◌≤◌, ◌==◌, arith}
use Rattle.std.proofs.Common.{Bool, List, [], ◌∷◌, codes, if◌then◌else◌, Some}
use Rattle.std.specs.List.{AllZip}
use Rattle.std.specs.List.Sorted.{IsStrictlySortedBy}
use Rattle.std.specs.Option.{option_or}
use Rattle.std.specs.Result.{result_ok}
use Rattle.std.proofs.lemmas.Bool.{ne_eqb}
use Rattle.base64.proofs.EngineFacts.{decode_of-encode_of}
use Rattle.base64.specs.Engines.{standard, standard_pad_indifferent}
use Rattle.base64.specs.GeneralPurpose.{IsBytes, encode_of}
use Rattle.otel_base.specs.AnyValue as any
use Rattle.otel_base.specs.AnyValue.{Tree, Trees, no_trees, more_trees, Entries, no_entries, more_entries, keys_of_entries}
use Rattle.otel_base.specs.View.{trees_of}
use Rattle.serde_json.specs.Data.{Data, string}
use Rattle.otel_otlp.specs.Common.{tree_value, tree_values, entry_values, pair}
use Rattle.otel_otlp.specs.Json.{object_of, list_member}
use Rattle.otel_otlp.specs.ReadBackLogs.{IsHeldTree, AreHeldTrees, HaveHeldTrees}
use Rattle.otel_otlp.specs.ReadMembers.{member_of, unless_null, list_in, AreIn}
use Rattle.otel_otlp.specs.ReadTrees.{bytes_of, url_safe_bytes_of, AreBytes, IsListOf, IsMapBy, IsPairOf, IsPair, IsTree}
use Rattle.otel_otlp.specs.Trees.{cut, cut_trees, cut_entries}
use Rattle.otel_otlp.proofs.ReadBack.{Only, integer_is, list_is}
use Rattle.otel_otlp.proofs.ReadBackValues.{only_there}
use Rattle.otel_otlp.proofs.ReadErrors.{some_same}
use Rattle.otel_base.proofs.MapTrees.{same_map}
use Rattle.otel_otlp.proofs.RisingEntries.{by_bytes, Rises, pairs_of, is_map}

-- ---- bytes
bytes_again : (bs : List ℕ) → IsBytes bs → bytes_of (encode_of standard bs) ≡ Some bs
bytes_again bs h =
    ap (λ r. option_or (result_ok r) (url_safe_bytes_of (encode_of standard bs)))
    (decode_of-encode_of standard_pad_indifferent bs tt h)

only_bytes : (bs : List ℕ) → IsBytes bs
    → Only (AreBytes (string (encode_of standard bs))) (any.bytes bs)
only_bytes bs h = (
  (bs, refl, bytes_again bs h),
  λ t k. k.1 ∙ ap any.bytes (some_same _ _ (sym k.2 ∙ bytes_again bs h)),
)

-- ---- values one by one
no_more : {A : Type 0} (Says : Data → A → Type 0) → Only (AllZip Says []) []
no_more {A = A} Says = (tt, none)
  where
    none : (ys : List A) → AllZip Says [] ys → ys ≡ []
    none [] k = refl
    none (y ∷ ys) k = absurd k

one_more : {A : Type 0} (Says : Data → A → Type 0) (d : Data) (x : A) (ds : List Data) (xs : List A)
    → Only (Says d) x → Only (AllZip Says ds) xs → Only (AllZip Says (d ∷ ds)) (x ∷ xs)
one_more {A = A} Says d x ds xs one more = ((one.0, more.0), same)
  where
    same : (ys : List A) → AllZip Says (d ∷ ds) ys → ys ≡ x ∷ xs
    same [] k = absurd k
    same (y ∷ ys) k = ap (λ z. z ∷ ys) (one.1 y k.0) ∙ ap (λ zs. x ∷ zs) (more.1 ys k.1)

abbrev values_data : List Data → Data
values_data ds = object_of (list_member (codes "values") ds)

-- the values are in their list
only_in : {A : Type 0} (Says : Data → A → Type 0) (ds : List Data) (xs : List A)
    → Only (AllZip Says ds) xs → Only (AreIn Says (codes "values") (values_data ds)) xs
only_in Says ds xs each =
    let has : list_in (codes "values") (values_data ds) ≡ Some ds =
    list_is (codes "values") (list_member (codes "values") ds) ds refl in (
      record { values = ds; has_list = has; each = each.0 },
      λ ys k. each.1 ys
          (subst (λ vs. AllZip Says vs ys) (some_same _ _ (sym k.has_list ∙ has)) k.each),
    )

-- ---- lists
abbrev items_of_list : Trees → List Tree
items_of_list no_trees = []
items_of_list (more_trees t ts) = t ∷ items_of_list ts

trees_again : (ts : Trees) → trees_of (items_of_list ts) ≡ ts
trees_again no_trees = refl
trees_again (more_trees t ts) = ap (more_trees t) (trees_again ts)

only_list : (Is : Data → Tree → Type 0) (ts : Trees)
    → Only (AllZip Is (tree_values ts)) (items_of_list ts)
    → Only (IsListOf Is (values_data (tree_values ts))) (any.list ts)
only_list Is ts each =
    let in_list = only_in Is (tree_values ts) (items_of_list ts) each in (
      (items_of_list ts, ap any.list (sym (trees_again ts)), in_list.0),
      λ t k. k.1 ∙ ap (λ us. any.list (trees_of us)) (in_list.1 k.0 k.2) ∙ ap any.list (trees_again ts),
    )

-- ---- maps
pub not_null : (t : Tree) → unless_null (tree_value t) ≡ Some (tree_value t)
not_null (any.integer z) = refl
not_null (any.text s) = refl
not_null (any.boolean b) = refl
not_null (any.bytes bs) = refl
not_null (any.list ts) = refl
not_null (any.map es) = refl

pub only_pair : (Is : Data → Tree → Type 0) (k : List ℕ) (t : Tree) → Only (Is (tree_value t)) t
    → Only (IsPairOf Is (pair k (tree_value t))) (k, t)
only_pair Is k t one =
    let value = only_there (member_of (codes "value") (pair k (tree_value t))) (tree_value t)
    (λ u. u ≡ any.text (codes "")) Is t (not_null t) one in (
      record { is_object = refl; key = refl; value = value.0 },
      λ p h.
          let key : p.0 ≡ k = some_same _ _ (sym h.key) in
          let same : p.1 ≡ t = value.1 p.1 h.value in
          λ i. (key i, same i),
    )

only_map : (Is : Data → Tree → Type 0) (es : Entries) → Rises es
    → Only (AllZip (IsPairOf Is) (entry_values es)) (pairs_of es)
    → Only (IsMapBy Is (values_data (entry_values es))) (any.map es)
only_map Is es rises each =
    let in_list = only_in (IsPairOf Is) (entry_values es) (pairs_of es) each in
    let is = is_map es rises in (
      (pairs_of es, is, in_list.0),
      λ t k. same_map (pairs_of es) (pairs_of es) t (any.map es)
          (subst (λ ps. any.IsMapOf ps t) (in_list.1 k.0 k.2) k.1) is (λ _. refl),
    )

-- ---- cutting
above_none : (n : ℕ) (t : Tree) → (if suc n == 0 then any.text (codes "..") else t) ≡ t
above_none n t =
    ap (λ (b : Bool). if b then any.text (codes "..") else t) (ne_eqb (suc n) 0 (λ e. omega (arith, e)))

pub cut_list : (n : ℕ) (ts : Trees) → cut (suc n) (any.list ts) ≡ any.list (cut_trees n ts)
cut_list n ts =
    let e : suc n - 1 ≡ n = omega arith in
    above_none n (any.list (cut_trees (suc n - 1) ts)) ∙ ap (λ m. any.list (cut_trees m ts)) e

pub cut_map : (n : ℕ) (es : Entries) → cut (suc n) (any.map es) ≡ any.map (cut_entries n es)
cut_map n es =
    let e : suc n - 1 ≡ n = omega arith in
    above_none n (any.map (cut_entries (suc n - 1) es)) ∙ ap (λ m. any.map (cut_entries m es)) e

same_keys : (n : ℕ) (es : Entries) → keys_of_entries (cut_entries n es) ≡ keys_of_entries es
same_keys n no_entries = refl
same_keys n (more_entries k t es) = ap (λ ks. k ∷ ks) (same_keys n es)

-- ---- trees
abbrev ReadsAs : ℕ → Tree → Type 0
ReadsAs n t = Only (IsTree n (tree_value t)) t

read_list : (n : ℕ) (ts : Trees) → Only (AllZip (IsTree n) (tree_values ts)) (items_of_list ts)
    → ReadsAs (suc n) (any.list ts)
read_list n ts each =
    let one = only_list (IsTree n) ts each in ((refl, (refl, one.0)), λ t k. one.1 t k.1.1)

read_map : (n : ℕ) (es : Entries) → Rises es
    → Only (AllZip (IsPair n) (entry_values es)) (pairs_of es) → ReadsAs (suc n) (any.map es)
read_map n es rises each =
    let one = only_map (IsTree n) es rises each in ((refl, (refl, one.0)), λ t k. one.1 t k.1.1)

read_text : (n : ℕ) (s : List ℕ) → ReadsAs n (any.text s)
read_text n s = ((refl, (s, refl, refl)), λ t k. k.1.1 ∙ ap any.text (some_same _ _ (sym k.1.2)))

mutual
  -- m levels are read, and at most as many were written
  pub only_tree : (m n : ℕ) (t : Tree) → n ≤ m → IsHeldTree t
      → Only (IsTree m (tree_value (cut n t))) (cut n t)
  only_tree m n (any.integer z) e h =
      let one = integer_is z h in
      ((refl, (z, refl, one.0)), λ t k. k.1.1 ∙ ap any.integer (one.1 k.1.0 k.1.2))
  only_tree m n (any.text s) e h = read_text m s
  only_tree m n (any.boolean b) e h =
      ((refl, (b, refl, refl)), λ t k. k.1.1 ∙ ap any.boolean (some_same _ _ (sym k.1.2)))
  only_tree m n (any.bytes bs) e h =
      let one = only_bytes bs h in ((refl, one.0), λ t k. one.1 t k.1)
  only_tree m zero (any.list ts) e h = read_text m (codes "..")
  only_tree zero (suc n) (any.list ts) e h = absurd (omega (arith, e))
  only_tree (suc m) (suc n) (any.list ts) e h =
      subst (ReadsAs (suc m)) (sym (cut_list n ts))
      (read_list m (cut_trees n ts) (only_trees m n ts (omega (arith, e)) h))
  only_tree m zero (any.map es) e h = read_text m (codes "..")
  only_tree zero (suc n) (any.map es) e h = absurd (omega (arith, e))
  only_tree (suc m) (suc n) (any.map es) e h =
      subst (ReadsAs (suc m)) (sym (cut_map n es))
      (read_map m (cut_entries n es) (subst (IsStrictlySortedBy by_bytes) (sym (same_keys n es)) h.0)
      (only_entries m n es (omega (arith, e)) h.1))

  only_trees : (m n : ℕ) (ts : Trees) → n ≤ m → AreHeldTrees ts
      → Only (AllZip (IsTree m) (tree_values (cut_trees n ts))) (items_of_list (cut_trees n ts))
  only_trees m n no_trees e h = no_more (IsTree m)
  only_trees m n (more_trees t ts) e h =
      let us = cut_trees n ts in
      one_more (IsTree m) (tree_value (cut n t)) (cut n t) (tree_values us) (items_of_list us)
      (only_tree m n t e h.0) (only_trees m n ts e h.1)

  only_entries : (m n : ℕ) (es : Entries) → n ≤ m → HaveHeldTrees es
      → Only (AllZip (IsPair m) (entry_values (cut_entries n es))) (pairs_of (cut_entries n es))
  only_entries m n no_entries e h = no_more (IsPair m)
  only_entries m n (more_entries k t es) e h =
      let fs = cut_entries n es in
      one_more (IsPair m) (pair k (tree_value (cut n t))) (k, cut n t) (entry_values fs) (pairs_of fs)
      (only_pair (IsTree m) k (cut n t) (only_tree m n t e h.0)) (only_entries m n es e h.1)
