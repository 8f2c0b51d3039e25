-- The value of a name in a list of headers, before and after a call.
use Rattle.std.proofs.Common.{◌≡◌, ℕ, zero, suc, ◌<◌, ◌≤◌, List, [], ◌∷◌, ◌++◌, Bool, true, false, cond, ◌||◌, Option, None, Some, refl, sym, ap, ◌∙◌, inl, inr, arith, string_bytes, map, is_some, length, get_or, set, Bor}
use Rattle.std.specs.Cmp.Lexicographic.{slice_cmp, texts_ties, nat_list_eq_equiv, on_texts}
use Rattle.std.specs.List.{list_any, position, position_or_len, dedup, dedup_from}
use Rattle.std.specs.List.Sorted.{IsSorted, IsPermutation}
use Rattle.std.specs.Map.{lookup}
use Rattle.std.specs.Option.{option_map, option_or}
use Rattle.std.specs.Ordering.{nat_cmp}
use Rattle.std.specs.Str.{bytes_eq, str_to_ascii_lowercase}
use Rattle.std.specs.declared.string.String.{String}
use Rattle.std.proofs.lemmas.Bool.{cases_Bool, cases_lt}
use Rattle.std.proofs.lemmas.List.Kept.{IsStrictlySortedBy-dedup}
use Rattle.std.proofs.lemmas.List.Quantifiers.{position-Some}
use Rattle.std.proofs.lemmas.List.Sorted.{list_any-IsPermutation}
use Rattle.std.proofs.lemmas.Slice.Eq.{bytes_eq-Decides}
use Rattle.opentelemetry.specs.Carrier.{text_map, AreKeys, Sets}
use Rattle.opentelemetry.proofs.shared.Maps.{at-text_map}
use Rattle.opentelemetry.proofs.shared.Rising.{rising_map}
use Rattle.otel_base.proofs.shared.MappedLists.{list_any-map}

-- names with their values
abbrev PairsOf : Type 0 → Type 0
PairsOf A = List (String A × String A)

module _ {A : Type 0} where
  -- whether a pair has the name
  abbrev has_name : List ℕ → String A × String A → Bool
  has_name n pair = bytes_eq n (string_bytes pair.0)

  -- the value of the first pair of the name
  abbrev value_at : List ℕ → PairsOf A → Option (String A)
  value_at n es = lookup (λ k. bytes_eq n (string_bytes k)) es

  at_first : (n : List ℕ) (es : PairsOf A) (i : ℕ) (d : String A × String A) → i < length es
      → has_name n (get_or es i d) ≡ true → ((k : ℕ) → k < i → has_name n (get_or es k d) ≡ false)
      → value_at n es ≡ Some (get_or es i d).1
  at_first n [] i d within here before = absurd (omega arith)
  at_first n (e ∷ es) zero d within here before = rw here refl
  at_first n (e ∷ es) (suc i) d within here before =
      let other : has_name n e ≡ false = before 0 (omega arith) in
      rw other (at_first n es i d (omega arith) here (λ k h. before (suc k) (omega arith)))

  -- the value of the name after the pair at its first index gets another value
  replaced : (n q : List ℕ) (es : PairsOf A) (i : ℕ) (d : String A × String A) (v : String A) → i < length es
      → has_name n (get_or es i d) ≡ true → ((k : ℕ) → k < i → has_name n (get_or es k d) ≡ false)
      → value_at q (set es i ((get_or es i d).0, v)) ≡ cond (bytes_eq n q) (Some v) (value_at q es)
  replaced n q [] i d v within here before = absurd (omega arith)
  replaced n q (e ∷ es) zero d v within here before =
      let same : n ≡ string_bytes e.0 = (bytes_eq-Decides n (string_bytes e.0)).0 here in
      rw (same, nat_list_eq_equiv.symm (string_bytes e.0) q)
      (elim (bytes_eq q (string_bytes e.0)) as (λ b. cond b (Some v) (value_at q es) ≡ cond b (Some v) (cond b (Some e.1) (value_at q es))) [
        | true ↦ refl
        | false ↦ refl
      ])
  replaced n q (e ∷ es) (suc i) d v within here before =
      let other : has_name n e ≡ false = before 0 (omega arith) in
      let rest = replaced n q es i d v (omega arith) here (λ k h. before (suc k) (omega arith)) in
      elim (cases_Bool (bytes_eq q (string_bytes e.0))) [
        | inl at_q ↦
            let same : q ≡ string_bytes e.0 = (bytes_eq-Decides q (string_bytes e.0)).0 at_q in
            let apart : bytes_eq n q ≡ false = ap (bytes_eq n) same ∙ other in
            rw (at_q, apart) refl
        | inr off_q ↦ rw off_q rest
      ]

  none_before : (n : List ℕ) (es : PairsOf A) → length es ≤ position_or_len (has_name n) es → value_at n es ≡ None
  none_before n [] h = refl
  none_before n (e ∷ es) h = elim (cases_Bool (has_name n e)) [
    | inl here ↦ absurd (omega (arith, rw here at h))
    | inr other ↦ rw other (none_before n es (omega (arith, rw other at h)))
  ]

  -- if no index was found there is no value
  pub not_found : (n : List ℕ) (es : PairsOf A) → position (has_name n) es ≡ None → value_at n es ≡ None
  not_found n es h = elim (cases_lt (position_or_len (has_name n) es) (length es)) [
    | inl within ↦ absurd (grind (arith, h, within))
    | inr past ↦ none_before n es past
  ]

  -- if an index was found there is a value
  pub found : (n : List ℕ) (es : PairsOf A) (i : ℕ) (d : String A × String A) → position (has_name n) es ≡ Some i
      → value_at n es ≡ Some (get_or es i d).1
  found n es i d h =
      let first = position-Some (has_name n) es i d h in
      at_first n es i d first.0 first.1 first.2

  pushed : (n q : List ℕ) (es : PairsOf A) (name v : String A) → string_bytes name ≡ n → value_at n es ≡ None
      → value_at q (es ++ (name, v) ∷ []) ≡ cond (bytes_eq n q) (Some v) (value_at q es)
  pushed n q [] name v same none = rw (same, nat_list_eq_equiv.symm q n) refl
  pushed n q (e ∷ es) name v same none = elim (cases_Bool (has_name n e)) [
    | inl here ↦ absurd (grind (arith, rw here at none))
    | inr other ↦
        let rest = pushed n q es name v same (rw other at none) in
        elim (cases_Bool (bytes_eq q (string_bytes e.0))) [
          | inl at_q ↦
              let is : q ≡ string_bytes e.0 = (bytes_eq-Decides q (string_bytes e.0)).0 at_q in
              let apart : bytes_eq n q ≡ false = ap (bytes_eq n) is ∙ other in
              rw (at_q, apart) refl
          | inr off_q ↦ rw off_q rest
        ]
  ]

  sets_by : (old new : PairsOf A) (k n : List ℕ) (v : String A) → n ≡ str_to_ascii_lowercase k
      → ((q : List ℕ) → value_at q new ≡ cond (bytes_eq n q) (Some v) (value_at q old))
      → Sets (text_map old) ((k, string_bytes v) ∷ []) (text_map new)
  sets_by old new k n v lowered values = record {
    at_key = λ q.
        at-text_map new q ∙ ap (option_map string_bytes) (values q)
        ∙ rw (lowered, at-text_map old q)
        (elim (bytes_eq (str_to_ascii_lowercase k) q) as (λ b. option_map string_bytes (cond b (Some v) (value_at q old)) ≡ option_or (cond b (Some (string_bytes v)) None) (option_map string_bytes (value_at q old))) [
          | true ↦ refl
          | false ↦ refl
        ]);
  }

  -- the value at the first index of the name was set
  pub sets_found : (es : PairsOf A) (k n : List ℕ) (i : ℕ) (d : String A × String A) (v : String A)
      → n ≡ str_to_ascii_lowercase k → position (has_name n) es ≡ Some i
      → Sets (text_map es) ((k, string_bytes v) ∷ []) (text_map (set es i ((get_or es i d).0, v)))
  sets_found es k n i d v lowered h =
      let first = position-Some (has_name n) es i d h in
      sets_by es (set es i ((get_or es i d).0, v)) k n v lowered (λ q. replaced n q es i d v first.0 first.1 first.2)

  -- a pair of a new name was pushed
  pub sets_new : (es : PairsOf A) (k : List ℕ) (name v : String A)
      → string_bytes name ≡ str_to_ascii_lowercase k → position (has_name (string_bytes name)) es ≡ None
      → Sets (text_map es) ((k, string_bytes v) ∷ []) (text_map (es ++ (name, v) ∷ []))
  sets_new es k name v lowered h =
      sets_by es (es ++ (name, v) ∷ []) k (string_bytes name) v lowered
      (λ q. pushed (string_bytes name) q es name v refl (not_found (string_bytes name) es h))

  some_value : (q : List ℕ) (es : PairsOf A)
      → is_some (option_map string_bytes (value_at q es)) ≡ list_any (bytes_eq q) (map (λ e. string_bytes e.0) es)
  some_value q [] = refl
  some_value q (e ∷ es) = elim (cases_Bool (bytes_eq q (string_bytes e.0))) [
    | inl at_q ↦ rw at_q refl
    | inr off_q ↦ rw off_q (some_value q es)
  ]

or_twice : (a b : Bool) → a || b ≡ a || (a || b)
or_twice true b = refl
or_twice false b = refl

-- `dedup` doesn't change whether a test passes that is equal for items that `E` counts as equal
any-dedup_from : {X : Type 0} (p : X → Bool) (E : X → X → Bool) → ((x y : X) → E x y ≡ true → p x ≡ p y)
    → (k : X) (xs : List X) → list_any p (dedup_from E k xs) ≡ (p k || list_any p xs)
any-dedup_from p E alike k [] = refl
any-dedup_from p E alike k (x ∷ xs) = elim (cases_Bool (E x k)) [
  | inl same ↦ rw (same, alike x k same) (any-dedup_from p E alike k xs ∙ or_twice (p k) (list_any p xs))
  | inr other ↦ rw other (ap (λ b. p k || b) (any-dedup_from p E alike x xs))
]

any-dedup : {X : Type 0} (p : X → Bool) (E : X → X → Bool) → ((x y : X) → E x y ≡ true → p x ≡ p y)
    → (xs : List X) → list_any p (dedup E xs) ≡ list_any p xs
any-dedup p E alike [] = refl
any-dedup p E alike (x ∷ xs) = any-dedup_from p E alike x xs

-- the names, borrowed, sorted and each once, are the keys
pub keys_once : {A : Type 0} (es : List (String A × String A)) (xs ys zs : List (Bor (List ℕ)))
    → map (λ x. x.now) xs ≡ map (λ e. string_bytes e.0) es → IsPermutation xs ys
    → IsSorted (λ x y. slice_cmp nat_cmp x.now y.now) ys → zs ≡ dedup (λ x y. bytes_eq x.now y.now) ys
    → AreKeys (text_map es) (map (λ x. x.now) zs)
keys_once es xs ys zs names moved sorted once = record {
  rising = rw once (rising_map (λ x. x.now) (slice_cmp nat_cmp) (dedup (λ x y. bytes_eq x.now y.now) ys)
      (IsStrictlySortedBy-dedup (on_texts (λ x. x.now)) (λ x y. texts_ties x.now y.now) ys sorted));
  each = λ q.
      ap is_some (at-text_map es q) ∙ some_value q es ∙ ap (list_any (bytes_eq q)) (sym names)
      ∙ list_any-map (bytes_eq q) (λ x. x.now) xs ∙ list_any-IsPermutation (λ x. bytes_eq q x.now) xs ys moved
      ∙ sym (any-dedup (λ x. bytes_eq q x.now) (λ x y. bytes_eq x.now y.now) (λ x y h. ap (bytes_eq q) ((bytes_eq-Decides x.now y.now).0 h)) ys)
      ∙ sym (list_any-map (bytes_eq q) (λ x. x.now) (dedup (λ x y. bytes_eq x.now y.now) ys))
      ∙ ap (λ l. list_any (bytes_eq q) (map (λ x. x.now) l)) (sym once);
}
