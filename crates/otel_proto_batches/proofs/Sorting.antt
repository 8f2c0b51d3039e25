-- One more item changes only the group of its scope.
use Rattle.std.proofs.Common.{◌≡◌, ℕ, ◌+◌, ◌<◌, List, [], ◌∷◌, ◌++◌, length, take, get_or, map, filter, Bool, true, false, cond, if◌then◌else◌, ◌||◌, refl, sym, ap, ◌∙◌, true≢false}
use Rattle.std.proofs.lemmas.List.{append-nil, map-append, take_more}
use Rattle.std.proofs.lemmas.List.Folds.{list_any-append}
use Rattle.std.proofs.lemmas.List.Elements.{filter-append}
use Rattle.std.specs.List.{list_any}
use Rattle.std.specs.Prelude.{⊤}
use Rattle.otel_base.specs.InstrumentationScope.{Scope, eq}
use Rattle.otel_base.specs.InstrumentationScopeLaws.{eq-IsEquivalence}
use Rattle.otel_proto_batches.specs.Groups.{is_of, items_of, first_scopes}
use Rattle.otel_proto_batches.specs.Sorted.{Sorted, put_in_group, group_of, sort}
use Rattle.otel_proto_batches.proofs.Scopes.{first_scopes-last}

-- ---- truth values
neither-first : (a b : Bool) → (a || b) ≡ false → a ≡ false
neither-first true b e = e
neither-first false b e = refl

neither-second : (a b : Bool) → (a || b) ≡ false → b ≡ false
neither-second true b e = absurd (true≢false e)
neither-second false b e = e

or-true : (a : Bool) → (a || true) ≡ true
or-true true = refl
or-true false = refl

-- ---- scopes that are equal to none of a list
abbrev NotAmong : Scope → List Scope → Type 0
NotAmong s [] = ⊤
NotAmong s (t ∷ ts) = (eq s t ≡ false) × NotAmong s ts

abbrev Apart : List Scope → Type 0
Apart [] = ⊤
Apart (s ∷ ss) = NotAmong s ss × Apart ss

not_among-same : (s t : Scope) (us : List Scope) → eq s t ≡ true → NotAmong t us → NotAmong s us
not_among-same s t [] e n = tt
not_among-same s t (u ∷ us) e n = (eq-IsEquivalence.congr s t u e ∙ n.0, not_among-same s t us e n.1)

module _ {R : Type 0} (scope_of : R → Scope) where
  -- whether an item belongs to the scope
  abbrev has : List R → Scope → Bool
  has rs s = list_any (is_of scope_of s) rs

  has-same : (s t : Scope) (rs : List R) → eq s t ≡ true → has rs s ≡ has rs t
  has-same s t [] e = refl
  has-same s t (r ∷ rs) e =
      let same : eq (scope_of r) s ≡ eq (scope_of r) t =
      eq-IsEquivalence.symm (scope_of r) s ∙ eq-IsEquivalence.congr s t (scope_of r) e ∙ eq-IsEquivalence.symm t (scope_of r) in
      ap (λ b. b || has rs s) same ∙ ap (λ b. eq (scope_of r) t || b) (has-same s t rs e)

  has-append : (rs qs : List R) (s : Scope) → has (rs ++ qs) s ≡ (has rs s || has qs s)
  has-append rs qs s = list_any-append (is_of scope_of s) rs qs

  -- none of the scopes has an item among these
  abbrev AllNew : List R → List Scope → Type 0
  AllNew rs [] = ⊤
  AllNew rs (s ∷ ss) = (has rs s ≡ false) × AllNew rs ss

  all_new-fewer : (rs qs : List R) (ss : List Scope) → AllNew (rs ++ qs) ss → AllNew rs ss
  all_new-fewer rs qs [] n = tt
  all_new-fewer rs qs (s ∷ ss) n =
      (neither-first (has rs s) (has qs s) (sym (has-append rs qs s) ∙ n.0), all_new-fewer rs qs ss n.1)

  all_new : (rs xs : List R) → AllNew rs (first_scopes scope_of rs xs)
  all_new rs [] = tt
  all_new rs (x ∷ xs) =
      step (has rs (scope_of x)) refl (all_new-fewer rs (x ∷ []) (first_scopes scope_of (rs ++ x ∷ []) xs) (all_new (rs ++ x ∷ []) xs))
    where
      step : (b : Bool) → has rs (scope_of x) ≡ b → AllNew rs (first_scopes scope_of (rs ++ x ∷ []) xs) → AllNew rs ((if b then [] else scope_of x ∷ []) ++ first_scopes scope_of (rs ++ x ∷ []) xs)
      step true e rest = rest
      step false e rest = (e, rest)

  new-not_among : (rs : List R) (x : R) (ss : List Scope) → AllNew (rs ++ x ∷ []) ss → NotAmong (scope_of x) ss
  new-not_among rs x [] n = tt
  new-not_among rs x (s ∷ ss) n = (
    neither-first (eq (scope_of x) s) false (neither-second (has rs s) (has (x ∷ []) s) (sym (has-append rs (x ∷ []) s) ∙ n.0)),
    new-not_among rs x ss n.1,
  )

  apart : (rs xs : List R) → Apart (first_scopes scope_of rs xs)
  apart rs [] = tt
  apart rs (x ∷ xs) = step (has rs (scope_of x)) (apart (rs ++ x ∷ []) xs)
    where
      step : (b : Bool) → Apart (first_scopes scope_of (rs ++ x ∷ []) xs) → Apart ((if b then [] else scope_of x ∷ []) ++ first_scopes scope_of (rs ++ x ∷ []) xs)
      step true rest = rest
      step false rest = (new-not_among rs x (first_scopes scope_of (rs ++ x ∷ []) xs) (all_new (rs ++ x ∷ []) xs), rest)

  -- a scope without items isn't among the scopes
  absent : (s : Scope) (rs xs : List R) → has xs s ≡ false → NotAmong s (first_scopes scope_of rs xs)
  absent s rs [] e = tt
  absent s rs (x ∷ xs) e = step (has rs (scope_of x)) (absent s (rs ++ x ∷ []) xs (neither-second (eq (scope_of x) s) (has xs s) e))
    where
      step : (b : Bool) → NotAmong s (first_scopes scope_of (rs ++ x ∷ []) xs) → NotAmong s ((if b then [] else scope_of x ∷ []) ++ first_scopes scope_of (rs ++ x ∷ []) xs)
      step true rest = rest
      step false rest = (eq-IsEquivalence.symm s (scope_of x) ∙ neither-first (eq (scope_of x) s) (has xs s) e, rest)

  -- a scope with items is among the scopes, unless it has earlier items
  present : (s : Scope) (rs xs : List R) → has rs s ≡ false → has xs s ≡ true → list_any (eq s) (first_scopes scope_of rs xs) ≡ true
  present s rs [] none some = absurd (true≢false (sym some))
  present s rs (x ∷ xs) none some = by (eq (scope_of x) s) refl some (present s (rs ++ x ∷ []) xs)
    where
      step : (b : Bool) → list_any (eq s) (first_scopes scope_of (rs ++ x ∷ []) xs) ≡ true → list_any (eq s) ((if b then [] else scope_of x ∷ []) ++ first_scopes scope_of (rs ++ x ∷ []) xs) ≡ true
      step true e = e
      step false e = ap (λ b. eq s (scope_of x) || b) e ∙ or-true (eq s (scope_of x))

      by : (c : Bool) → eq (scope_of x) s ≡ c → (c || has xs s) ≡ true
          → (has (rs ++ x ∷ []) s ≡ false → has xs s ≡ true → list_any (eq s) (first_scopes scope_of (rs ++ x ∷ []) xs) ≡ true)
          → list_any (eq s) (first_scopes scope_of rs (x ∷ xs)) ≡ true
      by true is h later =
          ap (λ b. list_any (eq s) ((if b then [] else scope_of x ∷ []) ++ first_scopes scope_of (rs ++ x ∷ []) xs)) (has-same (scope_of x) s rs is ∙ none)
          ∙ ap (λ b. b || list_any (eq s) (first_scopes scope_of (rs ++ x ∷ []) xs)) (eq-IsEquivalence.symm s (scope_of x) ∙ is)
      by false is h later =
          step (has rs (scope_of x))
          (later
          (has-append rs (x ∷ []) s ∙ ap (λ b. b || (eq (scope_of x) s || false)) none ∙ ap (λ b. b || false) is) h)

  filter_none : (s : Scope) (xs : List R) → has xs s ≡ false → filter (is_of scope_of s) xs ≡ []
  filter_none s [] e = refl
  filter_none s (x ∷ xs) e =
      ap (λ b. cond b (x ∷ filter (is_of scope_of s) xs) (filter (is_of scope_of s) xs)) (neither-first (eq (scope_of x) s) (has xs s) e)
      ∙ filter_none s xs (neither-second (eq (scope_of x) s) (has xs s) e)

  items-last : (xs : List R) (r : R) (t : Scope) (b : Bool) → eq (scope_of r) t ≡ b → items_of scope_of (xs ++ r ∷ []) t ≡ items_of scope_of xs t ++ cond b (r ∷ []) []
  items-last xs r t b e =
      filter-append (is_of scope_of t) xs (r ∷ []) ∙ ap (λ c. items_of scope_of xs t ++ cond c (r ∷ []) []) e

  group-kept : (xs : List R) (r : R) (t : Scope) → eq (scope_of r) t ≡ false → group_of scope_of xs t ≡ group_of scope_of (xs ++ r ∷ []) t
  group-kept xs r t e = ap (λ vs. (t, vs)) (sym (items-last xs r t false e ∙ append-nil (items_of scope_of xs t)))

  groups-kept : (xs : List R) (r : R) (ts : List Scope) → NotAmong (scope_of r) ts → map (group_of scope_of xs) ts ≡ map (group_of scope_of (xs ++ r ∷ [])) ts
  groups-kept xs r [] n = refl
  groups-kept xs r (t ∷ ts) n =
      ap (λ g. g ∷ map (group_of scope_of xs) ts) (group-kept xs r t n.0)
      ∙ ap (λ gs. group_of scope_of (xs ++ r ∷ []) t ∷ gs) (groups-kept xs r ts n.1)

  put_in_group-present : (xs : List R) (r : R) (ts : List Scope) → Apart ts → list_any (eq (scope_of r)) ts ≡ true
      → put_in_group (map (group_of scope_of xs) ts) (scope_of r) r ≡ map (group_of scope_of (xs ++ r ∷ [])) ts
  put_in_group-present xs r [] a e = absurd (true≢false (sym e))
  put_in_group-present xs r (t ∷ ts) a e = by (eq (scope_of r) t) refl e (put_in_group-present xs r ts a.1)
    where
      by : (b : Bool) → eq (scope_of r) t ≡ b → (b || list_any (eq (scope_of r)) ts) ≡ true
          → (list_any (eq (scope_of r)) ts ≡ true → put_in_group (map (group_of scope_of xs) ts) (scope_of r) r ≡ map (group_of scope_of (xs ++ r ∷ [])) ts)
          → (if b then (t, items_of scope_of xs t ++ r ∷ []) ∷ map (group_of scope_of xs) ts else group_of scope_of xs t ∷ put_in_group (map (group_of scope_of xs) ts) (scope_of r) r)
          ≡ group_of scope_of (xs ++ r ∷ []) t ∷ map (group_of scope_of (xs ++ r ∷ [])) ts
      by true is h later =
          ap (λ vs. (t, vs) ∷ map (group_of scope_of xs) ts) (sym (items-last xs r t true is))
          ∙ ap (λ gs. group_of scope_of (xs ++ r ∷ []) t ∷ gs) (groups-kept xs r ts (not_among-same (scope_of r) t ts is a.0))
      by false is h more =
          ap (λ g. g ∷ put_in_group (map (group_of scope_of xs) ts) (scope_of r) r) (group-kept xs r t is)
          ∙ ap (λ gs. group_of scope_of (xs ++ r ∷ []) t ∷ gs) (more h)

  put_in_group-absent : (xs : List R) (r : R) (ts : List Scope) → NotAmong (scope_of r) ts
      → put_in_group (map (group_of scope_of xs) ts) (scope_of r) r ≡ map (group_of scope_of (xs ++ r ∷ [])) ts ++ (scope_of r, r ∷ []) ∷ []
  put_in_group-absent xs r [] n = refl
  put_in_group-absent xs r (t ∷ ts) n =
      ap (λ b. if b then (t, items_of scope_of xs t ++ r ∷ []) ∷ map (group_of scope_of xs) ts else group_of scope_of xs t ∷ put_in_group (map (group_of scope_of xs) ts) (scope_of r) r) n.0
      ∙ ap (λ g. g ∷ put_in_group (map (group_of scope_of xs) ts) (scope_of r) r) (group-kept xs r t n.0)
      ∙ ap (λ gs. group_of scope_of (xs ++ r ∷ []) t ∷ gs) (put_in_group-absent xs r ts n.1)

  -- one more item goes into the group of its scope
  sort-last : (xs : List R) (r : R) → put_in_group (sort scope_of xs) (scope_of r) r ≡ sort scope_of (xs ++ r ∷ [])
  sort-last xs r =
      by (has xs (scope_of r)) refl
      ∙ ap (map (group_of scope_of (xs ++ r ∷ []))) (sym (first_scopes-last scope_of [] xs r))
    where
      by : (b : Bool) → has xs (scope_of r) ≡ b
          → put_in_group (sort scope_of xs) (scope_of r) r
          ≡ map (group_of scope_of (xs ++ r ∷ [])) (first_scopes scope_of [] xs ++ (if has xs (scope_of r) then [] else scope_of r ∷ []))
      by true e =
          put_in_group-present xs r (first_scopes scope_of [] xs) (apart [] xs) (present (scope_of r) [] xs refl e)
          ∙ ap (map (group_of scope_of (xs ++ r ∷ [])))
          (sym (append-nil (first_scopes scope_of [] xs)) ∙ ap (λ b. first_scopes scope_of [] xs ++ (if b then [] else scope_of r ∷ [])) (sym e))
      by false e =
          put_in_group-absent xs r (first_scopes scope_of [] xs) (absent (scope_of r) [] xs e)
          ∙ ap (λ vs. map (group_of scope_of (xs ++ r ∷ [])) (first_scopes scope_of [] xs) ++ (scope_of r, vs) ∷ [])
          (sym (items-last xs r (scope_of r) true (eq-IsEquivalence.refl (scope_of r)) ∙ ap (λ rs. rs ++ r ∷ []) (filter_none (scope_of r) xs e)))
          ∙ sym (map-append (group_of scope_of (xs ++ r ∷ [])) (first_scopes scope_of [] xs) (scope_of r ∷ []))
          ∙ ap (λ b. map (group_of scope_of (xs ++ r ∷ [])) (first_scopes scope_of [] xs ++ (if b then [] else scope_of r ∷ []))) (sym e)

  -- the groups of the first items, with one more item
  pub sort-turn : (groups : List (Sorted R)) (xs : List R) (i : ℕ) (r : R) → groups ≡ sort scope_of (take i xs) → i < length xs → r ≡ get_or xs i r
      → put_in_group groups (scope_of r) r ≡ sort scope_of (take (i + 1) xs)
  sort-turn groups xs i r is below at =
      ap (λ gs. put_in_group gs (scope_of r) r) is
      ∙ sort-last (take i xs) r
      ∙ ap (sort scope_of) (ap (λ x. take i xs ++ x ∷ []) at ∙ sym (take_more xs i r below))
