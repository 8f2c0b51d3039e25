-- Lists of slots under the numbers of an index, and the finite map of their spans.
use Rattle.std.proofs.Common.{◌≡◌, ◌⊎◌, ℕ, zero, suc, ◌+◌, ◌<◌, List, [], ◌∷◌, ◌++◌, length, get_or, Option, Some, None, cond, is_some, refl, sym, ap, ◌∙◌, length-append, arith, inl, inr, get_or-set_same}
use Rattle.std.specs.Prelude.{slice_set, IsSome}
use Rattle.std.specs.Prelude as list
use Rattle.std.specs.Ordering.{nat_cmp, eq_by_cmp}
use Rattle.std.specs.Borrow.{MutBor}
use Rattle.std.specs.Option.{OnSome, option_copied_mut}
use Rattle.std.specs.Cmp.{nat_cmp_total}
use Rattle.std.specs.FinMap as map
use Rattle.std.proofs.Math.Seq.{get_or-append_seam}
use Rattle.std.proofs.lemmas.Bool.{cases_Bool, cases_lt, true≢false}
use Rattle.std.proofs.lemmas.List.{get_or_append_left, get_or_default, get_or-set_other, map-append, length-set}
use Rattle.otel_context.specs.Spans.{IsNumbered}
use Rattle.otel_context.specs.View.{map_of, spans_of, IsAscending, IsIndex}
use Rattle.otel_context.specs.SpanPlaces.{KeepsPlaces}
use Rattle.otel_context.specs.SpanSlots.{IsSpanOf, KeepsNumbers, Replaces}
use Rattle.otel_context.specs.declared.span.spans.Slot.{Slot}
use Rattle.otel_context.specs.declared.span.spans.places.Place.{Place}
use Rattle.otel_context.proofs.SpanPlaces.{told_apart, not_told_apart, get-map, absent_above, pushed}
use Rattle.otel_context.proofs.SpanPlaces as places
use Rattle.otel_context.proofs.shared.SpansLemmas.{same_by_cmp}

pub some≢none : {X : Type 0} (x : X) → Some x ≡ None → ⊥
some≢none x e = true≢false (ap is_some e)

number_of : Option ℕ → ℕ
number_of None = 0
number_of (Some k) = k

pub some-injective : (j k : ℕ) → Some j ≡ Some k → j ≡ k
unfolding number_of
some-injective j k e = ap number_of e

pub cases_option : (o : Option ℕ) → (o ≡ None) ⊎ ((k : ℕ) × (o ≡ Some k))
cases_option None = inl refl
cases_option (Some k) = inr (k, refl)

pub nat_cases : (k i : ℕ) → (k ≡ i) ⊎ (k ≡ i → ⊥)
nat_cases k i = elim (cases_lt k i) [
  | inl h ↦ inr (λ e. absurd (omega (arith, h, e)))
  | inr h ↦ elim (cases_lt i k) [
    | inl l ↦ inr (λ e. absurd (omega (arith, l, e)))
    | inr l ↦ inl (omega (arith, h, l))
  ]
]

module _ {S : Type 0} where
  pub OnSome-map : (r : Option (MutBor S)) {P Q : Type 0} → (P → Q) → OnSome r P → OnSome r Q
  OnSome-map (Some x) f p = f p
  OnSome-map None f p = tt

  abbrev rows : List (Slot S) → List (ℕ × S)
  rows ss = list.map (λ s. (s.number, s.span)) ss

  -- a number that no slot has finds nothing
  absent : (q : ℕ) (ss : List (Slot S)) → ((k : ℕ) (d : Slot S) → k < length ss → (get_or ss k d).number ≡ q → ⊥) → map.find nat_cmp q (rows ss) ≡ None
  absent q [] h = refl
  absent q (s ∷ ss) h =
      ap (λ b. cond b (Some s.span) (map.find nat_cmp q (rows ss))) (told_apart q s.number (λ e. h zero s (omega arith) (sym e)))
      ∙ absent q ss (λ k d l. h (suc k) d (omega (arith, l)))

  -- a number that one slot has finds its span
  found : (i : ℕ) (ss : List (Slot S)) (d : Slot S) → i < length ss
      → ((k : ℕ) → k < length ss → (get_or ss k d).number ≡ (get_or ss i d).number → k ≡ i)
      → map.find nat_cmp (get_or ss i d).number (rows ss) ≡ Some (get_or ss i d).span
  found i [] d l one = absurd (omega (arith, l))
  found zero (s ∷ ss) d l one = ap (λ b. cond b (Some s.span) (map.find nat_cmp s.number (rows ss))) (not_told_apart s.number)
  found (suc i) (s ∷ ss) d l one =
      let n = (get_or ss i d).number in
      ap (λ b. cond b (Some s.span) (map.find nat_cmp n (rows ss))) (told_apart n s.number (λ e. absurd (omega (arith, one zero (omega arith) (sym e)))))
      ∙ found i ss d (omega (arith, l)) (λ k m e. omega (arith, one (suc k) (omega (arith, m)) e))

  get-rows : (ss : List (Slot S)) (q : ℕ) → map.get (spans_of ss) q ≡ map.find nat_cmp q (rows ss)
  get-rows ss q = map.get-from_entries nat_cmp_total (rows ss) q

  -- the span of a number that has a slot
  pub get-at : (ss : List (Slot S)) (m : map.FinMap nat_cmp ℕ) → IsIndex ss m → (q k : ℕ) → map.get m q ≡ Some k → (d : Slot S) → map.get (spans_of ss) q ≡ Some (get_or ss k d).span
  get-at ss m x q k e d =
      let at = x.only q k e in
      get-rows ss q ∙ ap (λ n. map.find nat_cmp n (rows ss)) (sym (at.1 d))
      ∙ found k ss d at.0 (λ j l f. some-injective j k (sym (x.has j l d) ∙ ap (map.get m) f ∙ x.has k at.0 d))

  -- a number without a slot has no span
  pub get-none : (ss : List (Slot S)) (m : map.FinMap nat_cmp ℕ) → IsIndex ss m → (q : ℕ) → map.get m q ≡ None → map.get (spans_of ss) q ≡ None
  get-none ss m x q e = get-rows ss q ∙ absent q ss (λ k d l f. some≢none k (sym (x.has k l d) ∙ ap (map.get m) f ∙ e))

  pub same : (m n : map.FinMap nat_cmp S) → ((q : ℕ) → map.get m q ≡ map.get n q) → m ≡ n
  same = map.same_map nat_cmp_total map.nat_cmp-IsAntisymmetric

  -- one more slot, under a new number
  pub push-index : (ss : List (Slot S)) (m : map.FinMap nat_cmp ℕ) → IsIndex ss m → (w : Slot S) → map.get m w.number ≡ None → IsIndex (ss ++ w ∷ []) (map.insert m w.number (length ss))
  push-index ss m x w new =
      let n = w.number in
      let z = length ss in
      record {
        has = λ k l d. elim (cases_lt k z) [
          | inl h ↦
              let e = get_or_append_left ss (w ∷ []) d k h in
              let ne : (get_or ss k d).number ≡ n → ⊥ = λ f. some≢none k (sym (x.has k h d) ∙ ap (map.get m) f ∙ new) in
              ap (λ s. map.get (map.insert m n z) s.number) e ∙ map.get-insert nat_cmp_total m n z (get_or ss k d).number
              ∙ ap (λ b. cond b (Some z) (map.get m (get_or ss k d).number)) (told_apart (get_or ss k d).number n ne) ∙ x.has k h d
          | inr h ↦
              let at : z ≡ k = omega (arith, h, l, length-append ss (w ∷ [])) in
              let e : get_or (ss ++ w ∷ []) k d ≡ w = ap (λ j. get_or (ss ++ w ∷ []) j d) (sym at) ∙ get_or-append_seam ss w [] d in
              ap (λ s. map.get (map.insert m n z) s.number) e ∙ map.get-insert nat_cmp_total m n z n
              ∙ ap (λ b. cond b (Some z) (map.get m n)) (not_told_apart n) ∙ ap Some at
        ];
        only = λ q k e.
            let f = sym (map.get-insert nat_cmp_total m n z q) ∙ e in
            elim (cases_Bool (eq_by_cmp nat_cmp q n)) [
              | inl t ↦
                  let at : z ≡ k = some-injective z k (sym (ap (λ b. cond b (Some z) (map.get m q)) t) ∙ f) in (
                    omega (arith, at, length-append ss (w ∷ [])),
                    λ d. ap (λ j. (get_or (ss ++ w ∷ []) j d).number) (sym at) ∙ ap (λ s. s.number) (get_or-append_seam ss w [] d) ∙ sym (same_by_cmp q n t),
                  )
              | inr t ↦
                  let at = x.only q k (sym (ap (λ b. cond b (Some z) (map.get m q)) t) ∙ f) in (
                    omega (arith, at.0, length-append ss (w ∷ [])),
                    λ d. ap (λ s. s.number) (get_or_append_left ss (w ∷ []) d k at.0) ∙ at.1 d,
                  )
            ];
      }

  pub push-spans : (ss : List (Slot S)) (m : map.FinMap nat_cmp ℕ) → IsIndex ss m → (w : Slot S) → map.get m w.number ≡ None → spans_of (ss ++ w ∷ []) ≡ map.insert (spans_of ss) w.number w.span
  push-spans ss m x w new =
      ap (map.from_entries {R = nat_cmp}) (map-append (λ (s : Slot S). (s.number, s.span)) ss (w ∷ []))
      ∙ map.from_entries_push nat_cmp_total map.nat_cmp-IsAntisymmetric (rows ss) w.number w.span
      (sym (get-rows ss w.number) ∙ get-none ss m x w.number new)

  rebuilt : (w t : Slot S) (x : S) → w.number ≡ t.number → w.span ≡ x → w ≡ record t { span = x }
  rebuilt w t x n o = ap (λ m. record { span = w.span; number = m }) n ∙ ap (λ y. record t { span = y }) o

  -- another span in a slot
  pub same-index : (ss ts : List (Slot S)) (m : map.FinMap nat_cmp ℕ) → IsIndex ss m → KeepsNumbers ss ts → IsIndex ts m
  same-index ss ts m x keeps = record {
    has = λ k l d.
        let h : k < length ss = omega (arith, l, keeps.count) in
        ap (map.get m) (keeps.same k d h) ∙ x.has k h d;
    only = λ q k e.
        let at = x.only q k e in
        (omega (arith, at.0, keeps.count), λ d. keeps.same k d at.0 ∙ at.1 d);
  }

  pub replace-spans : (ss ts : List (Slot S)) (m : map.FinMap nat_cmp ℕ) → IsIndex ss m → KeepsNumbers ss ts → (q k : ℕ) → map.get m q ≡ Some k → (x : S) (d : Slot S) → Replaces ss (Some k) x ts
      → spans_of ts ≡ map.insert (spans_of ss) q x
  replace-spans ss ts m at keeps q k e x d r = same _ _ (λ p.
      let here = at.only q k e in
      let w : Slot S = record { span = x; number = (get_or ss k d).number } in
      let set : ts ≡ slice_set ss k w = r d in
      sym (map.get-insert nat_cmp_total (spans_of ss) q x p
      ∙ elim (cases_option (map.get m p)) [
        | inl none ↦
            let ne : p ≡ q → ⊥ = λ f. some≢none k (sym e ∙ ap (map.get m) (sym f) ∙ none) in
            ap (λ b. cond b (Some x) (map.get (spans_of ss) p)) (told_apart p q ne)
            ∙ get-none ss m at p none ∙ sym (get-none ts m (same-index ss ts m at keeps) p none)
        | inr some ↦
            let j = some.0 in
            let there = get-at ts m (same-index ss ts m at keeps) p j some.1 d in
            elim (cases_Bool (eq_by_cmp nat_cmp p q)) [
              | inl t ↦
                  let at-k : j ≡ k = some-injective j k (sym some.1 ∙ ap (map.get m) (same_by_cmp p q t) ∙ e) in
                  ap (λ b. cond b (Some x) (map.get (spans_of ss) p)) t
                  ∙ sym (there ∙ ap (λ i. Some (get_or ts i d).span) at-k ∙ ap (λ l. Some (get_or l k d).span) set
                  ∙ ap (λ s. Some s.span) (get_or-set_same ss k w d here.0))
              | inr t ↦
                  let ne : j ≡ k → ⊥ = λ f. true≢false (sym (not_told_apart p) ∙ ap (eq_by_cmp nat_cmp p) (sym ((at.only p j some.1).1 d) ∙ ap (λ i. (get_or ss i d).number) f ∙ here.1 d) ∙ t) in
                  ap (λ b. cond b (Some x) (map.get (spans_of ss) p)) t
                  ∙ get-at ss m at p j some.1 d
                  ∙ sym (there ∙ ap (λ l. Some (get_or l j d).span) set ∙ ap (λ s. Some s.span) (get_or-set_other ss k j w d ne))
            ]
      ]))

  pub keeps-set : (i : ℕ) (ss : List (Slot S)) (s w : Slot S) → i < length ss → s ≡ get_or ss i s → w.number ≡ s.number → KeepsNumbers ss (slice_set ss i w)
  keeps-set i ss s w l e n = record {
    count = length-set ss i w;
    same = λ k d h. elim (nat_cases k i) [
      | inl f ↦
          ap (λ j. (get_or (slice_set ss i w) j d).number) f ∙ ap (λ t. t.number) (get_or-set_same ss i w d l) ∙ n
          ∙ ap (λ t. t.number) (e ∙ get_or_default ss i s d l) ∙ ap (λ j. (get_or ss j d).number) (sym f)
      | inr f ↦ ap (λ t. t.number) (get_or-set_other ss i k w d f)
    ];
  }

  pub replaces-set : (i : ℕ) (ss : List (Slot S)) (s w : Slot S) (x : S) → i < length ss → s ≡ get_or ss i s → w.number ≡ s.number → w.span ≡ x → Replaces ss (Some i) x (slice_set ss i w)
  replaces-set i ss s w x l e n o = λ d.
      ap (slice_set ss i) (rebuilt w (get_or ss i d) x (n ∙ ap (λ t. t.number) (e ∙ get_or_default ss i s d l)) o)

  -- the first slot
  pub first : (ss : List (Slot S)) {j : ℕ} → j < length ss → Slot S
  first [] l = absurd (omega (arith, l))
  first (s ∷ ss) l = s

  -- each span has a number below the next one
  pub fresh : (next : ℕ) (ss : List (Slot S)) (ps : List Place) → IsAscending 0 ps next → IsIndex ss (map_of ps) → map.get (spans_of ss) next ≡ None
  fresh next ss ps a x = get-none ss (map_of ps) x next (places.fresh next ps a)

  pub numbered : (next : ℕ) (ss : List (Slot S)) (ps : List Place) → IsAscending 0 ps next → IsIndex ss (map_of ps) → IsNumbered (record { spans = spans_of ss; next_number = next })
  numbered next ss ps a x = λ q some. elim (cases_lt q next) [
    | inl h ↦ h
    | inr h ↦ absurd (true≢false (sym some ∙ ap is_some (get-none ss (map_of ps) x q (get-map ps q ∙ absent_above q 0 next ps a h))))
  ]

  -- one more span, under the next number
  pushed-index : (next : ℕ) (ss : List (Slot S)) (ps : List Place) → IsAscending 0 ps next → IsIndex ss (map_of ps) → (s : S)
      → IsIndex (ss ++ record { span = s; number = next } ∷ []) (map_of (ps ++ record { number = next; slot = Some (length ss) } ∷ []))
  pushed-index next ss ps a x s = rw (pushed next (length ss) ps a) (push-index ss (map_of ps) x (record { span = s; number = next }) (places.fresh next ps a))

  pub pushed-spans : (next : ℕ) (ss : List (Slot S)) (ps : List Place) → IsAscending 0 ps next → IsIndex ss (map_of ps) → (s : S)
      → spans_of (ss ++ record { span = s; number = next } ∷ []) ≡ map.insert (spans_of ss) next s
  pushed-spans next ss ps a x s = push-spans ss (map_of ps) x (record { span = s; number = next }) (places.fresh next ps a)

  -- as many spans as slots
  count-rows : (ss : List (Slot S)) → ((i j : ℕ) (d e : Slot S) → i < length ss → j < length ss → (get_or ss i d).number ≡ (get_or ss j e).number → i ≡ j) → map.len (spans_of ss) ≡ length ss
  count-rows [] one = map.len-empty nat_cmp S
  count-rows (s ∷ ss) one =
      let m = spans_of ss in
      map.len-insert nat_cmp_total m s.number s.span
      ∙ ap (λ o. cond (is_some o) (map.len m) (map.len m + 1))
      (get-rows ss s.number ∙ absent s.number ss (λ k d l e. absurd (omega (arith, one 0 (suc k) d d (omega arith) (omega (arith, l)) (sym e)))))
      ∙ ap (λ k. k + 1) (count-rows ss (λ i j d e l h f. omega (arith, one (suc i) (suc j) d e (omega (arith, l)) (omega (arith, h)) f))) ∙ omega arith

  pub len-spans : (ss : List (Slot S)) (m : map.FinMap nat_cmp ℕ) → IsIndex ss m → map.len (spans_of ss) ≡ length ss
  len-spans ss m x = count-rows ss (λ i j d e l h f. some-injective i j (sym (x.has i l d) ∙ ap (map.get m) f ∙ x.has j h e))

  pub pushed-both : (next n : ℕ) (ss ts : List (Slot S)) (ps rs : List Place) → IsAscending 0 ps next → IsIndex ss (map_of ps) → (s : S)
      → ts ≡ ss ++ record { span = s; number = next } ∷ [] → rs ≡ ps ++ record { number = next; slot = Some n } ∷ [] → n ≡ length ss
      → IsAscending 0 rs (next + 1) × IsIndex ts (map_of rs)
  pushed-both next n ss ts ps rs a x s e f l =
      rw (e, f, l) (places.push-ascends 0 next (Some (length ss)) ps a, pushed-index next ss ps a x s)

  -- the span that is lent under a number
  pub value-of : (ss : List (Slot S)) (m : map.FinMap nat_cmp ℕ) → IsIndex ss m → (q : ℕ) (o : Option ℕ) → map.get m q ≡ o → (out : Option S) → IsSpanOf ss o out → out ≡ map.get (spans_of ss) q
  value-of ss m x q None e out v = v ∙ sym (get-none ss m x q e)
  value-of ss m x q (Some k) e out v =
      let d = first ss (x.only q k e).0 in
      v d ∙ sym (get-at ss m x q k e d)

  vacuous : (P : Type 0) (lent : Option (MutBor S)) → option_copied_mut lent ≡ None → OnSome lent P
  vacuous P None e = tt
  vacuous P (Some x) e = absurd (true≢false (ap is_some e))

  pub replaced-lent : (ss ts : List (Slot S)) (m : map.FinMap nat_cmp ℕ) → IsIndex ss m → (q : ℕ) (o : Option ℕ) → map.get m q ≡ o → (lent : Option (MutBor S)) (y : S) → IsSpanOf ss o (option_copied_mut lent)
      → KeepsNumbers ss ts → OnSome lent (Replaces ss o y ts) → OnSome lent (spans_of ts ≡ map.insert (spans_of ss) q y)
  replaced-lent ss ts m x q None e lent y v keeps r = vacuous _ lent v
  replaced-lent ss ts m x q (Some k) e lent y v keeps r =
      OnSome-map lent (replace-spans ss ts m x keeps q k e y (first ss (x.only q k e).0)) r

  pub nothing-indexed : IsIndex {S = S} [] (map_of [])
  nothing-indexed = record {
    has = λ k l d. absurd (omega (arith, l));
    only = λ q k e. absurd (some≢none k (sym e ∙ get-map [] q));
  }

  -- places that say the same
  pub kept : (next : ℕ) (ss : List (Slot S)) (ps qs : List Place) → IsAscending 0 ps next → IsIndex ss (map_of ps) → KeepsPlaces ps qs → IsAscending 0 qs next × IsIndex ss (map_of qs)
  kept next ss ps qs a x keeps = (keeps.ascends next a, rw keeps.same x)
