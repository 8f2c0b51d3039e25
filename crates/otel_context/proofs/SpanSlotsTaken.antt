-- Lists of slots under the numbers of an index, after a span was taken.
use Rattle.std.proofs.Common.{◌≡◌, ℕ, suc, ◌+◌, ◌<◌, List, [], ◌∷◌, ◌++◌, length, get_or, Option, Some, None, cond, is_some, sym, ap, subst, ◌∙◌, length-append, arith, inl, inr}
use Rattle.std.specs.Prelude.{IsSome}
use Rattle.std.specs.List.{SwappedAt}
use Rattle.std.specs.Ordering.{nat_cmp}
use Rattle.std.specs.Option.{option_to_list}
use Rattle.std.specs.Cmp.{nat_cmp_total}
use Rattle.std.specs.FinMap as map
use Rattle.std.proofs.Math.Seq.{get_or-append_seam}
use Rattle.std.proofs.lemmas.Bool.{cases_lt, true≢false}
use Rattle.std.proofs.lemmas.List.{get_or_append_left, get_or_default}
use Rattle.otel_context.specs.View.{map_of, spans_of, IsAscending, IsIndex}
use Rattle.otel_context.specs.SpanPlaces.{MovesTo, TakesOut}
use Rattle.otel_context.specs.SpanSlots.{BringsLast}
use Rattle.otel_context.specs.declared.span.spans.Slot.{Slot}
use Rattle.otel_context.specs.declared.span.spans.places.Place.{Place}
use Rattle.otel_context.proofs.SpanPlaces.{told_apart, not_told_apart}
use Rattle.otel_context.proofs.SpanSlots.{cases_option, first, get-at, get-none, nat_cases, same, some-injective, some≢none}

-- reads of a map after a change
module _ {X : Type 0} where
  inserted-same : (m : map.FinMap nat_cmp X) (n : ℕ) (v : X) → map.get (map.insert m n v) n ≡ Some v
  inserted-same m n v = map.get-insert nat_cmp_total m n v n ∙ ap (λ b. cond b (Some v) (map.get m n)) (not_told_apart n)

  inserted-other : (m : map.FinMap nat_cmp X) (n : ℕ) (v : X) (r : ℕ) → (r ≡ n → ⊥) → map.get (map.insert m n v) r ≡ map.get m r
  inserted-other m n v r ne = map.get-insert nat_cmp_total m n v r ∙ ap (λ b. cond b (Some v) (map.get m r)) (told_apart r n ne)

  removed-same : (m : map.FinMap nat_cmp X) (n : ℕ) → map.get (map.remove m n) n ≡ None
  removed-same m n = map.get-remove nat_cmp_total m n n ∙ ap (λ b. cond b None (map.get m n)) (not_told_apart n)

  removed-other : (m : map.FinMap nat_cmp X) (n r : ℕ) → (r ≡ n → ⊥) → map.get (map.remove m n) r ≡ map.get m r
  removed-other m n r ne = map.get-remove nat_cmp_total m n r ∙ ap (λ b. cond b None (map.get m r)) (told_apart r n ne)

  -- removing a number that finds nothing
  pub removed-absent : (m : map.FinMap nat_cmp X) (n : ℕ) → map.get m n ≡ None → map.remove m n ≡ m
  removed-absent m n absent = map.same_map nat_cmp_total map.nat_cmp-IsAntisymmetric _ _ (λ r.
      elim (nat_cases r n) [
        | inl e ↦ ap (map.get (map.remove m n)) e ∙ removed-same m n ∙ sym (ap (map.get m) e ∙ absent)
        | inr f ↦ removed-other m n r f
      ])

-- an index after the slot of a number and the last one, of another number, took each other's place
abbrev swapped_map : map.FinMap nat_cmp ℕ → ℕ → ℕ → ℕ → ℕ → map.FinMap nat_cmp ℕ
swapped_map m q j n last = map.insert (map.insert m q last) n j

-- without the number
unswapped : (m : map.FinMap nat_cmp ℕ) (q j n last : ℕ) → (q ≡ n → ⊥) → map.remove (swapped_map m q j n last) q ≡ map.insert (map.remove m q) n j
unswapped m q j n last ne = map.same_map nat_cmp_total map.nat_cmp-IsAntisymmetric _ _ (λ r.
    elim (nat_cases r q) [
      | inl e ↦
          ap (map.get (map.remove (swapped_map m q j n last) q)) e ∙ removed-same (swapped_map m q j n last) q
          ∙ sym (ap (map.get (map.insert (map.remove m q) n j)) e ∙ inserted-other (map.remove m q) n j q ne ∙ removed-same m q)
      | inr f ↦
          removed-other (swapped_map m q j n last) q r f
          ∙ elim (nat_cases r n) [
            | inl e ↦
                ap (map.get (swapped_map m q j n last)) e ∙ inserted-same (map.insert m q last) n j
                ∙ sym (ap (map.get (map.insert (map.remove m q) n j)) e ∙ inserted-same (map.remove m q) n j)
            | inr h ↦
                inserted-other (map.insert m q last) n j r h ∙ inserted-other m q last r f
                ∙ sym (inserted-other (map.remove m q) n j r h ∙ removed-other m q r f)
          ]
    ])

module _ {S : Type 0} where
  -- the number of a slot in an index
  number-of : (ss : List (Slot S)) (m : map.FinMap nat_cmp ℕ) → IsIndex ss m → (q k : ℕ) → map.get m q ≡ Some k → (d : Slot S) → (get_or ss k d).number ≡ q
  number-of ss m x q k e d = (x.only q k e).1 d

  -- dropping the last slot
  pub last-index : (front : List (Slot S)) (t : Slot S) (m : map.FinMap nat_cmp ℕ) → IsIndex (front ++ t ∷ []) m → (q : ℕ) → map.get m q ≡ Some (length front) → IsIndex front (map.remove m q)
  last-index front t m x q e =
      let z = length front in
      let ss = front ++ t ∷ [] in
      let longer : length ss ≡ suc z = omega (arith, length-append front (t ∷ [])) in
      record {
        has = λ k l d.
            let same-slot = get_or_append_left front (t ∷ []) d k l in
            let n = (get_or front k d).number in
            let there : map.get m n ≡ Some k = ap (λ s. map.get m s.number) (sym same-slot) ∙ x.has k (omega (arith, l, longer)) d in
            removed-other m q n (λ f. absurd (omega (arith, l, some-injective k z (sym there ∙ ap (map.get m) f ∙ e)))) ∙ there;
        only = λ r k f.
            elim (nat_cases r q) [
              | inl g ↦ absurd (some≢none k (sym f ∙ ap (map.get (map.remove m q)) g ∙ removed-same m q))
              | inr g ↦
                  let there = sym (removed-other m q r g) ∙ f in
                  let at = x.only r k there in
                  let below : k < z = elim (nat_cases k z) [
                    | inl h ↦ absurd (g (sym (at.1 t) ∙ ap (λ i. (get_or ss i t).number) h ∙ number-of ss m x q z e t))
                    | inr h ↦ elim (cases_lt k z) [
                      | inl l ↦ l
                      | inr l ↦ absurd (h (omega (arith, l, at.0, longer)))
                    ]
                  ] in
                  (below, λ d. ap (λ s. s.number) (sym (get_or_append_left front (t ∷ []) d k below)) ∙ at.1 d)
            ];
      }

  pub last-spans : (front : List (Slot S)) (t : Slot S) (m : map.FinMap nat_cmp ℕ) → IsIndex (front ++ t ∷ []) m → (q : ℕ) → map.get m q ≡ Some (length front) → spans_of front ≡ map.remove (spans_of (front ++ t ∷ [])) q
  last-spans front t m x q e = same _ _ (λ r.
      let ss = front ++ t ∷ [] in
      let y = last-index front t m x q e in
      elim (nat_cases r q) [
        | inl g ↦
            ap (map.get (spans_of front)) g ∙ get-none front (map.remove m q) y q (removed-same m q)
            ∙ sym (ap (map.get (map.remove (spans_of ss) q)) g ∙ removed-same (spans_of ss) q)
        | inr g ↦
            elim (cases_option (map.get m r)) [
              | inl none ↦ get-none front (map.remove m q) y r (removed-other m q r g ∙ none) ∙ sym (removed-other (spans_of ss) q r g ∙ get-none ss m x r none)
              | inr some ↦
                  let k = some.0 in
                  let here = removed-other m q r g ∙ some.1 in
                  get-at front (map.remove m q) y r k here t
                  ∙ ap (λ s. Some s.span) (sym (get_or_append_left front (t ∷ []) t k (y.only r k here).0))
                  ∙ sym (removed-other (spans_of ss) q r g ∙ get-at ss m x r k some.1 t)
            ]
      ])

  -- the slot of a number and the last one in each other's place
  module _ (ss ts : List (Slot S)) (m : map.FinMap nat_cmp ℕ) (x : IsIndex ss m) (q j : ℕ) (e : map.get m q ≡ Some j) (d : Slot S)
      (last : ℕ) (l : j < last) (z : length ss ≡ suc last) (count : length ts ≡ length ss) (swapped : SwappedAt ss ts j last) where
    abbrev n : ℕ
    n = (get_or ss last d).number

    of-last : map.get m n ≡ Some last
    of-last = x.has last (omega (arith, z)) d

    pub apart : q ≡ n → ⊥
    apart f = absurd (omega (arith, l, some-injective j last (sym e ∙ ap (map.get m) f ∙ of-last)))

    abbrev swapped_index : map.FinMap nat_cmp ℕ
    swapped_index = swapped_map m q j n last

    at-n : map.get swapped_index n ≡ Some j
    at-n = inserted-same (map.insert m q last) n j

    pub at-q : map.get swapped_index q ≡ Some last
    at-q = inserted-other (map.insert m q last) n j q apart ∙ inserted-same m q last

    at-other : (r : ℕ) → (r ≡ n → ⊥) → (r ≡ q → ⊥) → map.get swapped_index r ≡ map.get m r
    at-other r f g = inserted-other (map.insert m q last) n j r f ∙ inserted-other m q last r g

    number-j : (a : Slot S) → (get_or ts j a).number ≡ n
    number-j a = ap (λ s. s.number) (swapped.0 a ∙ get_or_default ss last a d (omega (arith, z)))

    number-last : (a : Slot S) → (get_or ts last a).number ≡ q
    number-last a = ap (λ s. s.number) (swapped.1 a) ∙ number-of ss m x q j e a

    pub swap-index : IsIndex ts swapped_index
    swap-index = record {
      has = λ k h a.
          elim (nat_cases k j) [
            | inl f ↦ ap (λ i. map.get swapped_index (get_or ts i a).number) f ∙ ap (map.get swapped_index) (number-j a) ∙ at-n ∙ ap Some (sym f)
            | inr f ↦
                elim (nat_cases k last) [
                  | inl g ↦ ap (λ i. map.get swapped_index (get_or ts i a).number) g ∙ ap (map.get swapped_index) (number-last a) ∙ at-q ∙ ap Some (sym g)
                  | inr g ↦
                      let r = (get_or ss k a).number in
                      let there = x.has k (omega (arith, h, count)) a in
                      ap (λ s. map.get swapped_index s.number) (swapped.2 k a f g)
                      ∙ at-other r (λ i. g (some-injective k last (sym there ∙ ap (map.get m) i ∙ of-last))) (λ i. f (some-injective k j (sym there ∙ ap (map.get m) i ∙ e)))
                      ∙ there
                ]
          ];
      only = λ r k h.
          elim (nat_cases r n) [
            | inl f ↦
                let at : j ≡ k = some-injective j k (sym at-n ∙ ap (map.get swapped_index) (sym f) ∙ h) in
                (omega (arith, at, l, z, count), λ a. ap (λ i. (get_or ts i a).number) (sym at) ∙ number-j a ∙ sym f)
            | inr f ↦
                elim (nat_cases r q) [
                  | inl g ↦
                      let at : last ≡ k = some-injective last k (sym at-q ∙ ap (map.get swapped_index) (sym g) ∙ h) in
                      (omega (arith, at, z, count), λ a. ap (λ i. (get_or ts i a).number) (sym at) ∙ number-last a ∙ sym g)
                  | inr g ↦
                      let at = x.only r k (sym (at-other r f g) ∙ h) in (
                        omega (arith, at.0, count),
                        λ a. ap (λ s. s.number) (swapped.2 k a (λ i. g (sym (at.1 a) ∙ ap (λ b. (get_or ss b a).number) i ∙ number-of ss m x q j e a))
                            (λ i. f (sym (at.1 d) ∙ ap (λ b. (get_or ss b d).number) i))) ∙ at.1 a,
                      )
                ]
          ];
    }

    pub swap-spans : spans_of ts ≡ spans_of ss
    swap-spans = same _ _ (λ r.
        elim (nat_cases r n) [
          | inl f ↦
              ap (map.get (spans_of ts)) f ∙ get-at ts swapped_index swap-index n j at-n d ∙ ap (λ s. Some s.span) (swapped.0 d)
              ∙ sym (ap (map.get (spans_of ss)) f ∙ get-at ss m x n last of-last d)
          | inr f ↦
              elim (nat_cases r q) [
                | inl g ↦
                    ap (map.get (spans_of ts)) g ∙ get-at ts swapped_index swap-index q last at-q d ∙ ap (λ s. Some s.span) (swapped.1 d)
                    ∙ sym (ap (map.get (spans_of ss)) g ∙ get-at ss m x q j e d)
                | inr g ↦
                    elim (cases_option (map.get m r)) [
                      | inl none ↦ get-none ts swapped_index swap-index r (at-other r f g ∙ none) ∙ sym (get-none ss m x r none)
                      | inr some ↦
                          let k = some.0 in
                          get-at ts swapped_index swap-index r k (at-other r f g ∙ some.1) d
                          ∙ ap (λ s. Some s.span) (swapped.2 k d (λ i. g (sym (number-of ss m x r k some.1 d) ∙ ap (λ b. (get_or ss b d).number) i ∙ number-of ss m x q j e d))
                          (λ i. f (sym (number-of ss m x r k some.1 d) ∙ ap (λ b. (get_or ss b d).number) i)))
                          ∙ sym (get-at ss m x r k some.1 d)
                    ]
              ]
        ])

  -- taking out the span with a number, whose slot is dropped last
  pub record TakenOut (ss : List (Slot S)) (q : ℕ) (rs : List Place) (front : List (Slot S)) (t : Slot S) : Type 0 where
    pub index : IsIndex front (map_of rs)
    pub spans : spans_of front ≡ map.remove (spans_of ss) q
    pub value : map.get (spans_of ss) q ≡ Some t.span

  module _ (ss : List (Slot S)) (ps qs rs : List Place) (next q j : ℕ) (a : IsAscending 0 ps next) (x : IsIndex ss (map_of ps)) (v : TakesOut ps q (Some j) qs)
      (ts : List (Slot S)) (b : BringsLast ss qs j ts rs) where
    at : map.get (map_of ps) q ≡ Some j
    at = v.value next a

    bound : j < length ss
    bound = (x.only q j at).0

    pub some-left : 0 < length ts
    some-left = omega (arith, bound, b.count)

    pub taken-ascends : IsAscending 0 rs next
    taken-ascends = elim (cases_lt (j + 1) (length ss)) [
      | inl l ↦ (b.moved l (first ss bound)).ascends next (v.ascends next a)
      | inr l ↦ rw (b.last (λ h. absurd (omega (arith, l, h)))).1 (v.ascends next a)
    ]

    module _ (front : List (Slot S)) (t : Slot S) (f : ts ≡ front ++ t ∷ []) where
      longer : length ss ≡ suc (length front)
      longer = omega (arith, b.count, ap length f, length-append front (t ∷ []))

      is-last : (j + 1 < length ss → ⊥) → TakenOut ss q rs front t
      is-last l =
          let is = b.last l in
          let e : ss ≡ front ++ t ∷ [] = sym is.0 ∙ f in
          let y : IsIndex (front ++ t ∷ []) (map_of ps) = subst (λ s. IsIndex s (map_of ps)) e x in
          let z : map.get (map_of ps) q ≡ Some (length front) = at ∙ ap Some (elim (cases_lt (j + 1) (length ss)) [ inl h ↦ absurd (l h) | inr h ↦ omega (arith, h, bound, longer) ]) in
          let m : map_of rs ≡ map.remove (map_of ps) q = ap map_of is.1 ∙ v.removed next a in
          record {
            index = rw m (last-index front t (map_of ps) y q z);
            spans = last-spans front t (map_of ps) y q z ∙ ap (λ s. map.remove (spans_of s) q) (sym e);
            value = get-at ss (map_of ps) x q (length front) z t ∙ ap (λ s. Some (get_or s (length front) t).span) e ∙ ap (λ s. Some s.span) (get_or-append_seam front t [] t);
          }

      before-last : j + 1 < length ss → TakenOut ss q rs front t
      before-last l =
          let last = length front in
          let m = map_of ps in
          let j-below : j < last = omega (arith, l, longer) in
          let swapped : SwappedAt ss ts j last = subst (λ k. SwappedAt ss ts j k) (omega (arith, longer)) (b.swapped l) in
          let n = (get_or ss last t).number in
          let to = swapped_map m q j n last in
          let y = swap-index ss ts m x q j at t last j-below longer b.count swapped in
          let of-n : IsSome (map.get (map_of qs) n) =
          ap (λ p. is_some (map.get p n)) (v.removed next a)
          ∙ ap is_some (removed-other m q n (λ e. apart ss ts m x q j at t last j-below longer b.count swapped (sym e)) ∙ x.has last (omega (arith, longer)) t) in
          let moved = subst (λ k. MovesTo qs (get_or ss k t).number j rs) (omega (arith, longer)) (b.moved l t) in
          let left : map_of rs ≡ map.remove to q =
          moved.moved next (v.ascends next a) of-n ∙ ap (λ p. map.insert p n j) (v.removed next a)
          ∙ sym (unswapped m q j n last (apart ss ts m x q j at t last j-below longer b.count swapped)) in
          let there : map.get to q ≡ Some last = at-q ss ts m x q j at t last j-below longer b.count swapped in
          let z : IsIndex (front ++ t ∷ []) to = subst (λ s. IsIndex s to) f y in
          record {
            index = rw left (last-index front t to z q there);
            spans = last-spans front t to z q there ∙ ap (λ s. map.remove (spans_of s) q) (sym f)
                ∙ ap (λ p. map.remove p q) (swap-spans ss ts m x q j at t last j-below longer b.count swapped);
            value = get-at ss m x q j at t ∙ ap (λ s. Some s.span) (sym (swapped.1 t)) ∙ ap (λ s. Some (get_or s last t).span) f
                ∙ ap (λ s. Some s.span) (get_or-append_seam front t [] t);
          }

      pub taken-out : TakenOut ss q rs front t
      taken-out = elim (cases_lt (j + 1) (length ss)) [
        | inl l ↦ before-last l
        | inr l ↦ is-last (λ h. absurd (omega (arith, l, h)))
      ]

    -- the last slot as a call returned it
    pub discarded : (front : List (Slot S)) (o : Option (Slot S)) → ts ≡ front ++ option_to_list o → IsSome o
        → IsIndex front (map_of rs) × (spans_of front ≡ map.remove (spans_of ss) q) × IsSome (map.get (spans_of ss) q)
    discarded front None f some = absurd (true≢false (sym some))
    discarded front (Some t) f some =
        let out = taken-out front t f in
        (out.index, out.spans, ap is_some out.value)

  -- taking out a number that has no span
  pub nothing-out : (ss : List (Slot S)) (ps qs : List Place) (next q : ℕ) → IsAscending 0 ps next → IsIndex ss (map_of ps) → TakesOut ps q None qs
      → IsIndex ss (map_of qs) × (map.get (spans_of ss) q ≡ None) × (spans_of ss ≡ map.remove (spans_of ss) q)
  nothing-out ss ps qs next q a x v =
      let at = v.value next a in
      let none = get-none ss (map_of ps) x q at in
      (rw (v.removed next a ∙ removed-absent (map_of ps) q at) x, none, sym (removed-absent (spans_of ss) q none))
