use Rattle.std.proofs.Common.{◌≡◌, ℕ, zero, suc, ◌+◌, ◌<◌, ◌≤◌, Bool, true, false, ◌||◌, List, [], ◌∷◌, ◌++◌, length, take, Option, Some, None, refl, sym, ap, ◌∙◌, arith, inl, inr, ◌⊎◌}
use Rattle.std.specs.Prelude.{◌==◌, if◌then◌else◌, map, filter, option_map, IfSome, slice_set}
use Rattle.std.specs.List.{list_any, filter_map, slice_get}
use Rattle.std.proofs.lemmas.Bool.{ne_eqb, eq-eqb}
use Rattle.std.proofs.lemmas.List.{map_push, map-set, set_past, take-append-le, length-append, length-map}
use Rattle.std.proofs.Common.{add-zero, append-nil}
use Rattle.std.proofs.lemmas.List.Folds.{list_any-append}
use Rattle.std.proofs.lemmas.List.Elements.{filter_map-append, filter-append}
use Rattle.std.proofs.Math.Seq.{take-append_seam}
use Rattle.otel_context.specs.Context.{ContextRecord}
use Rattle.otel_context.specs.Stack.{Live, StackState, newest_position, detach, RisesAbove, positions, IsLawful}
use Rattle.opentelemetry.specs.Run.{attaches_of, is_attached, detaches, attachment_of, left_by, survivors, IsOutcome, Legal}
use Rattle.opentelemetry.specs.Progress.{after_attach, Stands}
use Rattle.opentelemetry.specs.declared.carry.event.StackEvent.{StackEvent}
use Rattle.opentelemetry.specs.declared.carry.event.StackEvent.TheVariants.{Attach, Detach}
use Rattle.opentelemetry.specs.declared.carry.event.AttachOutcome.{AttachOutcome}
use Rattle.opentelemetry.specs.declared.carry.event.AttachOutcome.TheVariants.{Attached, Full, NoMemory}
use Rattle.otel_base.proofs.shared.Steps.{slice_get-append, slice_get-append_end, last_or_before}
use Rattle.otel_context.proofs.shared.LiveLemmas.{detach-above}
use Rattle.opentelemetry.proofs.CurrentLemmas.{current_is}

-- an attachment, or none
abbrev pub Left : Type 0
Left = Option (ℕ × ContextRecord)

any-attach : (k : ℕ) (events : List StackEvent) (context : ContextRecord) → list_any (detaches k) (events ++ Attach context ∷ []) ≡ list_any (detaches k) events
any-attach k [] context = refl
any-attach k (e ∷ events) context = ap (λ b. detaches k e || b) (any-attach k events context)

-- one more attach adds its remainder
pub left_by-attach : (k : ℕ) (events : List StackEvent) (outcomes : List AttachOutcome) (context : ContextRecord) (o : AttachOutcome) → length outcomes ≡ attaches_of events
    → left_by k (events ++ Attach context ∷ []) (outcomes ++ o ∷ []) ≡ left_by k events outcomes ++ attachment_of o context ∷ []
left_by-attach k [] [] context o n = refl
left_by-attach k [] (x ∷ outcomes) context o n = absurd (omega (arith, n))
left_by-attach k (Detach other ∷ events) outcomes context o n = left_by-attach k events outcomes context o n
left_by-attach k (Attach c ∷ events) [] context o n = absurd (let h : 0 ≡ suc (attaches_of events) = n in omega arith)
left_by-attach k (Attach c ∷ events) (x ∷ outcomes) context o n =
    ap (λ (b : Bool). (if b then None else attachment_of x c) ∷ left_by (k + 1) (events ++ Attach context ∷ []) (outcomes ++ o ∷ [])) (any-attach k events context)
    ∙ ap (λ (l : List Left). (if list_any (detaches k) events then None else attachment_of x c) ∷ l) (left_by-attach (k + 1) events outcomes context o (let h : suc (length outcomes) ≡ suc (attaches_of events) = n in omega arith))

-- outcomes beyond the number of attaches aren't read
pub left_by-more : (k : ℕ) (events : List StackEvent) (outcomes more : List AttachOutcome) → attaches_of events ≤ length outcomes → left_by k events (outcomes ++ more) ≡ left_by k events outcomes
left_by-more k [] outcomes more n = refl
left_by-more k (Detach other ∷ events) outcomes more n = left_by-more k events outcomes more n
left_by-more k (Attach c ∷ events) [] more n = absurd (let h : suc (attaches_of events) ≤ 0 = n in omega arith)
left_by-more k (Attach c ∷ events) (x ∷ outcomes) more n =
    ap (λ (l : List Left). (if list_any (detaches k) events then None else attachment_of x c) ∷ l) (left_by-more (k + 1) events outcomes more (let h : suc (attaches_of events) ≤ suc (length outcomes) = n in omega arith))

-- the list without the element at `n`, if its first place is `k`
abbrev cleared : ℕ → ℕ → List Left → List Left
cleared n k [] = []
cleared n k (x ∷ xs) = (if n == k then None else x) ∷ cleared n (k + 1) xs

cleared-past : (n k : ℕ) (xs : List Left) → n < k → cleared n k xs ≡ xs
cleared-past n k [] h = refl
cleared-past n k (x ∷ xs) h = rw (ne_eqb n k (λ e. omega arith)) (ap (λ (l : List Left). x ∷ l) (cleared-past n (k + 1) xs (omega arith)))

cleared-at : (n k m : ℕ) (xs : List Left) → n ≡ k + m → cleared n k xs ≡ slice_set xs m None
cleared-at n k m [] e = refl
cleared-at n k zero (x ∷ xs) e = rw (eq-eqb n k (omega arith)) (ap (λ (l : List Left). None ∷ l) (cleared-past n (k + 1) xs (omega arith)))
cleared-at n k (suc m) (x ∷ xs) e = rw (ne_eqb n k (λ h. omega arith)) (ap (λ (l : List Left). x ∷ l) (cleared-at n (k + 1) m xs (omega arith)))

none_if : (a b : Bool) (x : Left) → (if (a || (b || false)) then None else x) ≡ (if b then None else (if a then None else x))
none_if true true x = refl
none_if true false x = refl
none_if false true x = refl
none_if false false x = refl

none_both : (b : Bool) → ◌≡◌ {A = Left} (if b then None else None) None
none_both true = refl
none_both false = refl

-- one more detach removes the remainder of its attach
left_by-detach : (k n : ℕ) (events : List StackEvent) (outcomes : List AttachOutcome) → left_by k (events ++ Detach n ∷ []) outcomes ≡ cleared n k (left_by k events outcomes)
left_by-detach k n [] outcomes = refl
left_by-detach k n (Detach other ∷ events) outcomes = left_by-detach k n events outcomes
left_by-detach k n (Attach c ∷ events) [] =
    ap (λ (l : List Left). None ∷ l) (left_by-detach (k + 1) n events []) ∙ ap (λ (x : Left). x ∷ cleared n (k + 1) (left_by (k + 1) events [])) (sym (none_both (n == k)))
left_by-detach k n (Attach c ∷ events) (x ∷ outcomes) =
    rw (list_any-append (detaches k) events (Detach n ∷ []), left_by-detach (k + 1) n events outcomes)
    (ap (λ (l : Left). l ∷ cleared n (k + 1) (left_by (k + 1) events outcomes)) (none_if (list_any (detaches k) events) (n == k) (attachment_of x c)))

abbrev pub survivors_of : List Left → Live
survivors_of lefts = filter_map (λ left. left) lefts

-- if the positions rise from above `q`, the position at `n` is above `q`
above_at : (q : ℕ) (xs : List Left) (n p : ℕ) (context : ContextRecord) → slice_get xs n ≡ Some (Some (p, context)) → RisesAbove q (positions (survivors_of xs)) → q < p
above_at q [] n p context e r = cc
above_at q (None ∷ xs) zero p context e r = cc
above_at q (Some a ∷ xs) zero p context e r = let h : a ≡ (p, context) = cc in let k : a.0 ≡ p = ap (λ (x : ℕ × ContextRecord). x.0) h in omega (arith, r.0)
above_at q (None ∷ xs) (suc n) p context e r = above_at q xs n p context e r
above_at q (Some a ∷ xs) (suc n) p context e r = let h = above_at a.0 xs n p context e r.1 in omega (arith, r.0, h)

-- clearing a place removes the position there
survivors_of-set : (q : ℕ) (xs : List Left) (n p : ℕ) (context : ContextRecord) → slice_get xs n ≡ Some (Some (p, context)) → RisesAbove q (positions (survivors_of xs))
    → survivors_of (slice_set xs n None) ≡ detach p (survivors_of xs)
survivors_of-set q [] n p context e r = cc
survivors_of-set q (None ∷ xs) zero p context e r = cc
survivors_of-set q (Some a ∷ xs) zero p context e r =
    let h : a ≡ (p, context) = cc in let k : a.0 ≡ p = ap (λ (x : ℕ × ContextRecord). x.0) h in
    rw (eq-eqb a.0 p k) (sym (detach-above a.0 p (survivors_of xs) r.1 (omega arith)))
survivors_of-set q (None ∷ xs) (suc n) p context e r = survivors_of-set q xs n p context e r
survivors_of-set q (Some a ∷ xs) (suc n) p context e r =
    let h = above_at a.0 xs n p context e r.1 in
    rw (ne_eqb a.0 p (λ k. omega (arith, h, k))) (ap (λ (l : Live). a ∷ l) (survivors_of-set a.0 xs n p context e r.1))

-- clearing a cleared place changes nothing
set-same : (xs : List Left) (n : ℕ) → slice_get xs n ≡ Some None → slice_set xs n None ≡ xs
set-same [] n e = refl
set-same (x ∷ xs) zero e = let h : None ≡ x = cc in ap (λ (l : Left). l ∷ xs) h
set-same (x ∷ xs) (suc n) e = ap (λ (l : List Left). x ∷ l) (set-same xs n e)

-- the attaches before an attach are fewer than all
attaches_of-take : (events : List StackEvent) (i : ℕ) (context : ContextRecord) → slice_get events i ≡ Some (Attach context) → attaches_of (take i events) < attaches_of events
attaches_of-take [] i context e = cc
attaches_of-take (Attach c ∷ events) zero context e = let h : 0 < suc (attaches_of events) = omega arith in h
attaches_of-take (Detach n ∷ events) zero context e = cc
attaches_of-take (Attach c ∷ events) (suc i) context e = let h = attaches_of-take events i context e in let k : suc (attaches_of (take i events)) < suc (attaches_of events) = omega (arith, h) in k
attaches_of-take (Detach n ∷ events) (suc i) context e = attaches_of-take events i context e

-- `Legal` still holds for earlier events with one event more
legal-more : (events : List StackEvent) (outcomes more : List AttachOutcome) (event : StackEvent) → Legal events outcomes
    → (i : ℕ) (context : ContextRecord) → i < length events → slice_get (events ++ event ∷ []) i ≡ Some (Attach context)
    → IfSome (slice_get (outcomes ++ more) (attaches_of (take i (events ++ event ∷ [])))) (IsOutcome (newest_position (survivors (take i (events ++ event ∷ [])) (outcomes ++ more))))
legal-more events outcomes more event legal i context within at =
    let at' : slice_get events i ≡ Some (Attach context) = sym (slice_get-append events (event ∷ []) i within) ∙ at in
    let few = attaches_of-take events i context at' in
    rw (
      take-append-le i events (event ∷ []) (omega arith),
      slice_get-append outcomes more (attaches_of (take i events)) (omega (arith, few, legal.one_each)),
      left_by-more 0 (take i events) outcomes more (omega (arith, few, legal.one_each)),
    )
    (legal.each i context at')

pub legal-detach : (events : List StackEvent) (outcomes : List AttachOutcome) (n : ℕ) → Legal events outcomes → Legal (events ++ Detach n ∷ []) outcomes
legal-detach events outcomes n legal = record {
  one_each = rw filter-append (rw (length-append, add-zero) legal.one_each);
  each = λ i context at. elim (last_or_before events (Detach n) i (Attach context) at) [
    | inl h ↦ rw append-nil at (legal-more events outcomes [] (Detach n) legal i context h at)
    | inr h ↦ absurd (let e : Detach n ≡ Attach context = h.1 in cc)
  ];
}

pub legal-attach : (events : List StackEvent) (outcomes : List AttachOutcome) (context : ContextRecord) (o : AttachOutcome) → Legal events outcomes → IsOutcome (newest_position (survivors events outcomes)) o
    → Legal (events ++ Attach context ∷ []) (outcomes ++ o ∷ [])
legal-attach events outcomes context o legal allowed = record {
  one_each = rw (filter-append, length-append, length-append) (omega (arith, legal.one_each));
  each = λ i other at. elim (last_or_before events (Attach context) i (Attach other) at) [
    | inl h ↦ legal-more events outcomes (o ∷ []) (Attach context) legal i other h at
    | inr h ↦
        rw (h.0, take-append_seam, ← legal.one_each, slice_get-append_end, left_by-more 0 events outcomes (o ∷ []) (omega (arith, legal.one_each))) allowed
  ];
}

-- the last outcome is an allowed one
pub outcome_allowed : (events : List StackEvent) (outcomes : List AttachOutcome) (context : ContextRecord) (o : AttachOutcome) → length outcomes ≡ attaches_of events
    → Legal (events ++ Attach context ∷ []) (outcomes ++ o ∷ []) → IsOutcome (newest_position (survivors events outcomes)) o
outcome_allowed events outcomes context o n legal =
    let last = legal.each (length events) context (slice_get-append_end events (Attach context)) in
    rw (take-append_seam, ← n, slice_get-append_end, left_by-more 0 events outcomes (o ∷ []) (omega (arith, n))) at last

-- `Stands` after an attach
pub stands-attach : (done : List StackEvent) (outcomes : List AttachOutcome) (places : List (Option ℕ)) (stack : StackState) (context : ContextRecord) (o : AttachOutcome) (place : Option ℕ)
    → Stands done outcomes places stack → IsOutcome (newest_position stack.live) o → IsLawful (after_attach stack o context) → place ≡ option_map (λ a. a.0) (attachment_of o context)
    → Stands (done ++ Attach context ∷ []) (outcomes ++ o ∷ []) (places ++ place ∷ []) (after_attach stack o context)
stands-attach done outcomes places stack context o place s allowed lawful is = record {
  legal = legal-attach done outcomes context o s.legal (rw (← s.live) allowed);
  live = live_is;
  current = current_is (done ++ Attach context ∷ []) (outcomes ++ o ∷ []) (after_attach stack o context).live live_is;
  kept_are = rw (more, map_push, ← s.kept_are, is) refl;
  lawful = lawful;
  accepted = rw (filter-append, length-append) (accepted o);
  stepped = stepped o;
} where
  more : left_by 0 (done ++ Attach context ∷ []) (outcomes ++ o ∷ []) ≡ left_by 0 done outcomes ++ attachment_of o context ∷ []
  more = left_by-attach 0 done outcomes context o s.legal.one_each

  live : (o : AttachOutcome) → (after_attach stack o context).live ≡ survivors done outcomes ++ survivors_of (attachment_of o context ∷ [])
  live (Attached p) = ap (λ (l : Live). l ++ (p, context) ∷ []) s.live
  live Full = s.live ∙ sym (append-nil (survivors done outcomes))
  live NoMemory = s.live ∙ sym (append-nil (survivors done outcomes))

  live_is : (after_attach stack o context).live ≡ survivors (done ++ Attach context ∷ []) (outcomes ++ o ∷ [])
  live_is = live o ∙ sym (ap survivors_of more ∙ filter_map-append (λ left. left) (left_by 0 done outcomes) (attachment_of o context ∷ []))

  accepted : (o : AttachOutcome) → (after_attach stack o context).accepted ≡ length (filter is_attached outcomes) + length (filter is_attached (o ∷ []))
  accepted (Attached p) = ap (λ n. n + 1) s.accepted
  accepted Full = s.accepted ∙ sym (add-zero _)
  accepted NoMemory = s.accepted ∙ sym (add-zero _)

  stepped : (o : AttachOutcome) → (after_attach stack o context).stepped ≡ 0
  stepped (Attached p) = s.stepped
  stepped Full = s.stepped
  stepped NoMemory = s.stepped

-- the list of remainders, after one more detach
pub left_by-detached : (n : ℕ) (done : List StackEvent) (outcomes : List AttachOutcome) → left_by 0 (done ++ Detach n ∷ []) outcomes ≡ slice_set (left_by 0 done outcomes) n None
left_by-detached n done outcomes = left_by-detach 0 n done outcomes ∙ cleared-at n 0 n (left_by 0 done outcomes) (omega arith)

-- if a place is kept, an attachment remains at it
at_place : (xs : List Left) (n p : ℕ) → slice_get (map (option_map (λ a. a.0)) xs) n ≡ Some (Some p) → (context : ContextRecord) × (slice_get xs n ≡ Some (Some (p, context)))
at_place [] n p e = absurd (cc)
at_place (None ∷ xs) zero p e = absurd (cc)
at_place (Some a ∷ xs) zero p e = let h : a.0 ≡ p = cc in (a.1, ap (λ k. Some (Some (k, a.1))) h)
at_place (x ∷ xs) (suc n) p e = at_place xs n p e

at_no_place : (xs : List Left) (n : ℕ) → slice_get (map (option_map (λ a. a.0)) xs) n ≡ Some None → slice_get xs n ≡ Some None
at_no_place [] n e = absurd (cc)
at_no_place (None ∷ xs) zero e = refl
at_no_place (Some a ∷ xs) zero e = absurd (cc)
at_no_place (x ∷ xs) (suc n) e = at_no_place xs n e

-- `Stands` after a detach of an attach that left something
pub stands-detach : (done : List StackEvent) (outcomes : List AttachOutcome) (places : List (Option ℕ)) (stack new : StackState) (n p : ℕ)
    → Stands done outcomes places stack → slice_get places n ≡ Some (Some p) → new.live ≡ detach p stack.live → new.accepted ≡ stack.accepted → new.stepped ≡ stack.stepped → IsLawful new
    → Stands (done ++ Detach n ∷ []) outcomes (slice_set places n None) new
stands-detach done outcomes places stack new n p s at live accepted stepped lawful = record {
  legal = legal-detach done outcomes n s.legal;
  live = live_is;
  current = current_is (done ++ Detach n ∷ []) outcomes new.live live_is;
  kept_are = rw (left_by-detached, map-set) (ap (λ (l : List (Option ℕ)). slice_set l n None) s.kept_are);
  lawful = lawful;
  accepted = accepted ∙ s.accepted;
  stepped = stepped ∙ s.stepped;
} where
  live_is : new.live ≡ survivors (done ++ Detach n ∷ []) outcomes
  live_is =
      let there = at_place (left_by 0 done outcomes) n p (rw s.kept_are at at) in
      live ∙ ap (detach p) s.live ∙ sym (survivors_of-set 0 (left_by 0 done outcomes) n p there.0 there.1 (rw s.live at s.lawful.rising)) ∙ sym (ap survivors_of (left_by-detached n done outcomes))

-- `Stands` after a detach of an attach that left nothing
pub stands-skip : (done : List StackEvent) (outcomes : List AttachOutcome) (places : List (Option ℕ)) (stack : StackState) (n : ℕ)
    → Stands done outcomes places stack → (slice_get places n ≡ Some None) ⊎ (length places ≤ n) → Stands (done ++ Detach n ∷ []) outcomes places stack
stands-skip done outcomes places stack n s at = record {
  legal = legal-detach done outcomes n s.legal;
  live = live_is;
  current = current_is (done ++ Detach n ∷ []) outcomes stack.live live_is;
  kept_are = s.kept_are ∙ sym (ap (map (option_map (λ a. a.0))) same);
  lawful = s.lawful;
  accepted = s.accepted;
  stepped = s.stepped;
} where
  same : left_by 0 (done ++ Detach n ∷ []) outcomes ≡ left_by 0 done outcomes
  same = left_by-detached n done outcomes ∙ (elim at [
    | inl h ↦ set-same (left_by 0 done outcomes) n (at_no_place (left_by 0 done outcomes) n (rw s.kept_are at h))
    | inr h ↦ set_past (left_by 0 done outcomes) n None (let k : length (map (option_map (λ (a : ℕ × ContextRecord). a.0)) (left_by 0 done outcomes)) ≤ n = rw s.kept_are at h in rw length-map at k)
  ])

  live_is : stack.live ≡ survivors (done ++ Detach n ∷ []) outcomes
  live_is = s.live ∙ sym (ap survivors_of same)
