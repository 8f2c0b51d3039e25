-- Two attachments. The older one is removed first.
use Rattle.std.proofs.Common.{◌≡◌, ℕ, ◌+◌, ◌<◌, [], ◌∷◌, ◌++◌, Option, Ok, map, refl, ap, ◌∙◌, arith, inl, inr}
use Rattle.std.specs.Prelude.{◌==◌, ◌≢◌}
use Rattle.std.specs.declared.alloc.AllocError.{AllocError}
use Rattle.std.proofs.lemmas.Bool.{cases_Bool, cases_lt, ne_eqb}
use Rattle.otel_context.specs.Context.{ContextRecord, empty_context}
use Rattle.otel_context.specs.Stack.{Live, StackState, IsLawful, Attaches, Detaches, last_or, newest_position, last_position, current, detach, attach, positions}
use Rattle.otel_context.specs.StackLaws.{DetachRestores}

-- removals of two positions may change places
removals_commute : (p q : ℕ) (live : Live) → detach p (detach q live) ≡ detach q (detach p live)
removals_commute p q [] = refl
removals_commute p q (x ∷ xs) = elim (cases_Bool (x.0 == q)) [
  | inl at_q ↦ elim (cases_Bool (x.0 == p)) [
    | inl at_p ↦ rw (at_q, at_p) (removals_commute p q xs)
    | inr off_p ↦ rw (at_q, off_p) (rw at_q (removals_commute p q xs))
  ]
  | inr off_q ↦ elim (cases_Bool (x.0 == p)) [
    | inl at_p ↦ rw (off_q, at_p) (removals_commute p q xs)
    | inr off_p ↦ rw (off_q, off_p) (rw off_q (ap (λ (l : Live). x ∷ l) (removals_commute p q xs)))
  ]
]

-- the context that was added last stays last after another is removed
last-removed : (d c : ContextRecord) (p q : ℕ) (live : Live) → q ≢ p
    → last_or d (map (λ a. a.1) (detach p (live ++ (q, c) ∷ []))) ≡ c
last-removed d c p q [] h = rw (ne_eqb q p h) refl
last-removed d c p q (x ∷ xs) h = elim (cases_Bool (x.0 == p)) [
  | inl at_p ↦ rw at_p (last-removed d c p q xs h)
  | inr off_p ↦ rw off_p (last-removed x.1 c p q xs h)
]

-- the position that was added last is the newest
newest-pushed : (d p : ℕ) (c : ContextRecord) (live : Live)
    → last_or d (positions (live ++ (p, c) ∷ [])) ≡ p
newest-pushed d p c [] = refl
newest-pushed d p c (x ∷ xs) = newest-pushed x.0 p c xs

module _ (before first both left after : StackState) (a b : ContextRecord) (p q : ℕ)
    (x y : Option ContextRecord) (lawful : IsLawful before) (restores : DetachRestores)
    (attach_a : Attaches {E = AllocError} a before first (Ok p))
    (attach_b : Attaches {E = AllocError} b first both (Ok q))
    (remove_a : Detaches p both left x) (remove_b : Detaches q left after y) where
  -- the stack after the first attach, if a position is left
  first_live : newest_position before.live < last_position → first.live ≡ attach a before.live
  first_live room = ap (λ (s : StackState). s.live) (attach_a.accepted room).1

  first_newest : newest_position before.live < last_position
      → newest_position first.live ≡ newest_position before.live + 1
  first_newest room = rw (first_live room) (newest-pushed 0 (newest_position before.live + 1) a before.live)

  both_live : newest_position first.live < last_position → both.live ≡ attach b first.live
  both_live room = ap (λ (s : StackState). s.live) (attach_b.accepted room).1

  -- the removal of the first leaves the contexts that were live before
  first_removed : newest_position before.live < last_position → detach p first.live ≡ before.live
  first_removed room =
      ap (λ k. detach k first.live) (attach_a.accepted room).0 ∙ ap (detach (newest_position before.live + 1)) (first_live room)
      ∙ restores before a lawful

  -- the context that was attached last is current after the older one is removed
  pub newer_is_current : newest_position before.live + 1 < last_position → current left.live ≡ b
  newer_is_current room =
      let room_a : newest_position before.live < last_position = omega arith in
      let newest = first_newest room_a in
      let room_b : newest_position first.live < last_position = omega (arith, newest) in
      let apart : newest_position first.live + 1 ≢ p = λ e. omega (arith, e, newest, (attach_a.accepted room_a).0) in
      ap current (remove_a.live ∙ ap (detach p) (both_live room_b))
      ∙ last-removed empty_context b p (newest_position first.live + 1) first.live apart

  -- after both are removed, the contexts that were live before are live
  pub both_removed : after.live ≡ before.live
  both_removed = elim (cases_lt (newest_position before.live) last_position) [
    | inl room ↦ elim (cases_lt (newest_position first.live) last_position) [
      | inl more ↦
          remove_b.live ∙ ap (detach q) remove_a.live ∙ removals_commute q p both.live
          ∙ ap (detach p)
          (ap (λ k. detach k both.live) (attach_b.accepted more).0 ∙ ap (detach (newest_position first.live + 1)) (both_live more)
          ∙ restores first b attach_a.lawful)
          ∙ first_removed room
      | inr full ↦
          let at_last : newest_position first.live ≡ last_position = omega (arith, attach_a.lawful.within) in
          let none = attach_b.full at_last in
          ap (λ (s : StackState). s.live) (remove_b.unattached none.0).1 ∙ remove_a.live
          ∙ ap (λ (s : StackState). detach p s.live) none.1 ∙ first_removed room
    ]
    | inr full ↦
        let at_last : newest_position before.live ≡ last_position = omega (arith, lawful.within) in
        let none = attach_a.full at_last in
        let first_at_last : newest_position first.live ≡ last_position = ap (λ (s : StackState). newest_position s.live) none.1 ∙ at_last in
        let nothing = attach_b.full first_at_last in
        ap (λ (s : StackState). s.live)
        ((remove_b.unattached nothing.0).1 ∙ (remove_a.unattached none.0).1 ∙ nothing.1 ∙ none.1)
  ]
