-- Removing or adding an attachment leaves the others unchanged.
use Rattle.std.proofs.Common.{◌≡◌, ℕ, ◌+◌, ◌<◌, false, [], ◌∷◌, ◌++◌, map, refl, sym, ap, ◌∙◌, arith, inl, inr}
use Rattle.std.specs.Prelude.{◌==◌, ◌≢◌}
use Rattle.std.proofs.lemmas.Bool.{cases_Bool, ne_eqb, eq-eqb, eqb-true}
use Rattle.otel_context.specs.Context.{ContextRecord, empty_context}
use Rattle.otel_context.specs.Stack.{Live, last_or, newest_position, context_at, detach, RisesAbove, positions}
use Rattle.otel_context.specs.StackLaws.{DetachRestores, AttachIsCurrent, AttachLeavesAll, RemovalLeavesOthers, RemovalKeepsOrder}
use Rattle.otel_context.proofs.shared.LiveLemmas.{length-RisesAbove}

detach-pushed : (q p : ℕ) (c : ContextRecord) (xs : Live) → RisesAbove q (positions xs) → last_or q (positions xs) < p → detach p (xs ++ (p, c) ∷ []) ≡ xs
detach-pushed q p c [] r h = rw (eq-eqb p p refl) refl
detach-pushed q p c (x ∷ xs) r h =
    let other : (x.0 == p) ≡ false = ne_eqb x.0 p (λ e. omega (arith, e, h, length-RisesAbove x.0 (positions xs) r.1)) in
    rw other (ap (λ (l : Live). x ∷ l) (detach-pushed x.0 p c xs r.1 h))

pub detach_restores : DetachRestores
detach_restores stack c lawful = detach-pushed 0 (newest_position stack.live + 1) c stack.live lawful.rising (omega arith)

current-pushed : (d c : ContextRecord) (p : ℕ) (xs : Live) → last_or d (map (λ a. a.1) (xs ++ (p, c) ∷ [])) ≡ c
current-pushed d c p [] = refl
current-pushed d c p (x ∷ xs) = current-pushed x.1 c p xs

pub attach_is_current : AttachIsCurrent
attach_is_current live c = current-pushed empty_context c (newest_position live + 1) live

at-pushed : (q p : ℕ) (c : ContextRecord) (xs : Live) → p ≢ q → context_at q (xs ++ (p, c) ∷ []) ≡ context_at q xs
at-pushed q p c [] h = rw (ne_eqb p q h) refl
at-pushed q p c (x ∷ xs) h = elim (cases_Bool (x.0 == q)) [
  | inl t ↦ rw t refl
  | inr f ↦ rw f (at-pushed q p c xs h)
]

pub attach_leaves_all : AttachLeavesAll
attach_leaves_all live c p h = at-pushed p (newest_position live + 1) c live (λ e. omega (arith, e))

pub removal_leaves_others : RemovalLeavesOthers
removal_leaves_others [] p q h = refl
removal_leaves_others (x ∷ xs) p q h = elim (cases_Bool (x.0 == p)) [
  | inl t ↦
      let other : (x.0 == q) ≡ false = ne_eqb x.0 q (λ e. h (sym (eqb-true x.0 p t) ∙ e)) in
      rw (t, other) (removal_leaves_others xs p q h)
  | inr f ↦ rw f (elim (cases_Bool (x.0 == q)) [
    | inl s ↦ rw s refl
    | inr g ↦ rw g (removal_leaves_others xs p q h)
  ])
]

pub removal_keeps_order : RemovalKeepsOrder
removal_keeps_order [] p = refl
removal_keeps_order (x ∷ xs) p = elim (cases_Bool (x.0 == p)) [
  | inl t ↦ rw t (removal_keeps_order xs p)
  | inr f ↦ rw f (ap (λ l. x.0 ∷ l) (removal_keeps_order xs p))
]
