-- The occupants of the positions, by functions of numbers: after an attach, and after a removal.
use Rattle.std.proofs.Common.{◌≡◌, ℕ, Bool, true, false, Some, None, refl, sym, ap, ◌∙◌, inl, inr}
use Rattle.std.specs.Prelude.{◌==◌, if◌then◌else◌}
use Rattle.std.proofs.lemmas.Bool.{cases_eq, eq-eqb, ne_eqb}
use Rattle.std.proofs.lemmas.Option.{none-some}
use Rattle.otel_context.specs.Context.{ContextRecord}
use Rattle.otel_context.specs.Links.{SetAt, context_by, occupant_by}

-- the newest position has the context beside the slots
pub context-newest : (kept : ℕ → ContextRecord) (m : ℕ) (c : ContextRecord) (q : ℕ) → q ≡ m → context_by kept m c q ≡ c
context-newest kept m c q e = ap (λ (b : Bool). if b then c else kept q) (eq-eqb q m e)

pub context-other : (kept : ℕ → ContextRecord) (m : ℕ) (c : ContextRecord) (q : ℕ) → (q ≡ m → ⊥) → context_by kept m c q ≡ kept q
context-other kept m c q g = ap (λ (b : Bool). if b then c else kept q) (ne_eqb q m g)

pub occupant-live : (live : ℕ → Bool) (kept : ℕ → ContextRecord) (m : ℕ) (c : ContextRecord) (q : ℕ) → live q ≡ true → occupant_by live kept m c q ≡ Some (context_by kept m c q)
occupant-live live kept m c q h = ap (λ (b : Bool). if b then Some (context_by kept m c q) else None) h

pub occupant-dead : (live : ℕ → Bool) (kept : ℕ → ContextRecord) (m : ℕ) (c : ContextRecord) (q : ℕ) → live q ≡ false → occupant_by live kept m c q ≡ None
occupant-dead live kept m c q h = ap (λ (b : Bool). if b then Some (context_by kept m c q) else None) h

-- a position with an occupant is live
live-if : (b : Bool) (r x : ContextRecord) → (if b then Some r else None) ≡ Some x → b ≡ true
live-if true r x h = refl
live-if false r x h = absurd (none-some x h)

pub live-occupant : (live : ℕ → Bool) (kept : ℕ → ContextRecord) (m : ℕ) (c x : ContextRecord) (q : ℕ) → occupant_by live kept m c q ≡ Some x → live q ≡ true
live-occupant live kept m c x q h = live-if (live q) (context_by kept m c q) x h

-- two positions that are as live, and whose contexts are equal, have the same occupant
same : (b b' : Bool) (r r' : ContextRecord) → b' ≡ b → r' ≡ r → (if b' then Some r' else None) ≡ (if b then Some r else None)
same b b' r r' e f = ap (λ (x : Bool). if x then Some r' else None) e ∙ ap (λ (y : ContextRecord). if b then Some y else None) f

-- a position below the newest is removed
pub occupant-below : (live live' : ℕ → Bool) (kept kept' : ℕ → ContextRecord) (m m' p : ℕ) (c : ContextRecord)
    → SetAt live live' p false → ((q : ℕ) → (q ≡ p → ⊥) → kept' q ≡ kept q) → m' ≡ m
    → SetAt (occupant_by live kept m c) (occupant_by live' kept' m' c) p None
occupant-below live live' kept kept' m m' p c l k e = record {
  here = occupant-dead live' kept' m' c p l.here;
  others = λ q g. same (live q) (live' q) (context_by kept m c q) (context_by kept' m' c q) (l.others q g)
      (ap (λ (n : ℕ). context_by kept' n c q) e ∙ ap (λ (r : ContextRecord). if q == m then c else r) (k q g));
}

-- the newest is removed: `o` becomes the newest, and its stored context moves beside the slots
pub occupant-newest : (live live' : ℕ → Bool) (kept kept' : ℕ → ContextRecord) (m m' o : ℕ) (c c' : ContextRecord)
    → SetAt live live' m false → ((q : ℕ) → (q ≡ o → ⊥) → kept' q ≡ kept q) → m' ≡ o → (o ≡ m → ⊥) → c' ≡ kept o
    → SetAt (occupant_by live kept m c) (occupant_by live' kept' m' c') m None
occupant-newest live live' kept kept' m m' o c c' l k is_o not_m is_c = record {
  here = occupant-dead live' kept' m' c' m l.here;
  others = λ q g. same (live q) (live' q) (context_by kept m c q) (context_by kept' m' c' q) (l.others q g) (elim (cases_eq q o) [
    | inl e ↦ context-newest kept' m' c' q (e ∙ sym is_o) ∙ is_c ∙ ap kept (sym e) ∙ sym (context-other kept m c q g)
    | inr f ↦ context-other kept' m' c' q (λ e. f (e ∙ is_o)) ∙ k q f ∙ sym (context-other kept m c q g)
  ]);
}

-- position `p` is put above the newest, which stores the context that was beside the slots
pub occupant-above : (live live' : ℕ → Bool) (kept kept' : ℕ → ContextRecord) (m m' p : ℕ) (c c' : ContextRecord)
    → SetAt live live' p true → ((q : ℕ) → (q ≡ p → ⊥) → (q ≡ m → ⊥) → kept' q ≡ kept q) → kept' m ≡ c → m' ≡ p
    → SetAt (occupant_by live kept m c) (occupant_by live' kept' m' c') p (Some c')
occupant-above live live' kept kept' m m' p c c' l k is_c is_p = record {
  here = occupant-live live' kept' m' c' p l.here ∙ ap Some (context-newest kept' m' c' p (sym is_p));
  others = λ q g. same (live q) (live' q) (context_by kept m c q) (context_by kept' m' c' q) (l.others q g) (context-other kept' m' c' q (λ e. g (e ∙ is_p)) ∙ elim (cases_eq q m) [
    | inl e ↦ ap kept' e ∙ is_c ∙ sym (context-newest kept m c q e)
    | inr f ↦ k q g f ∙ sym (context-other kept m c q f)
  ]);
}
