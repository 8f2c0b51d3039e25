use Rattle.std.proofs.Common.{◌≡◌, ℕ, zero, suc, ◌+◌, ◌<◌, Bool, true, false, ◌||◌, List, [], ◌∷◌, take, Some, None, refl, sym, ap, ◌∙◌, arith, inl, inr}
use Rattle.std.specs.Prelude.{◌==◌, if◌then◌else◌}
use Rattle.std.specs.List.{list_any, slice_get}
use Rattle.std.proofs.lemmas.Bool.{cases_Bool, eq-eqb, eqb-true, false≢true}
use Rattle.otel_context.specs.Context.{ContextRecord}
use Rattle.opentelemetry.specs.Run.{attaches_of, detaches, attachment_of, left_by, Survives}
use Rattle.opentelemetry.specs.Laws.{SurvivorsAreThose}
use Rattle.opentelemetry.specs.declared.carry.event.StackEvent.{StackEvent}
use Rattle.opentelemetry.specs.declared.carry.event.StackEvent.TheVariants.{Attach, Detach}
use Rattle.opentelemetry.specs.declared.carry.event.AttachOutcome.{AttachOutcome}
use Rattle.opentelemetry.specs.declared.carry.event.AttachOutcome.TheVariants.{Attached, Full, NoMemory}

-- `Survives` if the first attach of the events has the number `k`
record Kept (k : ℕ) (events : List StackEvent) (outcomes : List AttachOutcome) (j position : ℕ) (context : ContextRecord) : Type 0 where
  index : ℕ
  attach : slice_get events index ≡ Some (Attach context)
  number_is : attaches_of (take index events) ≡ j
  accepted : slice_get outcomes j ≡ Some (Attached position)
  kept : (later : ℕ) → index < later → slice_get events later ≡ Some (Detach (k + j)) → ⊥

-- if `list_any` finds no detach of the number, no event is one
none-detaches : (k : ℕ) (events : List StackEvent) → list_any (detaches k) events ≡ false → (i : ℕ) → slice_get events i ≡ Some (Detach k) → ⊥
none-detaches k [] h i e = cc
none-detaches k (Attach c ∷ events) h zero e = cc
none-detaches k (Attach c ∷ events) h (suc i) e = none-detaches k events h i e
none-detaches k (Detach n ∷ events) h zero e = let same : n ≡ k = cc in false≢true (sym h ∙ ap (λ b. b || list_any (detaches k) events) (eq-eqb n k same))
none-detaches k (Detach n ∷ events) h (suc i) e = elim (cases_Bool (n == k)) [
  | inl t ↦ false≢true (sym h ∙ ap (λ b. b || list_any (detaches k) events) t)
  | inr f ↦ none-detaches k events (sym (ap (λ b. b || list_any (detaches k) events) f) ∙ h) i e
]

detaches-none : (k : ℕ) (events : List StackEvent) → ((i : ℕ) → slice_get events i ≡ Some (Detach k) → ⊥) → list_any (detaches k) events ≡ false
detaches-none k [] h = refl
detaches-none k (Attach c ∷ events) h = detaches-none k events (λ i. h (suc i))
detaches-none k (Detach n ∷ events) h = elim (cases_Bool (n == k)) [
  | inl t ↦ absurd (h 0 (ap (λ m. Some (Detach m)) (eqb-true n k t)))
  | inr f ↦ ap (λ b. b || list_any (detaches k) events) f ∙ detaches-none k events (λ i. h (suc i))
]

-- the remainder of one attach, and when it has one
left_is : (b : Bool) (o : AttachOutcome) (c context : ContextRecord) (position : ℕ) → (if b then None else attachment_of o c) ≡ Some (position, context) → (b ≡ false) × (o ≡ Attached position) × (c ≡ context)
left_is true o c context position e = absurd (cc)
left_is false (Attached p) c context position e = let h : (p, c) ≡ (position, context) = cc in (refl, ap (λ (a : ℕ × ContextRecord). Attached a.0) h, ap (λ (a : ℕ × ContextRecord). a.1) h)
left_is false Full c context position e = absurd (cc)
left_is false NoMemory c context position e = absurd (cc)

-- whatever holds for the events after `index` holds for the events after the next index, once there
-- is one more event before
later-suc : (e : StackEvent) (events : List StackEvent) (index m : ℕ) → ((l : ℕ) → index < l → slice_get events l ≡ Some (Detach m) → ⊥) → (later : ℕ) → suc index < later → slice_get (e ∷ events) later ≡ Some (Detach m) → ⊥
later-suc e events index m kept zero h d = omega arith
later-suc e events index m kept (suc l) h d = kept l (omega arith) d

later-first : (c : ContextRecord) (events : List StackEvent) (k m : ℕ) → m ≡ k → list_any (detaches k) events ≡ false → (later : ℕ) → 0 < later → slice_get (Attach c ∷ events) later ≡ Some (Detach m) → ⊥
later-first c events k m same none zero h d = omega arith
later-first c events k m same none (suc l) h d = none-detaches k events none l (d ∙ ap (λ n. Some (Detach n)) same)

forth : (k : ℕ) (events : List StackEvent) (outcomes : List AttachOutcome) (j position : ℕ) (context : ContextRecord)
    → slice_get (left_by k events outcomes) j ≡ Some (Some (position, context)) → Kept k events outcomes j position context
forth k [] outcomes j position context e = absurd (cc)
forth k (Detach n ∷ events) outcomes j position context e =
    let it = forth k events outcomes j position context e in
    record { index = suc it.index; attach = it.attach; number_is = it.number_is; accepted = it.accepted; kept = later-suc (Detach n) events it.index (k + j) it.kept }
forth k (Attach c ∷ events) [] zero position context e = absurd (cc)
forth k (Attach c ∷ events) [] (suc j) position context e = let ih = forth (k + 1) events [] j position context e in absurd (let h : None ≡ Some (Attached position) = ih.accepted in cc)
forth k (Attach c ∷ events) (o ∷ outcomes) zero position context e =
    let h : (if list_any (detaches k) events then None else attachment_of o c) ≡ Some (position, context) = cc in
    let parts = left_is (list_any (detaches k) events) o c context position h in
    record { index = 0; attach = ap (λ x. Some (Attach x)) parts.2; number_is = refl; accepted = ap (λ x. Some x) parts.1; kept = later-first c events k (k + 0) (omega arith) parts.0 }
forth k (Attach c ∷ events) (o ∷ outcomes) (suc j) position context e =
    let it = forth (k + 1) events outcomes j position context e in
    let same : k + suc j ≡ (k + 1) + j = omega arith in
    record {
      index = suc it.index;
      attach = it.attach;
      number_is = ap suc it.number_is;
      accepted = it.accepted;
      kept = later-suc (Attach c) events it.index (k + suc j) (λ l h d. it.kept l h (d ∙ ap (λ n. Some (Detach n)) same));
    }

back : (k : ℕ) (events : List StackEvent) (outcomes : List AttachOutcome) (j position : ℕ) (context : ContextRecord)
    → (index : ℕ) → slice_get events index ≡ Some (Attach context) → attaches_of (take index events) ≡ j → slice_get outcomes j ≡ Some (Attached position)
    → ((later : ℕ) → index < later → slice_get events later ≡ Some (Detach (k + j)) → ⊥) → slice_get (left_by k events outcomes) j ≡ Some (Some (position, context))
back k [] outcomes j position context index at number accepted kept = absurd (cc)
back k (Detach n ∷ events) outcomes j position context zero at number accepted kept = absurd (cc)
back k (Detach n ∷ events) outcomes j position context (suc i) at number accepted kept =
    back k events outcomes j position context i at number accepted (λ later h. kept (suc later) (omega arith))
back k (Attach c ∷ events) [] j position context index at number accepted kept = absurd (cc)
back k (Attach c ∷ events) (o ∷ outcomes) zero position context zero at number accepted kept =
    let same : k ≡ k + 0 = omega arith in
    let none = detaches-none k events (λ i d. kept (suc i) (omega arith) (d ∙ ap (λ n. Some (Detach n)) same)) in
    let out : o ≡ Attached position = cc in
    let held : c ≡ context = cc in
    rw (none, out, held) refl
back k (Attach c ∷ events) (o ∷ outcomes) zero position context (suc i) at number accepted kept = absurd (omega (arith, number))
back k (Attach c ∷ events) (o ∷ outcomes) (suc j) position context zero at number accepted kept = absurd (omega (arith, number))
back k (Attach c ∷ events) (o ∷ outcomes) (suc j) position context (suc i) at number accepted kept =
    let same : (k + 1) + j ≡ k + suc j = omega arith in
    let number' : suc (attaches_of (take i events)) ≡ suc j = number in
    back (k + 1) events outcomes j position context i at (omega arith) accepted (λ later h d. kept (suc later) (omega arith) (d ∙ ap (λ n. Some (Detach n)) same))

pub those : SurvivorsAreThose
those events outcomes number position context = (there, here) where
  there : slice_get (left_by 0 events outcomes) number ≡ Some (Some (position, context)) → Survives events outcomes number position context
  there e = let it = forth 0 events outcomes number position context e in record {
    index = it.index;
    attach = it.attach;
    number_is = it.number_is;
    accepted = it.accepted;
    kept = λ later h d. it.kept later h (let n : number ≡ 0 + number = omega arith in d ∙ ap (λ m. Some (Detach m)) n);
  }

  here : Survives events outcomes number position context → slice_get (left_by 0 events outcomes) number ≡ Some (Some (position, context))
  here s = back 0 events outcomes number position context s.index s.attach s.number_is s.accepted (λ later h d. s.kept later h (let n : 0 + number ≡ number = omega arith in d ∙ ap (λ m. Some (Detach m)) n))
