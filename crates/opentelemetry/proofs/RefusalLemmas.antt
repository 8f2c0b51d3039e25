-- The stack after a refusal.
use Rattle.std.proofs.Common.{◌≡◌, ℕ, zero, suc, List, [], ◌∷◌, ◌++◌, length, Some, None, refl, ap, ◌∙◌, add-zero, append-nil}
use Rattle.std.specs.Prelude.{slice_set}
use Rattle.std.specs.List.{slice_get}
use Rattle.std.proofs.lemmas.List.{length-append}
use Rattle.std.proofs.lemmas.List.Elements.{filter_map-append, filter-append}
use Rattle.otel_context.specs.Context.{ContextRecord}
use Rattle.otel_context.specs.Stack.{Live, StackState}
use Rattle.opentelemetry.specs.declared.carry.event.StackEvent.{StackEvent}
use Rattle.opentelemetry.specs.declared.carry.event.StackEvent.TheVariants.{Attach}
use Rattle.opentelemetry.specs.declared.carry.event.AttachOutcome.{AttachOutcome}
use Rattle.opentelemetry.specs.declared.carry.event.AttachOutcome.TheVariants.{Full, NoMemory}
use Rattle.opentelemetry.specs.Run.{attaches_of, attachment_of, left_by, survivors, accepted_of}
use Rattle.opentelemetry.specs.Laws.{RefusalsChangeNothing}
use Rattle.opentelemetry.proofs.RunLemmas.{Left, survivors_of, left_by-attach, left_by-detached}
use Rattle.opentelemetry.proofs.SurvivorLemmas.{those}

-- one more attach adds its remainder
pub survivors-attach : (events : List StackEvent) (outcomes : List AttachOutcome) (context : ContextRecord) (o : AttachOutcome) → length outcomes ≡ attaches_of events
    → survivors (events ++ Attach context ∷ []) (outcomes ++ o ∷ []) ≡ survivors events outcomes ++ survivors_of (attachment_of o context ∷ [])
survivors-attach events outcomes context o n =
    ap survivors_of (left_by-attach 0 events outcomes context o n) ∙ filter_map-append (λ left. left) (left_by 0 events outcomes) (attachment_of o context ∷ [])

-- a place that is empty may be cleared
clear-nothing : (xs : List Left) (n : ℕ) → ((position : ℕ) (context : ContextRecord) → slice_get xs n ≡ Some (Some (position, context)) → ⊥) → slice_set xs n None ≡ xs
clear-nothing [] n h = refl
clear-nothing (None ∷ xs) zero h = refl
clear-nothing (Some a ∷ xs) zero h = absurd (h a.0 a.1 refl)
clear-nothing (x ∷ xs) (suc n) h = ap (λ (l : List Left). x ∷ l) (clear-nothing xs n h)

-- stacks with the same attachments and counts are the same
same_stack : (live live' : Live) (n n' : ℕ) → live ≡ live' → n ≡ n'
    → ◌≡◌ {A = StackState} (record { live = live; accepted = n; stepped = 0 }) (record { live = live'; accepted = n'; stepped = 0 })
same_stack live live' n n' p q = rw (p, q) refl

pub nothing : RefusalsChangeNothing
nothing events outcomes n = record {
  full = λ context. same_stack _ _ _ _ (survivors-attach events outcomes context Full n ∙ append-nil (survivors events outcomes))
      (rw (filter-append, length-append) (add-zero (accepted_of outcomes)));
  no_memory = λ context. same_stack _ _ _ _ (survivors-attach events outcomes context NoMemory n ∙ append-nil (survivors events outcomes))
      (rw (filter-append, length-append) (add-zero (accepted_of outcomes)));
  detach = λ number gone. same_stack _ _ _ _ (ap survivors_of (left_by-detached number events outcomes
      ∙ clear-nothing (left_by 0 events outcomes) number (λ position context e. gone position context ((those events outcomes number position context).0 e)))) refl;
}
