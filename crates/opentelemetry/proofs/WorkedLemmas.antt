-- The runs worked by hand.
use Rattle.std.proofs.Common.{ℕ, ◌+◌, ◌<◌, List, [], ◌∷◌, refl, arith}
use Rattle.otel_context.specs.Stack.{last_position}
use Rattle.otel_context.specs.Context.{ContextRecord}
use Rattle.opentelemetry.specs.declared.carry.event.StackEvent.{StackEvent}
use Rattle.opentelemetry.specs.declared.carry.event.StackEvent.TheVariants.{Attach, Detach}
use Rattle.opentelemetry.specs.declared.carry.event.AttachOutcome.{AttachOutcome}
use Rattle.opentelemetry.specs.declared.carry.event.AttachOutcome.TheVariants.{Attached}
use Rattle.opentelemetry.specs.Run.{IsOutcome, Legal}
use Rattle.opentelemetry.specs.WorkedRuns.{three_and_one, their_outcomes, ThreeAndOne, DetachedAgain, DetachedBefore, OldestFirst}
use Rattle.opentelemetry.proofs.RunLemmas.{legal-attach, legal-detach}

pub legal-none : Legal [] []
legal-none = record { one_each = refl; each = λ place context at. cc }

next : (newest : ℕ) → newest < last_position → IsOutcome newest (Attached (newest + 1))
next newest h = (h, refl)

-- after attaches only
one : (a : ContextRecord) → Legal (Attach a ∷ []) (Attached 1 ∷ [])
one a = legal-attach [] [] a (Attached 1) legal-none (next 0 (omega arith))

two : (a b : ContextRecord) → Legal (Attach a ∷ Attach b ∷ []) (Attached 1 ∷ Attached 2 ∷ [])
two a b = legal-attach (Attach a ∷ []) (Attached 1 ∷ []) b (Attached 2) (one a) (next 1 (omega arith))

three : (a b c : ContextRecord) → Legal (Attach a ∷ Attach b ∷ Attach c ∷ []) (Attached 1 ∷ Attached 2 ∷ Attached 3 ∷ [])
three a b c = legal-attach (Attach a ∷ Attach b ∷ []) (Attached 1 ∷ Attached 2 ∷ []) c (Attached 3) (two a b) (next 2 (omega arith))

four : (a b c d : ContextRecord) → Legal (three_and_one a b c d) their_outcomes
four a b c d =
    let three_kept : List StackEvent = Attach a ∷ Attach b ∷ Attach c ∷ [] in
    let outcomes : List AttachOutcome = Attached 1 ∷ Attached 2 ∷ Attached 3 ∷ [] in
    legal-attach (Attach a ∷ Attach b ∷ Attach c ∷ Detach 1 ∷ Detach 2 ∷ []) outcomes d (Attached 2)
    (legal-detach (Attach a ∷ Attach b ∷ Attach c ∷ Detach 1 ∷ []) outcomes 2 (legal-detach three_kept outcomes 1 (three a b c)))
    (next 1 (omega arith))

pub three_is : ThreeAndOne
three_is a b c d = record { legal = four a b c d; first_detach = refl; second_detach = refl; all = refl; current = refl }

pub again_is : DetachedAgain
again_is a b c d = record { legal = legal-detach (three_and_one a b c d) their_outcomes 1 (four a b c d); all = refl; current = refl }

pub before_is : DetachedBefore
before_is a = record {
  legal_alone = alone;
  alone = refl;
  base = refl;
  legal = legal-attach (Detach 0 ∷ []) [] a (Attached 1) alone (next 0 (omega arith));
  all = refl;
  current = refl;
} where
  alone : Legal (Detach 0 ∷ []) []
  alone = legal-detach [] [] 0 legal-none

pub oldest_is : OldestFirst
oldest_is a b = record {
  legal =
      let outcomes : List AttachOutcome = Attached 1 ∷ Attached 2 ∷ [] in
      legal-detach (Attach a ∷ Attach b ∷ Detach 0 ∷ []) outcomes 1 (legal-detach (Attach a ∷ Attach b ∷ []) outcomes 0 (two a b));
  first_detach = refl;
  still_current = refl;
  all = refl;
  base = refl;
}
