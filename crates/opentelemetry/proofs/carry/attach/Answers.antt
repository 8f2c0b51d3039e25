use Rattle.std.proofs.Common.{◌≡◌, ◌≢◌, ◌<◌, ◌+◌, ◌++◌, ◌∷◌, [], ℕ, Ok, ⊎_elim, arith, sym, ap, ◌∙◌}
use Rattle.std.proofs.lemmas.Bool.{cases_lt}
use Rattle.otel_context.specs.Context.{ContextRecord}
use Rattle.otel_context.specs.Stack.{StackState, Attaches, IsLawful, last_position, no_position, newest_position}
use Rattle.opentelemetry.proofs.carry.attach.Goals as goal

-- the clauses of an attach that returns a position, by whether one was left
module _ {E : Type 0} {context : ContextRecord} {old new : StackState} (position : ℕ) (r : Attaches {E = E} context old new (Ok position)) (lawful : IsLawful old) where
  full : position ≡ no_position → newest_position old.live ≡ last_position
  full p =
      ⊎_elim
      (λ below. let is = (r.accepted below).0 in omega (arith, lawful.within, p, is))
      (λ above. omega (arith, lawful.within, above))
      (cases_lt (newest_position old.live) last_position)

  left : position ≢ no_position → newest_position old.live < last_position
  left p =
      ⊎_elim
      (λ below. below)
      (λ above. let at : newest_position old.live ≡ last_position = omega (arith, lawful.within, above) in absurd (p (r.full at).0))
      (cases_lt (newest_position old.live) last_position)

pub returns-in-Ok-eq65535-clause-outcome : goal.returns-in-Ok-eq65535-clause-outcome
returns-in-Ok-eq65535-clause-outcome c = λ lawful. full _ c.in-Ok-eq65535.ensures.attaches lawful c.in-Ok-eq65535.field-0-test

pub returns-in-Ok-eq65535-clause-after : goal.returns-in-Ok-eq65535-clause-after
returns-in-Ok-eq65535-clause-after c = λ lawful.
    (c.in-Ok-eq65535.ensures.attaches.full (full _ c.in-Ok-eq65535.ensures.attaches lawful c.in-Ok-eq65535.field-0-test)).1

pub returns-in-Ok-eq65535-clause-lawful : goal.returns-in-Ok-eq65535-clause-lawful
returns-in-Ok-eq65535-clause-lawful c = c.push.ensures.attaches.lawful

pub returns-in-Ok-clause-outcome : goal.returns-in-Ok-clause-outcome
returns-in-Ok-clause-outcome c = λ lawful.
    let below = left _ c.in-Ok.ensures.attaches lawful c.in-Ok.position-test.1 in
    (below, (c.in-Ok.ensures.attaches.accepted below).0)

pub returns-in-Ok-clause-after : goal.returns-in-Ok-clause-after
returns-in-Ok-clause-after c = λ lawful.
    let old = c.args.stack.now in
    let now = c.in-Ok.ensures.attaches.accepted (left _ c.in-Ok.ensures.attaches lawful c.in-Ok.position-test.1) in
    now.1 ∙ ap (λ (p : ℕ). record { live = old.live ++ (p, c.args.context) ∷ []; accepted = old.accepted + 1; stepped = old.stepped }) (sym now.0)

pub returns-in-Ok-clause-lawful : goal.returns-in-Ok-clause-lawful
returns-in-Ok-clause-lawful c = c.push.ensures.attaches.lawful

pub returns-in-Err-clause-outcome : goal.returns-in-Err-clause-outcome
returns-in-Err-clause-outcome c = λ lawful. (c.in-Err.ensures.request.past, c.in-Err.ensures.request.left)

pub returns-in-Err-clause-after : goal.returns-in-Err-clause-after
returns-in-Err-clause-after c = λ lawful. c.in-Err.ensures.attaches.err

pub returns-in-Err-clause-lawful : goal.returns-in-Err-clause-lawful
returns-in-Err-clause-lawful c = c.push.ensures.attaches.lawful
