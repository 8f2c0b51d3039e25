use Rattle.std.proofs.Common.{[], refl, inr, arith}
use Rattle.otel_context.specs.Stack.{new_stack}
use Rattle.opentelemetry.specs.Progress.{Stands}
use Rattle.opentelemetry.proofs.carry.play.Goals as goal

-- `Stands` before the first event
none : Stands [] [] [] new_stack
none = record {
  legal = record { one_each = refl; each = λ index context at. absurd (cc) };
  live = refl;
  current = inr (record { none = λ number position context s. let at = s.attach in absurd (cc); empty = refl });
  kept_are = refl;
  lawful = record { rising = tt; within = omega arith; heights = refl; law = omega arith };
  accepted = refl;
  stepped = refl;
}

pub returns : goal.returns
returns c = (
  c.apply_all.new.positions.items,
  c.in_ok-apply_all.ensures [] (rw (c.new-outcomes.ensures.items, c.new-positions.ensures.items, c.in_ok-stack.ensures) none),
)
