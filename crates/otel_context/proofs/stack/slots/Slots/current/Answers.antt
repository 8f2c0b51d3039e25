use Rattle.std.proofs.Common.{sym, ap, ◌∙◌}
use Rattle.otel_context.specs.Slots.{SlotsState, live_of}
use Rattle.otel_context.specs.Stack.{current}
use Rattle.otel_context.proofs.LinkLemmas.{linked-current}
use Rattle.otel_context.proofs.stack.slots.Slots.current.Goals as goal

pub returns : goal.returns
returns c = sym (linked-current c.self.inside.current c.self.inside.slots.items c.self.invariant) ∙ ap (λ (s : SlotsState). current (live_of s)) c.self.view_is
