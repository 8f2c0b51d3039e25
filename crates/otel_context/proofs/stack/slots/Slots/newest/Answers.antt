use Rattle.std.proofs.Common.{sym, ap, ◌∙◌}
use Rattle.otel_context.specs.Slots.{SlotsState, live_of}
use Rattle.otel_context.specs.Stack.{newest_position}
use Rattle.otel_context.proofs.LinkLemmas.{linked-newest}
use Rattle.otel_context.proofs.stack.slots.Slots.newest.Goals as goal

pub returns-clause-newest : goal.returns-clause-newest
returns-clause-newest c =
    let xs = c.self.inside.slots.items in
    c.older.ensures ∙ sym (linked-newest c.self.inside.current xs c.self.invariant) ∙ ap (λ (s : SlotsState). newest_position (live_of s)) c.self.view_is
