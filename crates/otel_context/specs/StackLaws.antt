-- The laws of the live attachments of every stack, for callers to cite.
use Rattle.std.specs.Prelude.{◌≡◌, ◌≢◌, ◌≤◌, ◌+◌, ◌==◌, ℕ, not, filter}
use Rattle.otel_context.specs.Context.{ContextRecord}
use Rattle.otel_context.specs.Stack.{Live, StackState, IsLawful, positions, newest_position}
use Rattle.otel_context.specs.Stack.{current, context_at, detach, attach}

-- detaching the newest attachment restores the attachments before it
abbrev pub DetachRestores : Type 0
DetachRestores = (stack : StackState) (context : ContextRecord) → IsLawful stack
    → detach (newest_position stack.live + 1) (attach context stack.live) ≡ stack.live

-- the newest attachment is current
abbrev pub AttachIsCurrent : Type 0
AttachIsCurrent = (live : Live) (context : ContextRecord) → current (attach context live) ≡ context

-- an attach leaves every attachment at its position
abbrev pub AttachLeavesAll : Type 0
AttachLeavesAll = (live : Live) (context : ContextRecord) (p : ℕ) → p ≤ newest_position live
    → context_at p (attach context live) ≡ context_at p live

-- a removal leaves every other attachment at its position
abbrev pub RemovalLeavesOthers : Type 0
RemovalLeavesOthers = (live : Live) (p q : ℕ) → p ≢ q
    → context_at q (detach p live) ≡ context_at q live

-- and keeps their order
abbrev pub RemovalKeepsOrder : Type 0
RemovalKeepsOrder = (live : Live) (p : ℕ)
    → positions (detach p live) ≡ filter (λ q. not (q == p)) (positions live)
