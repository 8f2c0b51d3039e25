use Rattle.std.proofs.Common.{ℕ, ◌≡◌, ◌<◌, length, min, slice_index}
use Rattle.otel_context.specs.View.{slots, IsLast}
use Rattle.otel_context.proofs.context.entries.lasts_of.Given as goal

-- the table is right for the entries so far, and the next index is the number of these, or 254
abbrev pub invariant-loop-entry : goal.invariant-loop-entry
invariant-loop-entry l =
    (length l.lasts ≡ 128) × (l.index ≡ min l.entry-index 254)
    × ((s : ℕ) → s < 128 → IsLast (slots l.items) l.entry-index s (slice_index l.lasts s))
