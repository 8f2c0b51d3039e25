use Rattle.std.proofs.Common.{None, ◌+◌, ◌≡◌, ◌<◌, ◌≤◌, length, slice_index, take}
use Rattle.std.specs.FinMap.Entries.{find}
use Rattle.otel_context.specs.View.{pairs, slots, text_cmp}
use Rattle.otel_context.proofs.context.entries.Table.get_older.Given as goal

-- the entry at this index is in the slot
abbrev pub invariant-loop-first : goal.invariant-loop-first
invariant-loop-first l =
    (l.first ≤ l.end) × (l.first < length l.self.items.items) × (slice_index (slots l.self.items.items) l.first ≡ l.slot)

abbrev pub decreases-loop-first : goal.decreases-loop-first
decreases-loop-first l = l.first

-- none so far has the name
abbrev pub invariant-loop-older : goal.invariant-loop-older
invariant-loop-older l =
    find text_cmp l.key (pairs (take (l.first + l.older-index) l.self.items.items)) ≡ None
