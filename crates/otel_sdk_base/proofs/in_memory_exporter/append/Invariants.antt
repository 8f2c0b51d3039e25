use Rattle.std.proofs.Common.{◌≡◌, ◌++◌, take}
use Rattle.otel_sdk_base.proofs.in_memory_exporter.append.Given as goal

abbrev pub invariant-loop-item : goal.invariant-loop-item
invariant-loop-item g l = l.copies.items ≡ l.initial.copies.items ++ take l.item-index l.items
