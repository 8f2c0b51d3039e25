use Rattle.std.proofs.Common.{◌≡◌, take}
use Rattle.otel_sdk_base.specs.Export.{items_of}
use Rattle.otel_sdk_base.proofs.in_memory_exporter.InMemoryExporter.get_items.Given as goal

abbrev pub invariant-loop-batch : goal.invariant-loop-batch
invariant-loop-batch g l = l.items.items ≡ items_of (take l.batch-index l.self.accepted)
