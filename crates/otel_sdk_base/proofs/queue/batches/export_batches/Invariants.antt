use Rattle.std.proofs.Common.{◌≡◌, ◌≤◌, ◌-◌, length, drop}
use Rattle.otel_sdk_base.specs.Export.{AreExported}
use Rattle.otel_sdk_base.specs.Writers.{FlushesNever}
use Rattle.otel_sdk_base.proofs.queue.batches.export_batches.Given as goal

abbrev pub invariant-loop-left : goal.invariant-loop-left
invariant-loop-left g l = record {
  exported : AreExported l.size l.items (g.E.Exporter.accepted l.initial.exporter)
      (g.E.Exporter.accepted l.exporter) l.left;
  within : length l.left ≤ length l.items;
  rest : l.left ≡ drop (length l.items - length l.left) l.items;
  unflushed : FlushesNever (g.E.Exporter.calls).flushed l.initial.exporter l.exporter;
}

abbrev pub decreases-loop-left : goal.decreases-loop-left
decreases-loop-left g l = length l.left
