use Rattle.std.proofs.Common.{◌∙◌, ◌++◌, ap, List, map, arith}
use Rattle.std.specs.declared.alloc.Global.{Global}
use Rattle.std.specs.declared.vec.Vec.{Vec}
use Rattle.otel_sdk_base.specs.Export.{InMemory}
use Rattle.otel_sdk_base.proofs.shared.BatchLemmas.{joined_more}
use Rattle.otel_sdk_base.proofs.in_memory_exporter.InMemoryExporter.get_items.Goals as goal

pub loop-batch-preserved : goal.loop-batch-preserved
loop-batch-preserved g c =
    c.in_ok-append.ensures
    ∙ ap (λ (xs : List g.row.T.Denot). c.loop-batch.items.items ++ xs) c.as_slice.ensures.value
    ∙ ap (λ (xs : List g.row.T.Denot). xs ++ c.batch-item.result.items) c.loop-batch.invariant
    ∙ joined_more (λ (v : Vec g.row.T.Denot Global). v.items) _ _ c.loop-batch.batch-index c.batch-item.result
    (ap (map (λ (v : Vec g.row.T.Denot Global). v.items)) c.deref-batch-items.ensures.value
    ∙ ap (λ (e : InMemory g.row.T.Denot). e.accepted) c.self.view_is)
    (omega arith) c.batch-item.is
