use Rattle.std.proofs.Common.{arith, rules}
use Rattle.otel_sdk_base.proofs.shared.BatchLemmas.{goes_on, left_of}
use Rattle.otel_sdk_base.proofs.queue.batches.export_batches.Goals as goal

pub loop-left-preserved : goal.loop-left-preserved
loop-left-preserved g c = record {
  exported = goes_on c.args.size c.args.items.now _ _ _ _ _ _ c.min.result c.loop-left.invariant.exported
      (search rules) c.in_default.ensures.ok c.min.ensures c.split_at.ensures.front c.split_at.ensures.back;
  within = omega arith;
  rest = left_of c.args.items.now _ _ c.min.result c.loop-left.invariant.within (omega arith)
      c.loop-left.invariant.rest c.split_at.ensures.back;
  unflushed = λ answers before. c.export.ensures.unflushed answers (c.loop-left.invariant.unflushed answers before);
}
