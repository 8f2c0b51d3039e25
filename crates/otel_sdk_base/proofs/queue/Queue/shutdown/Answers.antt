use Rattle.std.proofs.Common.{refl, rules}
use Rattle.otel_sdk_base.specs.QueueView.{state}
use Rattle.otel_sdk_base.proofs.queue.Queue.shutdown.Goals as goal

pub returns : goal.returns
returns g c = (
  (
    search rules,
    search rules,
    λ was_open _. record {
      flushed = state c.force_flush.new.self;
      is_flushed = c.in_ok-force_flush.ensures.0.0;
      is_empty = c.in_ok-force_flush.ensures.0.2;
      flush = c.in_ok-force_flush.ensures.0.4 was_open;
      exporter = c.shutdown-outcome.ensures;
      closed = refl;
    },
  ),
  search rules,
)
