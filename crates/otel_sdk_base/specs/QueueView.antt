-- The view of a queue in clauses.
use Rattle.std.specs.Prelude.{ℕ}
use Rattle.std.specs.Vec.{vec_capacity}
use Rattle.otel_sdk_base.specs.declared.queue.Queue.{Queue}
use Rattle.otel_sdk_base.specs.Queue.{QueueState}

module _ {X E : Type 0} where
  -- its parts, without its capacity
  abbrev pub state : Queue X E → QueueState X E
  state q = record {
    exporter = q.exporter;
    queue = q.items.items;
    dropped = q.dropped;
    config = q.config;
    is_shut_down = q.is_shut_down;
  }

  -- how many items it can hold without allocating
  abbrev pub capacity : Queue X E → ℕ
  capacity q = vec_capacity q.items
