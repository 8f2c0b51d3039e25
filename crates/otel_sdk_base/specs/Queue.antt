-- The queue of a processor: its limits, its items, and the effects of its calls.
use Rattle.std.specs.Prelude.{◌≡◌, ◌⊎◌, ℕ, ◌+◌, ◌-◌, ◌^◌, Bool, true, false, List, [], ◌∷◌, ◌++◌}
use Rattle.std.specs.Prelude.{length, Result, Ok, IsErr, IsErrAnd, IsErrOf, IsTrue, OnOk, not}
use Rattle.std.specs.Prelude.{nat_lt, min, max, if◌then◌else◌, alloc_error, refl}
use Rattle.otel_sdk_base.specs.Export.{AreExported, AreExportedUpTo, Calls, items_of, refuses_with}
use Rattle.otel_sdk_base.specs.Resource.{Parts}
use Rattle.otel_sdk_base.specs.Writers.{FlushesOnce}
use Rattle.otel_sdk_base.specs.declared.error.OTelSdkError.{OTelSdkError}
use Rattle.otel_sdk_base.specs.declared.error.OTelSdkError.TheVariants.{AlreadyShutdown, Memory}

-- ---- what a processor received
-- The items that a processor received and keeps, in order: the items that its exporter accepted,
-- followed by the queued items. Also how many items it dropped.
pub record Received (X : Type 0) : Type 0 where
  pub items : List X
  pub dropped : ℕ

-- one more, up to the greatest `u64`
abbrev pub one_more : ℕ → ℕ
one_more count = min (count + 1) (2 ^ 64 - 1)

module _ {X : Type 0} where
  -- the item is now the last one
  abbrev pub with_last : X → Received X → Received X
  with_last item received = record received { items = received.items ++ item ∷ [] }

  -- one more was dropped
  abbrev pub with_dropped : Received X → Received X
  with_dropped received = record received { dropped = one_more received.dropped }

  -- The item is kept, as the last one, or dropped and counted.
  abbrev pub IsKeptOrDropped : X → Received X → Received X → Type 0
  IsKeptOrDropped item old new = (new ≡ with_last item old) ⊎ (new ≡ with_dropped old)

-- ---- limits
-- The maximum numbers of queued items and of items in a batch (OpenTelemetry trace SDK and logs
-- SDK, "Batching processor")
pub record Limits : Type 0 where
  pub max_queue_size : ℕ
  pub max_export_batch_size : ℕ

-- the effective limits: 0 is treated as 1, and a batch's limit is at most the queue's (own)
abbrev pub effective : Limits → Limits
effective given = record {
  max_queue_size = max given.max_queue_size 1;
  max_export_batch_size = min (max given.max_export_batch_size 1) (max given.max_queue_size 1);
}

-- the limits if none are given (OpenTelemetry trace SDK and logs SDK, "Batching processor")
abbrev pub default_limits : Limits
default_limits = record { max_queue_size = 2048; max_export_batch_size = 512 }

-- the limits of a processor that exports each item by itself
abbrev pub single_limits : Limits
single_limits = record { max_queue_size = 2048; max_export_batch_size = 1 }

-- ---- the queue
-- The exporter, the items that are queued in order, how many were dropped, the limits, and whether
-- it was shut down.
pub record QueueState (X E : Type 0) : Type 0 where
  pub exporter : E
  pub queue : List X
  pub dropped : ℕ
  pub config : Limits
  pub is_shut_down : Bool

module _ {X E : Type 0} where
  -- without items, and open
  abbrev pub new : E → Limits → QueueState X E
  new exporter config = record {
    exporter = exporter;
    queue = [];
    dropped = 0;
    config = config;
    is_shut_down = false;
  }

  -- the items that it received: the accepted ones, followed by the queued ones
  abbrev pub received_of : (E → List (List X)) → QueueState X E → Received X
  received_of accepted q = record {
    items = items_of (accepted q.exporter) ++ q.queue;
    dropped = q.dropped;
  }

  -- the item is queued last
  abbrev pub queued : X → QueueState X E → QueueState X E
  queued item q = record q { queue = q.queue ++ item ∷ [] }

  -- one more item was dropped
  abbrev pub counted : QueueState X E → QueueState X E
  counted q = record q { dropped = one_more q.dropped }

  -- whether one more item can be queued
  abbrev pub has_space : QueueState X E → Bool
  has_space q = nat_lt (length q.queue) q.config.max_queue_size

  -- after an item is added: it is queued last, or dropped and counted if the queue is full
  -- (OpenTelemetry trace SDK and logs SDK, "Batching processor")
  abbrev pub after_add : X → QueueState X E → QueueState X E
  after_add item q = if has_space q then queued item q else counted q

  -- why an item is refused: the queue was shut down, or memory ran out
  abbrev pub cause : QueueState X E → OTelSdkError
  cause q = if q.is_shut_down then AlreadyShutdown else Memory alloc_error

  -- The first batches of the queue were accepted, and the queue keeps the rest. Besides the queue,
  -- only the exporter changes.
  pub record IsFlushed (accepted : E → List (List X)) (old new : QueueState X E) : Type 0 where
    pub exported : AreExported old.config.max_export_batch_size old.queue
        (accepted old.exporter) (accepted new.exporter) new.queue
    pub same : new ≡ record old { exporter = new.exporter; queue = new.queue }

  -- the first batches of the queue were accepted, and then the exporter took this step
  abbrev pub IsFlushedUpTo : (E → List (List X)) → (E → E → Type 0)
      → QueueState X E → QueueState X E → Type 0
  IsFlushedUpTo accepted Step old new =
      AreExportedUpTo accepted Step old.config.max_export_batch_size old.queue new.queue
      old.exporter new.exporter

  -- The answer is the exporter's: the error with which it refused a batch, or, if it accepted all
  -- of them, what it answered to one flush.
  abbrev pub IsExportersAnswer : (E → List (List X)) → Calls E → Result (Unit {0}) OTelSdkError
      → QueueState X E → QueueState X E → Type 0
  IsExportersAnswer accepted calls answer old new =
      IsErrAnd answer (λ error. IsFlushedUpTo accepted (refuses_with calls error) old new)
      ⊎ ((new.queue ≡ [])
      × IsFlushedUpTo accepted (λ before after. calls.flushes before answer after) old new
      × FlushesOnce calls.flushed answer old.exporter new.exporter)

  -- The queue was flushed with its exporter, and is empty; then its exporter was shut down, which
  -- gave the answer, and it is closed.
  pub record IsClosed (accepted : E → List (List X)) (calls : Calls E)
      (answer : Result (Unit {0}) OTelSdkError) (old new : QueueState X E) : Type 0 where
    pub flushed : QueueState X E
    pub is_flushed : IsFlushed accepted old flushed
    pub is_empty : flushed.queue ≡ []
    pub flush : IsExportersAnswer accepted calls (Ok tt) old flushed
    pub exporter : calls.shuts_down flushed.exporter answer new.exporter
    pub closed : new ≡ record flushed { exporter = new.exporter; is_shut_down = true }

  -- a call after a shutdown changes nothing
  abbrev pub IsRefusedIfClosed : Result (Unit {0}) OTelSdkError
      → QueueState X E → QueueState X E → Type 0
  IsRefusedIfClosed answer old new =
      IsTrue old.is_shut_down → IsErrOf answer AlreadyShutdown × (new ≡ old)

  -- a shutdown that leaves the queue open failed in the flush, and gives the flush's error
  abbrev pub FailedIfOpen : (E → List (List X)) → Calls E → Result (Unit {0}) OTelSdkError
      → QueueState X E → QueueState X E → Type 0
  FailedIfOpen accepted calls answer old new =
      IsTrue (not new.is_shut_down) → IsErr answer × IsFlushed accepted old new
      × IsExportersAnswer accepted calls answer old new

  -- a shutdown that closes the queue flushed it first
  abbrev pub FlushedIfClosed : (E → List (List X)) → Calls E → Result (Unit {0}) OTelSdkError
      → QueueState X E → QueueState X E → Type 0
  FlushedIfClosed accepted calls answer old new = IsTrue (not old.is_shut_down)
      → IsTrue new.is_shut_down → IsClosed accepted calls answer old new

  -- A flush exports the first batches, or all of them if it succeeds. The received items stay the
  -- same. The answer of an open queue is its exporter's.
  abbrev pub IsForceFlushed : (E → List (List X)) → Calls E → Result (Unit {0}) OTelSdkError
      → QueueState X E → QueueState X E → Type 0
  IsForceFlushed accepted calls answer old new =
      IsFlushed accepted old new × (received_of accepted new ≡ received_of accepted old)
      × OnOk answer (new.queue ≡ []) × IsRefusedIfClosed answer old new
      × (IsTrue (not old.is_shut_down) → IsExportersAnswer accepted calls answer old new)

  -- A shutdown of an open queue flushes it, and closes it if the flush succeeded.
  abbrev pub IsShutDown : (E → List (List X)) → Calls E → Result (Unit {0}) OTelSdkError
      → QueueState X E → QueueState X E → Type 0
  IsShutDown accepted calls answer old new =
      IsRefusedIfClosed answer old new × FailedIfOpen accepted calls answer old new
      × FlushedIfClosed accepted calls answer old new

  -- Only the exporter changes: it is told the resource. The items that it accepted stay the same.
  abbrev pub TellsResource : (E → List (List X)) → Calls E → Parts
      → QueueState X E → QueueState X E → Type 0
  TellsResource accepted calls resource old new =
      (accepted new.exporter ≡ accepted old.exporter)
      × (new ≡ record old { exporter = new.exporter })
      × (received_of accepted new ≡ received_of accepted old)
      × calls.takes_resource old.exporter resource new.exporter

-- ---- worked rows
limits_example : effective (record { max_queue_size = 2; max_export_batch_size = 4 })
    ≡ record { max_queue_size = 2; max_export_batch_size = 2 }
limits_example = refl

no_limits_example : effective (record { max_queue_size = 0; max_export_batch_size = 0 })
    ≡ record { max_queue_size = 1; max_export_batch_size = 1 }
no_limits_example = refl
