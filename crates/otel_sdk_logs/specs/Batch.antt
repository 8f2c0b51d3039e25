-- The view of processors with a queue.
use Rattle.std.specs.Prelude.{◌≡◌, Bool, List, not, Result}
use Rattle.otel_sdk_base.specs.Export.{Calls}
use Rattle.otel_sdk_base.specs.Queue.{IsForceFlushed, IsShutDown, QueueState, TellsResource}
use Rattle.otel_sdk_base.specs.QueueView as queue
use Rattle.otel_sdk_logs.specs.declared.processor.batch.BatchLogProcessor.{BatchLogProcessor}
use Rattle.otel_sdk_logs.specs.declared.processor.simple.SimpleLogProcessor.{SimpleLogProcessor}
use Rattle.otel_sdk_base.specs.declared.error.OTelSdkError.{OTelSdkError}
use Rattle.otel_sdk_logs.specs.LogRecord.{LogEntry}
use Rattle.otel_sdk_logs.specs.Processor.{LogCalls, after_emit}

-- the state of its queue
abbrev pub state : {E : Type 0} → BatchLogProcessor E → QueueState LogEntry E
state p = queue.state p.queue

-- the view of a processor that exports each record by itself
abbrev pub simple_state : {E : Type 0} → SimpleLogProcessor E → QueueState LogEntry E
simple_state p = state p.inner

-- whether it is open
abbrev pub simple_is_open : {E : Type 0} → SimpleLogProcessor E → Bool
simple_is_open p = not (simple_state p).is_shut_down

module _ {E : Type 0} (accepted : E → List (List LogEntry)) (calls : Calls E) where
  -- A batch processor queues a record, or drops and counts it. Its answers are its exporter's, and
  -- it tells its exporter the resource.
  abbrev pub batch_calls : LogCalls (BatchLogProcessor E)
  batch_calls = record {
    emits = λ old given new. state new ≡ after_emit given (state old);
    flushes = λ old answer new. IsForceFlushed accepted calls answer (state old) (state new);
    shuts_down = λ old answer new. IsShutDown accepted calls answer (state old) (state new);
    takes_resource = λ old resource new.
        TellsResource accepted calls resource (state old) (state new);
  }

  -- A simple one then flushes, with some answer.
  abbrev pub simple_calls : LogCalls (SimpleLogProcessor E)
  simple_calls = record {
    emits = λ old given new. (answer : Result (Unit {0}) OTelSdkError)
        × IsForceFlushed accepted calls answer (after_emit given (simple_state old))
        (simple_state new);
    flushes = λ old answer new.
        IsForceFlushed accepted calls answer (simple_state old) (simple_state new);
    shuts_down = λ old answer new.
        IsShutDown accepted calls answer (simple_state old) (simple_state new);
    takes_resource = λ old resource new.
        TellsResource accepted calls resource (simple_state old) (simple_state new);
  }
