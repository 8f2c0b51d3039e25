-- What a span processor says about its calls, and the state of one with a queue.
use Rattle.std.specs.Prelude.{◌≡◌, ◌⊎◌, ◌^◌, ◌-◌, ◌+◌, ℕ, Bool, true, false, List, [], ◌∷◌, ◌++◌}
use Rattle.std.specs.Prelude.{length, map, max, min, filter, Option, Some, None, Result, Ok, Err}
use Rattle.std.specs.Prelude.{MatchBool, if◌then◌else◌, option_map, ◌==◌}
use Rattle.std.specs.List.{filter_map, flat_map}
use Rattle.std.specs.Option.{option_or}
use Rattle.otel_context.specs.Context.{ContextRecord}
use Rattle.otel_ids.specs.TraceFlags as flags
use Rattle.opentelemetry.specs.SpanSource.{SpanIds}
use Rattle.otel_sdk_base.specs.Export.{Calls, WasShutDown, items_of}
use Rattle.otel_sdk_base.specs.Losses as losses
use Rattle.otel_sdk_base.specs.Queue.{IsForceFlushed, IsShutDown, QueueState, TellsResource}
use Rattle.otel_sdk_base.specs.Queue.{after_add, counted, has_space, received_of}
use Rattle.otel_sdk_base.specs.Resource.{Parts}
use Rattle.otel_sdk_base.specs.declared.error.OTelSdkError.{OTelSdkError}
use Rattle.otel_sdk_base.specs.declared.losses.Losses.{Losses}
use Rattle.otel_sdk_span.specs.Span.{SpanState}
use Rattle.otel_sdk_span.specs.SpanData.{SpanRecord}

-- whether the span is exported: its flag `sampled` is set (OpenTelemetry trace SDK, "Sampling")
abbrev pub is_sampled : SpanRecord → Bool
is_sampled span = flags.is_sampled span.span_context.trace_flags

-- the ids of a span: its span context and, if it recorded data, its parent's id and whether the
-- parent is remote
abbrev pub ids_of : SpanState → SpanIds
ids_of s = record {
  context = s.context;
  parent = option_map (λ d. (d.parent_span_id, d.parent_span_is_remote)) s.recorded;
}

-- the data that the spans recorded, in order
abbrev pub data_of : List SpanState → List SpanRecord
data_of spans = filter_map (λ s. s.recorded) spans

-- ---- calls

-- What a processor says about its calls. Each relates its states before and after.
pub record ProcessorCalls (P : Type 0) : Type 1 where
  -- it was told that the span begins under the parent; afterwards it and the span are these
  pub starts : P → ContextRecord → SpanState → P → SpanState → Type 0
  -- it got the data of a span that ended
  pub ends : P → SpanRecord → P → Type 0
  -- it was told that the data of a span that ended couldn't be copied for it
  pub loses : P → SpanRecord → P → Type 0
  -- it answered this to a flush
  pub flushes : P → Result (Unit {0}) OTelSdkError → P → Type 0
  -- it answered this to a shutdown
  pub shuts_down : P → Result (Unit {0}) OTelSdkError → P → Type 0
  -- it was told the resource of later spans
  pub takes_resource : P → Parts → P → Type 0
  -- whether it is told of spans that end
  pub keeps_ended : P → Bool
  -- whether it was shut down
  pub is_shut_down : P → Bool
  -- it keeps no span that it still has to hand on, unless it was shut down
  pub IsEmpty : P → Type 0
  -- how many sampled spans it dropped
  pub dropped : P → ℕ
  -- how many spans it keeps to hand on
  pub queued : P → ℕ
  -- how many of the sampled spans that ended the receivers don't have, by cause
  pub losses : P → Losses
  -- the last message of a receiver
  pub last_message : P → Option (List ℕ)
  -- the data of the spans that ended there, in order, is where the processor says
  pub AccountsFor : P → List SpanRecord → Type 0

module _ {P : Type 0} (calls : ProcessorCalls P) where
  -- the processor still accounts for the same spans
  abbrev pub KeepsAccount : P → P → Type 0
  KeepsAccount old new = (ended : List SpanRecord) → calls.AccountsFor old ended
      → calls.AccountsFor new ended

  -- the processor now accounts for one more span, the last one
  abbrev pub AddsToAccount : SpanRecord → P → P → Type 0
  AddsToAccount span old new = (ended : List SpanRecord) → calls.AccountsFor old ended
      → calls.AccountsFor new (ended ++ span ∷ [])

  -- the processor took this step, unless it isn't told of spans that end
  abbrev pub IfKeeps : (P → P → Type 0) → P → P → Type 0
  IfKeeps step old new = MatchBool (calls.keeps_ended old) (step old new) (new ≡ old)

  -- the processor got the data of the span, or was told that it couldn't be copied
  abbrev pub HearsOfEnd : SpanRecord → P → P → Type 0
  HearsOfEnd span old new = calls.ends old span new ⊎ calls.loses old span new

-- ---- several processors

-- both answers if they are `Ok`, otherwise the first error
abbrev pub first_error : Result (Unit {0}) OTelSdkError → Result (Unit {0}) OTelSdkError
    → Result (Unit {0}) OTelSdkError
first_error (Err error) second = Err error
first_error (Ok _) second = second

-- A flush or a shutdown of two processors, each with its own step. One that was shut down before is
-- left alone, unless both were: then only the second answers.
abbrev pub OfBoth : {A B : Type 0} → (A → Bool) → (B → Bool)
    → (A → Result (Unit {0}) OTelSdkError → A → Type 0)
    → (B → Result (Unit {0}) OTelSdkError → B → Type 0)
    → (A × B) → Result (Unit {0}) OTelSdkError → (A × B) → Type 0
OfBoth first_closed second_closed First Second old answer new =
    MatchBool (first_closed old.0)
    ((new.0 ≡ old.0) × Second old.1 answer new.1)
    (MatchBool (second_closed old.1)
    (First old.0 answer new.0 × (new.1 ≡ old.1))
    ((first : Result (Unit {0}) OTelSdkError) × (second : Result (Unit {0}) OTelSdkError)
    × First old.0 first new.0 × Second old.1 second new.1
    × (answer ≡ first_error first second)))

-- no processor: nothing happens
abbrev pub none_calls : ProcessorCalls (Unit {0})
none_calls = record {
  starts = λ _ _ span _ begun. begun ≡ span;
  ends = λ _ _ _. Unit {0};
  loses = λ _ _ _. Unit {0};
  flushes = λ _ answer _. answer ≡ Ok tt;
  shuts_down = λ _ answer _. answer ≡ Ok tt;
  takes_resource = λ _ _ _. Unit {0};
  keeps_ended = λ _. false;
  is_shut_down = λ _. true;
  IsEmpty = λ _. Unit {0};
  dropped = λ _. 0;
  queued = λ _. 0;
  losses = λ _. losses.none;
  last_message = λ _. None;
  AccountsFor = λ _ _. Unit {0};
}

-- ---- a processor that may be off

-- the processor, and whether it is off
pub record ConfiguredState (P : Type 0) : Type 0 where
  pub processor : P
  pub is_off : Bool

module _ {P : Type 0} where
  -- the processor took this step, unless it is off: then nothing reaches it
  abbrev pub UnlessOff : (P → P → Type 0) → ConfiguredState P → ConfiguredState P → Type 0
  UnlessOff step old new = MatchBool old.is_off (new ≡ old)
      (step old.processor new.processor × (new ≡ record old { processor = new.processor }))

  -- the processor answered so, unless it is off
  abbrev pub AnswersUnlessOff : (P → Result (Unit {0}) OTelSdkError → P → Type 0)
      → ConfiguredState P → Result (Unit {0}) OTelSdkError → ConfiguredState P → Type 0
  AnswersUnlessOff step old answer new = MatchBool old.is_off ((answer ≡ Ok tt) × (new ≡ old))
      (step old.processor answer new.processor
      × (new ≡ record old { processor = new.processor }))

  -- a processor that may be off
  abbrev pub configured_calls : ProcessorCalls P → ProcessorCalls (ConfiguredState P)
  configured_calls calls = record {
    starts = λ old parent span new begun. MatchBool old.is_off ((begun ≡ span) × (new ≡ old))
        (calls.starts old.processor parent span new.processor begun
        × (new ≡ record old { processor = new.processor }));
    ends = λ old span new. UnlessOff (λ before after. calls.ends before span after) old new;
    loses = λ old span new. UnlessOff (λ before after. calls.loses before span after) old new;
    flushes = AnswersUnlessOff calls.flushes;
    shuts_down = AnswersUnlessOff calls.shuts_down;
    takes_resource = λ old resource new.
        UnlessOff (λ before after. calls.takes_resource before resource after) old new;
    keeps_ended = λ p. if p.is_off then false else calls.keeps_ended p.processor;
    is_shut_down = λ p. if p.is_off then true else calls.is_shut_down p.processor;
    IsEmpty = λ p. p.is_off ≡ false → calls.IsEmpty p.processor;
    dropped = λ p. calls.dropped p.processor;
    queued = λ p. calls.queued p.processor;
    losses = λ p. if p.is_off then losses.none else calls.losses p.processor;
    last_message = λ p. if p.is_off then None else calls.last_message p.processor;
    AccountsFor = λ p ended. p.is_off ≡ false → calls.AccountsFor p.processor ended;
  }

-- two processors in order: each is told of each span, once, and counts what it loses
abbrev pub pair_calls : {A B : Type 0} → ProcessorCalls A → ProcessorCalls B → ProcessorCalls (A × B)
pair_calls a b = record {
  starts = λ old parent span new begun. (between : SpanState)
      × a.starts old.0 parent span new.0 between × b.starts old.1 parent between new.1 begun;
  ends = λ old span new. IfKeeps a (HearsOfEnd a span) old.0 new.0
      × IfKeeps b (λ before after. b.ends before span after) old.1 new.1;
  loses = λ old span new. IfKeeps a (λ before after. a.loses before span after) old.0 new.0
      × IfKeeps b (λ before after. b.loses before span after) old.1 new.1;
  flushes = OfBoth a.is_shut_down b.is_shut_down a.flushes b.flushes;
  shuts_down = OfBoth a.is_shut_down b.is_shut_down a.shuts_down b.shuts_down;
  takes_resource = λ old resource new.
      a.takes_resource old.0 resource new.0 × b.takes_resource old.1 resource new.1;
  keeps_ended = λ p. if a.keeps_ended p.0 then true else b.keeps_ended p.1;
  is_shut_down = λ p. if a.is_shut_down p.0 then b.is_shut_down p.1 else false;
  IsEmpty = λ p. a.IsEmpty p.0 × b.IsEmpty p.1;
  dropped = λ p. min (a.dropped p.0 + b.dropped p.1) (2 ^ 64 - 1);
  queued = λ p. max (a.queued p.0) (b.queued p.1);
  losses = λ p. losses.saturating_add (a.losses p.0) (b.losses p.1);
  last_message = λ p. option_or (a.last_message p.0) (b.last_message p.1);
  AccountsFor = λ p ended. a.AccountsFor p.0 ended × b.AccountsFor p.1 ended;
}

-- ---- a processor with a queue

-- its queue and its exporter, the exporter as it was given, and how many spans that come to the
-- full queue are dropped before it is flushed again
pub record BatchState (E : Type 0) : Type 0 where
  pub queue : QueueState SpanRecord E
  pub given : List E
  pub skips : ℕ

-- a sampled span that ended, and whether it was dropped
pub record Fate : Type 0 where
  pub span : SpanRecord
  pub is_dropped : Bool

-- the span, if it was kept
abbrev pub kept : Fate → Option SpanRecord
kept f = if f.is_dropped then None else Some f.span

-- the span, if it was dropped
abbrev pub dropped : Fate → Option SpanRecord
dropped f = if f.is_dropped then Some f.span else None

module _ {E : Type 0} where
  -- the queue was open before; since then it is unchanged, or it and its exporter were shut down
  -- with no item in it, and it counts the spans that ended later
  abbrev pub WasOpen : Calls E → QueueState SpanRecord E → QueueState SpanRecord E → Type 0
  WasOpen calls before queue = (before.is_shut_down ≡ false) × ((queue ≡ before)
      ⊎ ((before.queue ≡ []) × WasShutDown calls before.exporter queue.exporter
      × (queue ≡ record before {
        exporter = queue.exporter;
        dropped = queue.dropped;
        is_shut_down = true;
      })))

  -- A sampled span is queued last if the queue is open and has space. Otherwise, or out of memory,
  -- it is dropped and counted. Any other span is dropped (OpenTelemetry trace SDK, "Batching
  -- processor").
  abbrev pub Queues : SpanRecord → QueueState SpanRecord E → QueueState SpanRecord E → Type 0
  Queues span old new = MatchBool (is_sampled span)
      (((old.is_shut_down ≡ false) × (new ≡ after_add span old)) ⊎ (new ≡ counted old))
      (new ≡ old)

  -- a sampled span was dropped and counted
  abbrev pub Counts : SpanRecord → QueueState SpanRecord E → QueueState SpanRecord E → Type 0
  Counts span old new = MatchBool (is_sampled span) (new ≡ counted old) (new ≡ old)

  -- Each sampled span that ended is in exactly one place: accepted by the exporter (before its
  -- shutdown), queued, or dropped and counted. The first two, in this order, come after what the
  -- exporter had accepted as it was given, and are in the order of the ends (OpenTelemetry trace
  -- SDK, "Span processor").
  pub record HasReceived (accepted : E → List (List SpanRecord)) (calls : Calls E)
      (p : BatchState E) (ended : List SpanRecord) : Type 0 where
    -- the queue before its shutdown, if it was shut down
    pub before : QueueState SpanRecord E
    pub was_open : WasOpen calls before p.queue
    pub fates : List Fate
    pub sampled : filter is_sampled ended ≡ map (λ f. f.span) fates
    pub received : (received_of accepted before).items
        ≡ items_of (flat_map accepted p.given) ++ filter_map kept fates
    pub counted : p.queue.dropped ≡ min (length (filter_map dropped fates)) (2 ^ 64 - 1)

  -- What the exporter lost or still holds, with the spans that were dropped here, and those that
  -- are queued.
  abbrev pub losses_of : Calls E → QueueState SpanRecord E → Losses
  losses_of calls q = losses.saturating_add (calls.losses q.exporter) (record {
    rejected = 0;
    given_up = 0;
    dropped = q.dropped;
    held = length q.queue;
  })

  -- the same of the queue alone
  abbrev pub OfQueue : (QueueState SpanRecord E → QueueState SpanRecord E → Type 0)
      → BatchState E → BatchState E → Type 0
  OfQueue step old new = step old.queue new.queue
      × (new.given ≡ old.given) × (new.skips ≡ old.skips)

  -- how many spans are then dropped before a flush: none if the queue has space, and if it stayed
  -- full one less than a batch has
  abbrev pub skips_after : QueueState SpanRecord E → ℕ
  skips_after queue = if has_space queue then 0 else queue.config.max_export_batch_size - 1

  -- the queue was flushed with its exporter, and gave the answer
  abbrev pub FlushesQueue : (E → List (List SpanRecord)) → Calls E
      → Result (Unit {0}) OTelSdkError → BatchState E → BatchState E → Type 0
  FlushesQueue accepted calls answer old new =
      IsForceFlushed accepted calls answer old.queue new.queue
      × (new.given ≡ old.given) × (new.skips ≡ skips_after new.queue)

  -- A queue with space stays as it is. One that is full is flushed, unless a flush left it full:
  -- then not before a batch of spans has come to it since.
  abbrev pub MakesSpace : (E → List (List SpanRecord)) → Calls E
      → BatchState E → BatchState E → Type 0
  MakesSpace accepted calls old new = MatchBool (has_space old.queue) (new ≡ old)
      (MatchBool (old.skips == 0)
      ((answer : Result (Unit {0}) OTelSdkError) × FlushesQueue accepted calls answer old new)
      (new ≡ record old { skips = old.skips - 1 }))

  -- space is made for a sampled span, and then it is queued, or dropped and counted
  abbrev pub Collects : (E → List (List SpanRecord)) → Calls E → SpanRecord
      → BatchState E → BatchState E → Type 0
  Collects accepted calls span old new = (between : BatchState E)
      × MatchBool (is_sampled span) (MakesSpace accepted calls old between) (between ≡ old)
      × OfQueue (Queues span) between new

  -- a processor that exports in batches
  abbrev pub batch_calls : (E → List (List SpanRecord)) → Calls E → ProcessorCalls (BatchState E)
  batch_calls accepted calls = record {
    starts = λ old _ span new begun. (new ≡ old) × (begun ≡ span);
    ends = λ old span new. Collects accepted calls span old new;
    loses = λ old span new. OfQueue (Counts span) old new;
    flushes = λ old answer new. FlushesQueue accepted calls answer old new;
    shuts_down = λ old answer new. OfQueue (IsShutDown accepted calls answer) old new;
    takes_resource = λ old resource new. MatchBool old.queue.is_shut_down (new ≡ old)
        (OfQueue (TellsResource accepted calls resource) old new);
    keeps_ended = λ _. true;
    is_shut_down = λ p. p.queue.is_shut_down;
    IsEmpty = λ p. p.queue.is_shut_down ≡ false → p.queue.queue ≡ [];
    dropped = λ p. p.queue.dropped;
    queued = λ p. length p.queue.queue;
    losses = λ p. losses_of calls p.queue;
    last_message = λ p. calls.last_message p.queue.exporter;
    AccountsFor = HasReceived accepted calls;
  }

  -- a processor that exports each span as it ends: it queues the span, and then flushes the queue
  abbrev pub simple_calls : (E → List (List SpanRecord)) → Calls E → ProcessorCalls (BatchState E)
  simple_calls accepted calls = record (batch_calls accepted calls) {
    ends = λ old span new. (between : BatchState E) × OfQueue (Queues span) old between
        × (answer : Result (Unit {0}) OTelSdkError)
        × FlushesQueue accepted calls answer between new;
  }
