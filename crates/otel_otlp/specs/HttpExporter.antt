-- An exporter that sends batches to a collector by OTLP over HTTP, and the place of each record.
use Rattle.std.specs.Prelude.{◌≡◌, ◌⊎◌, ℕ, ◌<◌, ◌≤◌, Bool, true, false, List, [], ◌∷◌, ◌++◌, length}
use Rattle.std.specs.Prelude.{Option, Some, None, Result, Ok, Err, ⊤, IsTrue, alloc_error}
use Rattle.std.specs.Prelude.{◌+◌, ◌-◌, ◌^◌, option_map}
use Rattle.std.specs.Prelude.{string_bytes, ◌/◌}
use Rattle.std.specs.List.{flat_map}
use Rattle.std.specs.Result.{result_unwrap_or}
use Rattle.http.specs.Request.{head_of, body_of}
use Rattle.http.specs.declared.request.Parts as http
use Rattle.opentelemetry.specs.Clock.{within_u64}
use Rattle.otel_sdk_base.specs.Export.{Calls, items_of}
use Rattle.otel_sdk_base.specs.Losses.{total}
use Rattle.otel_sdk_base.specs.Resource as resource
use Rattle.otel_sdk_base.specs.Resource.{Parts}
use Rattle.otel_sdk_base.specs.declared.error.OTelSdkError.{OTelSdkError}
use Rattle.otel_sdk_base.specs.declared.error.OTelSdkError.TheVariants as error
use Rattle.otel_sdk_base.specs.declared.losses.Losses.{Losses}
use Rattle.otel_otlp.specs.Groups.{BatchForm}
use Rattle.otel_otlp.specs.HttpClient.{Sent, Answer}
use Rattle.otel_otlp.specs.HttpConfig.{Config, IsHead}
use Rattle.otel_otlp.specs.HttpFate.{IsFate}
use Rattle.otel_otlp.specs.HttpPart.{PartOf, Box, leave, ArePartsOf}
use Rattle.otel_otlp.specs.HttpPart.{count_given_up, count_received, count_rejected}
use Rattle.otel_otlp.specs.HttpPart.{count_waiting}
use Rattle.otel_otlp.specs.HttpPause as pause
use Rattle.otel_otlp.specs.HttpPause.{PauseOf, IsRefused, NamesWait}
use Rattle.otel_otlp.specs.HttpTally as tally
use Rattle.otel_otlp.specs.HttpTally.{TallyOf}
use Rattle.otel_otlp.specs.declared.otlp_http.client.HttpError.TheVariants as failed
use Rattle.otel_otlp.specs.declared.otlp_http.fate.Fate.{Fate}
use Rattle.otel_otlp.specs.declared.otlp_http.fate.Fate.TheVariants as fate
use Rattle.otel_otlp.specs.declared.otlp_http.fate.Refusal.{Refusal}
use Rattle.otel_otlp.specs.declared.otlp_http.response.Partial.{Partial}
use Rattle.otel_otlp.specs.declared.otlp_http.outbox.End.TheVariants.{Taken, GivenUp}

-- the batches that were handed in and accepted, the parts of them that have left and that wait, the
-- counts, the client with the head of its requests, the greatest length of a body, when a refused
-- part may be sent again by the clock, the resource of later items, and whether the exporter was
-- shut down
pub record Sending (C R : Type 0) : Type 0 where
  pub accepted : List (List R)
  pub outbox : Box R
  pub tally : TallyOf
  pub client : C
  pub head : http.Parts
  pub max_body : ℕ
  pub pause : PauseOf
  pub resource : Parts
  pub is_shut_down : Bool

-- a new exporter of the configuration, for the signal with this path
pub record IsNew {C R : Type 0} (client : C) (config : Config) (path : List ℕ)
    (s : Sending C R) : Type 0 where
  pub head : IsHead config path s.head
  pub rest : s ≡ record {
    accepted = [];
    outbox = record { left = []; waiting = [] };
    tally = tally.nothing;
    client = client;
    head = s.head;
    max_body = config.max_body;
    pause = pause.started;
    resource = resource.empty;
    is_shut_down = false;
  }

-- ---- the place of each record Each record of the accepted batches is in exactly one place, in
-- order: first the parts that have left, each taken by the collector or given up, and then the
-- parts that wait. The records that were given up, and those that the collector rejected, are
-- counted, each up to 2 ^ 64 - 1.
pub record IsAccounted {C R : Type 0} (s : Sending C R) : Type 0 where
  pub in_order :
      items_of s.accepted
      ≡ flat_map (λ l. l.items) s.outbox.left ++ flat_map (λ p. p.items) s.outbox.waiting
  pub given_up : s.tally.given_up ≡ within_u64 (count_given_up s.outbox.left)
  pub rejected : s.tally.rejected ≡ within_u64 (count_rejected s.outbox.left)

module _ {C R : Type 0} where
  -- the records of the accepted batches that the collector doesn't have: it rejected them, they
  -- were given up, or they wait
  abbrev pub losses_of : Sending C R → Losses
  losses_of s = record {
    rejected = s.tally.rejected;
    given_up = s.tally.given_up;
    dropped = 0;
    held = within_u64 (count_waiting s.outbox.waiting);
  }

  -- Each record of the accepted batches is counted once: the collector has it, or it is lost, for
  -- one cause. No number stopped at the maximum.
  abbrev pub RecordsAreCounted : Sending C R → Type 0
  RecordsAreCounted s = IsAccounted s → total (losses_of s) < 2 ^ 64 - 1
      → length (items_of s.accepted) ≡ count_received s.outbox.left + total (losses_of s)

-- ---- one part
module _ {C R : Type 0} where
  -- the collector has taken the part that waits first, or that part was given up
  abbrev pub taken : PartOf R → Option Partial → Sending C R → Sending C R
  taken part partial s = record s {
    outbox = leave (Taken (tally.rejected_in partial)) part s.outbox;
    tally = tally.after_taken (length part.items) partial s.tally;
    pause = pause.restarted s.pause;
  }

  abbrev pub given_up : PartOf R → Option (List ℕ) → Sending C R → Sending C R
  given_up part message s = record s {
    outbox = leave GivenUp part s.outbox;
    tally = tally.after_given_up (length part.items) message s.tally;
  }

  -- the batch is accepted, and its parts wait
  abbrev pub handed_in : List R → List (PartOf R) → Sending C R → Sending C R
  handed_in batch parts s = record s {
    accepted = s.accepted ++ batch ∷ [];
    outbox = record s.outbox { waiting = parts };
  }

  -- the batch is accepted, and its parts wait, each as `form` writes it
  abbrev pub HandsIn : BatchForm R → List R → Sending C R → Sending C R → Type 0
  HandsIn form batch old new =
      (parts : List (PartOf R)) × ArePartsOf form old.resource old.max_body batch parts
      × (new ≡ handed_in batch parts old)

  -- the part leaves, after an answer with this meaning
  abbrev pub Ends : PartOf R → Fate → Sending C R → Sending C R → Type 0
  Ends part (fate.Taken told) old new = new ≡ taken part (result_unwrap_or told None) old
  Ends part (fate.GivenUp message) old new =
      new ≡ given_up part (option_map string_bytes (result_unwrap_or message None))
      (record old { pause = pause.restarted old.pause })
  Ends part (fate.Stays refusal) old new = ⊥

  -- the part stays, after an answer with this meaning at this moment, and the error names the wait
  pub record IsKept (now : ℕ) (f : Fate) (old : Sending C R) (why : OTelSdkError)
      (new : Sending C R) : Type 0 where
    pub refusal : Refusal
    pub meaning : f ≡ fate.Stays refusal
    pub refused : IsRefused now refusal old.pause new.pause
    pub names : NamesWait now new.pause why
    pub rest : new ≡ record old { pause = new.pause }

  -- the clock was asked, and showed this moment
  abbrev pub at : ℕ → Sending C R → Sending C R
  at now s = record s { pause = pause.after_reading now s.pause }

-- `sent` and `answers` are the client's: the requests that it was asked to send, and its answers
module _ {C : Type 0} (sent : C → List Sent) (answers : C → Sent → Answer → C → Type 0) where
  -- one request was sent, of this head and this body, and had this answer
  pub record IsSent (head : http.Parts) (body : List ℕ) (old : C) (answer : Answer)
      (new : C) : Type 0 where
    pub request : Sent
    pub head_is : head_of request ≡ head
    pub body_is : (body_of request).items ≡ body
    pub sends : sent new ≡ sent old ++ request ∷ []
    pub answered : answers old request answer new

  -- the same; or nothing was sent, because memory ran out
  abbrev pub IsPosted : http.Parts → List ℕ → C → Answer → C → Type 0
  IsPosted head body old answer new =
      IsSent head body old answer new
      ⊎ ((answer ≡ Err (failed.Memory alloc_error)) × (new ≡ old))

-- `shows` is the clock's: after these moments, and after this answer if there is one, it was asked,
-- and showed this moment. The name is that of the member with the number of rejected items.
module _ {C R : Type 0} (sent : C → List Sent) (answers : C → Sent → Answer → C → Type 0)
    (shows : List ℕ → Option Answer → ℕ → Type 0) (name : List ℕ) where
  -- the part was sent, and the clock was asked once the answer had come; the answer at this moment,
  -- in nanoseconds since 1970, had this meaning
  pub record IsAnswered (part : PartOf R) (old : Sending C R) (now : ℕ) (f : Fate)
      (client : C) : Type 0 where
    pub answer : Answer
    pub posted : IsPosted sent answers old.head part.body old.client answer client
    pub shown : shows old.pause.shown (Some answer) now
    pub means : IsFate name (now / 1000000000) answer f

  -- the part that waits first was sent, as above
  abbrev pub Asks : Sending C R → ℕ → Fate → C → Type 0
  Asks old now f client =
      (part : PartOf R) × (more : List (PartOf R)) × (old.outbox.waiting ≡ part ∷ more)
      × IsAnswered part old now f client

  -- the part is a single item whose body is too long: it is given up, and never sent
  abbrev pub IsTooLong : PartOf R → Sending C R → Sending C R → Type 0
  IsTooLong part old new = (old.max_body < length part.body) × (new ≡ given_up part None old)

  -- the part was sent once, and leaves
  pub record IsFinal (part : PartOf R) (old new : Sending C R) : Type 0 where
    pub fits : length part.body ≤ old.max_body
    pub now : ℕ
    pub meaning : Fate
    pub answered : IsAnswered part old now meaning new.client
    pub ends : Ends part meaning (at now (record old { client = new.client })) new

  -- the part that waits first leaves
  pub record Leaves (old new : Sending C R) : Type 0 where
    pub part : PartOf R
    pub first : old.outbox.waiting ≡ part ∷ new.outbox.waiting
    pub why : IsTooLong part old new ⊎ IsFinal part old new

  -- the part that waits first was sent once, and stays: only the client and the pause change
  pub record Stays (old : Sending C R) (why : OTelSdkError) (new : Sending C R) : Type 0 where
    pub part : PartOf R
    pub more : List (PartOf R)
    pub first : old.outbox.waiting ≡ part ∷ more
    pub fits : length part.body ≤ old.max_body
    pub now : ℕ
    pub refusal : Refusal
    pub answered : IsAnswered part old now (fate.Stays refusal) new.client
    pub refused : IsRefused now refusal (pause.after_reading now old.pause) new.pause
    pub names : NamesWait now new.pause why
    pub rest : new ≡ record old { client = new.client; pause = new.pause }

  -- ---- all parts
  -- The parts leave in order, each after it was sent once, until one stays.
  pub data Delivers : Sending C R → Result ⊤ OTelSdkError → Sending C R → Type 0 where
    all_left : (s : Sending C R) → s.outbox.waiting ≡ [] → Delivers s (Ok tt) s
    leaves : (old mid new : Sending C R) (result : Result ⊤ OTelSdkError)
        → Leaves old mid → Delivers mid result new → Delivers old result new
    stays : (old new : Sending C R) (why : OTelSdkError) → Stays old why new
        → Delivers old (Err why) new

  -- before the moment of the next try, by the clock, nothing is sent, and the error names the wait
  pub record IsTooEarly (old : Sending C R) (result : Result ⊤ OTelSdkError)
      (new : Sending C R) : Type 0 where
    pub now : ℕ
    pub shown : shows old.pause.shown None now
    pub early : now < old.pause.not_before
    pub why : OTelSdkError
    pub refused : result ≡ Err why
    pub names : NamesWait now old.pause why
    pub same : new ≡ at now old

  -- from that moment on the parts are sent
  pub record IsDue (old : Sending C R) (result : Result ⊤ OTelSdkError)
      (new : Sending C R) : Type 0 where
    pub now : ℕ
    pub shown : shows old.pause.shown None now
    pub due : old.pause.not_before ≤ now
    pub delivers : Delivers (at now old) result new

  -- nothing waits, or it is too early, or the parts are sent
  abbrev pub Tries : Sending C R → Result ⊤ OTelSdkError → Sending C R → Type 0
  Tries old result new =
      ((old.outbox.waiting ≡ []) × (result ≡ Ok tt) × (new ≡ old))
      ⊎ (IsTooEarly old result new ⊎ IsDue old result new)

  -- ---- calls
  -- an exporter that was shut down does nothing
  abbrev pub IsClosed : Sending C R → Result ⊤ OTelSdkError → Sending C R → Type 0
  IsClosed old result new =
      IsTrue old.is_shut_down × (result ≡ Err error.AlreadyShutdown) × (new ≡ old)

  -- the parts that wait are tried
  abbrev pub Flushes : Sending C R → Result ⊤ OTelSdkError → Sending C R → Type 0
  Flushes old result new =
      IsClosed old result new ⊎ ((old.is_shut_down ≡ false) × Tries old result new)

  -- the same, and the exporter is shut down
  abbrev pub ShutsDown : Sending C R → Result ⊤ OTelSdkError → Sending C R → Type 0
  ShutsDown old result new =
      IsClosed old result new
      ⊎ ((old.is_shut_down ≡ false) × Tries (record old { is_shut_down = true }) result new)

  -- The batch was accepted: the earlier parts have left, and its own parts were tried.
  pub record Accepts (form : BatchForm R) (batch : List R) (old new : Sending C R) : Type 0 where
    pub mid : Sending C R
    pub earlier : Tries old (Ok tt) mid
    pub parts : List (PartOf R)
    pub are_parts : ArePartsOf form mid.resource mid.max_body batch parts
    pub outcome : Result ⊤ OTelSdkError
    pub tried : Tries (handed_in batch parts mid) outcome new

  -- The batch was refused: the exporter was shut down, or an earlier part stays, or memory ran
  -- out. Nothing of the batch was sent.
  abbrev pub Refuses : Sending C R → OTelSdkError → Sending C R → Type 0
  Refuses old why new =
      IsClosed old (Err why) new
      ⊎ ((old.is_shut_down ≡ false)
      × (Tries old (Err why) new ⊎ ((why ≡ error.Memory alloc_error) × Tries old (Ok tt) new)))

  -- what the exporter says about its calls
  abbrev pub exporter_calls : Calls (Sending C R)
  exporter_calls = record {
    refuses = Refuses;
    flushes = Flushes;
    shuts_down = ShutsDown;
    takes_resource = λ old resource new. new ≡ record old { resource = resource };
    flushed = λ _ _. Unit {0};
    losses = losses_of;
    last_message = λ s. s.tally.last_message;
  }

  -- a shutdown accepts no batch, and drops none
  abbrev pub ShutdownKeepsAccepted : Sending C R → Type 0
  ShutdownKeepsAccepted old = (answer : Result ⊤ OTelSdkError) (new : Sending C R)
      → ShutsDown old answer new → new.accepted ≡ old.accepted
