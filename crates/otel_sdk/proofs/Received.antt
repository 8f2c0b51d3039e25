-- A processor with a queue accounts for the spans that ended there.
use Rattle.std.proofs.Common.{◌≡◌, ◌∙◌, ℕ, ◌+◌, ◌-◌, ◌^◌, min, Bool, true, false, List, [], ◌∷◌, ◌++◌, Option, Some, None, refl, sym, ap, subst, inl, inr, length, map, append_assoc, append-nil, Result, arith}
use Rattle.std.specs.Prelude.{IsTrue, if◌then◌else◌, nat_lt, not, filter, ◌⊎◌, MatchBool, ◌==◌}
use Rattle.std.specs.List.{cons_option, filter_map, flat_map}
use Rattle.std.proofs.lemmas.List.{map-append, length-append}
use Rattle.std.proofs.lemmas.List.Elements.{filter-append, filter_map-append}
use Rattle.otel_sdk.specs.Processor.{BatchState, Collects, Counts, Fate, FlushesQueue, HasReceived, MakesSpace, OfQueue, Queues, WasOpen, data_of, dropped, is_sampled, kept}
use Rattle.otel_sdk_base.specs.Export.{Calls, items_of}
use Rattle.otel_sdk_base.specs.Queue.{IsClosed, IsFlushed, IsForceFlushed, IsShutDown, Limits, QueueState, TellsResource, counted, has_space, new as new_queue, one_more, queued, received_of}
use Rattle.otel_sdk_base.specs.Resource.{Parts}
use Rattle.otel_sdk_base.specs.declared.error.OTelSdkError.{OTelSdkError}
use Rattle.otel_sdk_base.proofs.shared.BatchLemmas.{keeps}
use Rattle.otel_sdk_span.specs.Span.{SpanState}
use Rattle.otel_sdk_span.specs.SpanData.{SpanRecord}

up_to : (n m : ℕ) → m ≡ n + 1 → min (min n (2 ^ 64 - 1) + 1) (2 ^ 64 - 1) ≡ min m (2 ^ 64 - 1)
up_to n m e = grind arith

-- ---- one more fate

fate_of : SpanRecord → Bool → Fate
fate_of d b = record { span = d; is_dropped = b }

-- the sampled spans with one more at the end
more_sampled : (d : SpanRecord) (ended : List SpanRecord) → is_sampled d ≡ true
    → filter is_sampled (ended ++ d ∷ []) ≡ filter is_sampled ended ++ d ∷ []
more_sampled d ended e = filter-append is_sampled ended (d ∷ [])
    ∙ ap (λ (b : Bool). filter is_sampled ended ++ (if b then d ∷ [] else [])) e

same_sampled : (d : SpanRecord) (ended : List SpanRecord) → is_sampled d ≡ false
    → filter is_sampled (ended ++ d ∷ []) ≡ filter is_sampled ended
same_sampled d ended e = filter-append is_sampled ended (d ∷ [])
    ∙ ap (λ (b : Bool). filter is_sampled ended ++ (if b then d ∷ [] else [])) e ∙ append-nil (filter is_sampled ended)

with_fate : (d : SpanRecord) (b : Bool) (xs : List SpanRecord) (fates : List Fate) → xs ≡ map (λ f. f.span) fates
    → xs ++ d ∷ [] ≡ map (λ (f : Fate). f.span) (fates ++ record { span = d; is_dropped = b } ∷ [])
with_fate d b xs fates e =
    let last : Fate = record { span = d; is_dropped = b } in
    ap (λ (ys : List SpanRecord). ys ++ d ∷ []) e ∙ sym (map-append (λ (f : Fate). f.span) fates (last ∷ []))

one_kept : (d : SpanRecord) (fates : List Fate)
    → filter_map kept (fates ++ record { span = d; is_dropped = false } ∷ []) ≡ filter_map kept fates ++ d ∷ []
one_kept d fates = let last : Fate = record { span = d; is_dropped = false } in filter_map-append kept fates (last ∷ [])

none_kept : (d : SpanRecord) (fates : List Fate)
    → filter_map kept (fates ++ record { span = d; is_dropped = true } ∷ []) ≡ filter_map kept fates
none_kept d fates =
    let last : Fate = record { span = d; is_dropped = true } in
    filter_map-append kept fates (last ∷ []) ∙ append-nil (filter_map kept fates)

none_dropped : (d : SpanRecord) (fates : List Fate)
    → length (filter_map dropped (fates ++ record { span = d; is_dropped = false } ∷ [])) ≡ length (filter_map dropped fates)
none_dropped d fates =
    let last : Fate = record { span = d; is_dropped = false } in
    ap length (filter_map-append dropped fates (last ∷ []) ∙ append-nil (filter_map dropped fates))

one_dropped : (d : SpanRecord) (fates : List Fate)
    → length (filter_map dropped (fates ++ record { span = d; is_dropped = true } ∷ [])) ≡ length (filter_map dropped fates) + 1
one_dropped d fates =
    let last : Fate = record { span = d; is_dropped = true } in
    ap length (filter_map-append dropped fates (last ∷ [])) ∙ length-append (filter_map dropped fates) (d ∷ [])

module _ {E : Type 0} (accepted : E → List (List SpanRecord)) (calls : Calls E) where
  -- the queue counts one more dropped span: it was open before, or it was shut down
  open-counted : (before q r : QueueState SpanRecord E) → r ≡ counted q → WasOpen calls before q
      → (b : QueueState SpanRecord E) × WasOpen calls b r × (received_of accepted b).items ≡ (received_of accepted before).items
  open-counted before q r e (o, inl same) = (
    r,
    (ap (λ (x : QueueState SpanRecord E). x.is_shut_down) (e ∙ ap counted same) ∙ o, inl refl),
    ap (λ (x : QueueState SpanRecord E). (received_of accepted x).items) (e ∙ ap counted same),
  )
  open-counted before q r e (o, inr (none, shut, is)) = (
    before,
    (
      o,
      inr (
        none,
        (shut.0, subst (λ (x : E). calls.shuts_down before.exporter shut.0 x) (sym (ap (λ (x : QueueState SpanRecord E). x.exporter) e)) shut.1),
        e ∙ ap counted is ∙ ap (λ (x : QueueState SpanRecord E). record before { exporter = x.exporter; dropped = x.dropped; is_shut_down = true }) (sym (e ∙ ap counted is)),
      ),
    ),
    refl,
  )

  -- a sampled span was dropped and counted
  pub received-counted : (d : SpanRecord) (p q : BatchState E) (ended : List SpanRecord) → is_sampled d ≡ true
      → q.queue ≡ counted p.queue → q.given ≡ p.given
      → HasReceived accepted calls p ended → HasReceived accepted calls q (ended ++ d ∷ [])
  received-counted d p q ended s e g h =
      let o = open-counted h.before p.queue q.queue e h.was_open in
      record {
        before = o.0;
        was_open = o.1;
        fates = h.fates ++ record { span = d; is_dropped = true } ∷ [];
        sampled = more_sampled d ended s ∙ with_fate d true (filter is_sampled ended) h.fates h.sampled;
        received = o.2 ∙ h.received
            ∙ (λ i. items_of (flat_map accepted (sym g i)) ++ sym (none_kept d h.fates) i);
        counted = ap (λ (x : QueueState SpanRecord E). x.dropped) e ∙ ap one_more h.counted
            ∙ up_to (length (filter_map dropped h.fates)) _ (one_dropped d h.fates);
      }

  -- a sampled span was queued
  received-queued : (d : SpanRecord) (p q : BatchState E) (ended : List SpanRecord) → is_sampled d ≡ true
      → p.queue.is_shut_down ≡ false → q.queue ≡ queued d p.queue → q.given ≡ p.given
      → HasReceived accepted calls p ended → HasReceived accepted calls q (ended ++ d ∷ [])
  received-queued d p q ended s o e g h = elim h.was_open.1 [
    | inl same ↦ record {
      before = q.queue;
      was_open = (ap (λ (x : QueueState SpanRecord E). x.is_shut_down) e ∙ o, inl refl);
      fates = h.fates ++ record { span = d; is_dropped = false } ∷ [];
      sampled = more_sampled d ended s ∙ with_fate d false (filter is_sampled ended) h.fates h.sampled;
      received = ap (λ (x : QueueState SpanRecord E). (received_of accepted x).items) (e ∙ ap (queued d) same)
          ∙ sym (append_assoc (items_of (accepted h.before.exporter)) h.before.queue (d ∷ []))
          ∙ ap (λ (xs : List SpanRecord). xs ++ d ∷ []) h.received
          ∙ append_assoc (items_of (flat_map accepted p.given)) (filter_map kept h.fates) (d ∷ [])
          ∙ (λ i. items_of (flat_map accepted (sym g i)) ++ sym (one_kept d h.fates) i);
      counted = ap (λ (x : QueueState SpanRecord E). x.dropped) e ∙ h.counted
          ∙ ap (λ (n : ℕ). min n (2 ^ 64 - 1)) (sym (none_dropped d h.fates));
    }
    | inr shut ↦ let is_shut : p.queue.is_shut_down ≡ true = ap (λ (x : QueueState SpanRecord E). x.is_shut_down) shut.2 in
        absurd (cc (is_shut, o))
  ]

  received-added : (room : Bool) (d : SpanRecord) (p q : BatchState E) (ended : List SpanRecord) → is_sampled d ≡ true
      → p.queue.is_shut_down ≡ false → q.queue ≡ (if room then queued d p.queue else counted p.queue) → q.given ≡ p.given
      → HasReceived accepted calls p ended → HasReceived accepted calls q (ended ++ d ∷ [])
  received-added true d p q ended s o e g h = received-queued d p q ended s o e g h
  received-added false d p q ended s o e g h = received-counted d p q ended s e g h

  -- another span was dropped
  received-other : (d : SpanRecord) (p q : BatchState E) (ended : List SpanRecord) → is_sampled d ≡ false
      → q.queue ≡ p.queue → q.given ≡ p.given
      → HasReceived accepted calls p ended → HasReceived accepted calls q (ended ++ d ∷ [])
  received-other d p q ended s e g h = record {
    before = h.before;
    was_open = subst (λ (x : QueueState SpanRecord E). WasOpen calls h.before x) (sym e) h.was_open;
    fates = h.fates;
    sampled = same_sampled d ended s ∙ h.sampled;
    received = h.received ∙ ap (λ (xs : List E). items_of (flat_map accepted xs) ++ filter_map kept h.fates) (sym g);
    counted = ap (λ (x : QueueState SpanRecord E). x.dropped) e ∙ h.counted;
  }

  queues-of : (b : Bool) (d : SpanRecord) (p q : BatchState E) (ended : List SpanRecord) → is_sampled d ≡ b
      → MatchBool b (((p.queue.is_shut_down ≡ false)
      × (q.queue ≡ (if nat_lt (length p.queue.queue) p.queue.config.max_queue_size then queued d p.queue else counted p.queue)))
      ⊎ (q.queue ≡ counted p.queue)) (q.queue ≡ p.queue)
      → q.given ≡ p.given → HasReceived accepted calls p ended → HasReceived accepted calls q (ended ++ d ∷ [])
  queues-of true d p q ended s (inl a) g h =
      received-added (nat_lt (length p.queue.queue) p.queue.config.max_queue_size) d p q ended s a.0 a.1 g h
  queues-of true d p q ended s (inr e) g h = received-counted d p q ended s e g h
  queues-of false d p q ended s e g h = received-other d p q ended s e g h

  counts-of : (b : Bool) (d : SpanRecord) (p q : BatchState E) (ended : List SpanRecord) → is_sampled d ≡ b
      → MatchBool b (q.queue ≡ counted p.queue) (q.queue ≡ p.queue)
      → q.given ≡ p.given → HasReceived accepted calls p ended → HasReceived accepted calls q (ended ++ d ∷ [])
  counts-of true d p q ended s e g h = received-counted d p q ended s e g h
  counts-of false d p q ended s e g h = received-other d p q ended s e g h

  -- the span ended
  pub received-more : (d : SpanRecord) (p q : BatchState E) → OfQueue (Queues d) p q → (ended : List SpanRecord)
      → HasReceived accepted calls p ended → HasReceived accepted calls q (ended ++ d ∷ [])
  received-more d p q s ended h = queues-of (is_sampled d) d p q ended refl s.0 s.1 h

  -- the span ended, and was lost
  pub received-lost : (d : SpanRecord) (p q : BatchState E) → OfQueue (Counts d) p q → (ended : List SpanRecord)
      → HasReceived accepted calls p ended → HasReceived accepted calls q (ended ++ d ∷ [])
  received-lost d p q s ended h = counts-of (is_sampled d) d p q ended refl s.0 s.1 h

  -- ---- flushes and shutdowns

  -- the queue with the same received items
  pub received-same : (p q : BatchState E) (ended : List SpanRecord) → q.queue ≡ p.queue → q.given ≡ p.given
      → HasReceived accepted calls p ended → HasReceived accepted calls q ended
  received-same p q ended e g h = record {
    before = h.before;
    was_open = subst (λ (x : QueueState SpanRecord E). WasOpen calls h.before x) (sym e) h.was_open;
    fates = h.fates;
    sampled = h.sampled;
    received = h.received ∙ ap (λ (xs : List E). items_of (flat_map accepted xs) ++ filter_map kept h.fates) (sym g);
    counted = ap (λ (x : QueueState SpanRecord E). x.dropped) e ∙ h.counted;
  }

  -- the open queue was flushed to `f`, and then it may have been shut down
  received-then : (p q : BatchState E) (f : QueueState SpanRecord E) (ended : List SpanRecord)
      → IsFlushed accepted p.queue f → WasOpen calls f q.queue → q.queue.dropped ≡ f.dropped → q.given ≡ p.given
      → (h : HasReceived accepted calls p ended) → p.queue ≡ h.before → HasReceived accepted calls q ended
  received-then p q f ended flushed was d g h same = record {
    before = f;
    was_open = was;
    fates = h.fates;
    sampled = h.sampled;
    received = ap (λ r. r.items) (keeps accepted p.queue f flushed)
        ∙ ap (λ (x : QueueState SpanRecord E). (received_of accepted x).items) same ∙ h.received
        ∙ ap (λ (xs : List E). items_of (flat_map accepted xs) ++ filter_map kept h.fates) (sym g);
    counted = d ∙ ap (λ (x : QueueState SpanRecord E). x.dropped) flushed.same ∙ h.counted;
  }

  open-flushed : (p : BatchState E) (f : QueueState SpanRecord E) → IsFlushed accepted p.queue f
      → p.queue.is_shut_down ≡ false → f.is_shut_down ≡ false
  open-flushed p f flushed o = ap (λ (x : QueueState SpanRecord E). x.is_shut_down) flushed.same ∙ o

  flushed-of : (b : Bool) (p q : BatchState E) (ended : List SpanRecord) → p.queue.is_shut_down ≡ b
      → IsFlushed accepted p.queue q.queue → (IsTrue p.queue.is_shut_down → q.queue ≡ p.queue) → q.given ≡ p.given
      → HasReceived accepted calls p ended → HasReceived accepted calls q ended
  flushed-of true p q ended o flushed closed g h = received-same p q ended (closed o) g h
  flushed-of false p q ended o flushed closed g h = elim h.was_open.1 [
    | inl same ↦ received-then p q q.queue ended flushed (open-flushed p q.queue flushed o, inl refl) refl g h same
    | inr shut ↦ let is_shut : p.queue.is_shut_down ≡ true = ap (λ (x : QueueState SpanRecord E). x.is_shut_down) shut.2 in
        absurd (cc (is_shut, o))
  ]

  pub received-flushed : (p q : BatchState E) (answer : Result (Unit {0}) OTelSdkError)
      → FlushesQueue accepted calls answer p q → (ended : List SpanRecord)
      → HasReceived accepted calls p ended → HasReceived accepted calls q ended
  received-flushed p q answer f ended h =
      flushed-of p.queue.is_shut_down p q ended refl f.0.0 (λ t. (f.0.3 t).1) f.1 h

  -- space was made for a span, and then it ended
  spaced-of : (room untried : Bool) (p q : BatchState E) (ended : List SpanRecord)
      → MatchBool room (q ≡ p) (MatchBool untried
      ((answer : Result (Unit {0}) OTelSdkError) × FlushesQueue accepted calls answer p q) (q ≡ record p { skips = p.skips - 1 }))
      → HasReceived accepted calls p ended → HasReceived accepted calls q ended
  spaced-of true untried p q ended e h =
      received-same p q ended (ap (λ (x : BatchState E). x.queue) e) (ap (λ (x : BatchState E). x.given) e) h
  spaced-of false true p q ended (answer, f) h = received-flushed p q answer f ended h
  spaced-of false false p q ended e h =
      received-same p q ended (ap (λ (x : BatchState E). x.queue) e) (ap (λ (x : BatchState E). x.given) e) h

  spaced-for : (b : Bool) (p q : BatchState E) (ended : List SpanRecord) → MatchBool b (MakesSpace accepted calls p q) (q ≡ p)
      → HasReceived accepted calls p ended → HasReceived accepted calls q ended
  spaced-for true p q ended m h = spaced-of (has_space p.queue) (p.skips == 0) p q ended m h
  spaced-for false p q ended e h =
      received-same p q ended (ap (λ (x : BatchState E). x.queue) e) (ap (λ (x : BatchState E). x.given) e) h

  pub received-collected : (d : SpanRecord) (p q : BatchState E) → Collects accepted calls d p q → (ended : List SpanRecord)
      → HasReceived accepted calls p ended → HasReceived accepted calls q (ended ++ d ∷ [])
  received-collected d p q (between, space, step) ended h =
      received-more d between q step ended (spaced-for (is_sampled d) p between ended space h)

  closed-of : (p q : BatchState E) (answer : Result (Unit {0}) OTelSdkError) (ended : List SpanRecord)
      → p.queue.is_shut_down ≡ false → IsClosed accepted calls answer p.queue q.queue → q.given ≡ p.given
      → HasReceived accepted calls p ended → HasReceived accepted calls q ended
  closed-of p q answer ended o c g h = elim h.was_open.1 [
    | inl same ↦ received-then p q c.flushed ended c.is_flushed (
      open-flushed p c.flushed c.is_flushed o,
      inr (
        c.is_empty,
        (answer, c.exporter),
        c.closed
            ∙ ap (λ (n : ℕ). record c.flushed { exporter = q.queue.exporter; dropped = n; is_shut_down = true })
            (sym (ap (λ (x : QueueState SpanRecord E). x.dropped) c.closed)),
      ),
    ) (ap (λ (x : QueueState SpanRecord E). x.dropped) c.closed) g h same
    | inr shut ↦ let is_shut : p.queue.is_shut_down ≡ true = ap (λ (x : QueueState SpanRecord E). x.is_shut_down) shut.2 in
        absurd (cc (is_shut, o))
  ]

  shut-of : (a b : Bool) (p q : BatchState E) (answer : Result (Unit {0}) OTelSdkError) (ended : List SpanRecord)
      → p.queue.is_shut_down ≡ a → q.queue.is_shut_down ≡ b
      → IsShutDown accepted calls answer p.queue q.queue → q.given ≡ p.given
      → HasReceived accepted calls p ended → HasReceived accepted calls q ended
  shut-of true b p q answer ended was e got g h = received-same p q ended (got.0 was).1 g h
  shut-of false false p q answer ended was e got g h =
      flushed-of false p q ended was (got.1 (ap not e)).1 (λ t. absurd (cc (t, was))) g h
  shut-of false true p q answer ended was e got g h =
      closed-of p q answer ended was (got.2 (ap not was) e) g h

  pub received-shut : (p q : BatchState E) (answer : Result (Unit {0}) OTelSdkError)
      → OfQueue (IsShutDown accepted calls answer) p q → (ended : List SpanRecord)
      → HasReceived accepted calls p ended → HasReceived accepted calls q ended
  received-shut p q answer s ended h =
      shut-of p.queue.is_shut_down q.queue.is_shut_down p q answer ended refl refl s.0 s.1 h

  -- the exporter was told the resource
  told-of : (p q : BatchState E) (ended : List SpanRecord) → accepted q.queue.exporter ≡ accepted p.queue.exporter
      → q.queue ≡ record p.queue { exporter = q.queue.exporter } → q.given ≡ p.given
      → (h : HasReceived accepted calls p ended) → p.queue ≡ h.before → HasReceived accepted calls q ended
  told-of p q ended a e g h same = record {
    before = q.queue;
    was_open = (
      ap (λ (x : QueueState SpanRecord E). x.is_shut_down) e
          ∙ ap (λ (x : QueueState SpanRecord E). x.is_shut_down) same ∙ h.was_open.0,
      inl refl,
    );
    fates = h.fates;
    sampled = h.sampled;
    received = (λ i. items_of (a i) ++ (e i).queue)
        ∙ ap (λ (x : QueueState SpanRecord E). (received_of accepted x).items) same ∙ h.received
        ∙ ap (λ (xs : List E). items_of (flat_map accepted xs) ++ filter_map kept h.fates) (sym g);
    counted = ap (λ (x : QueueState SpanRecord E). x.dropped) e ∙ h.counted;
  }

  pub received-told : (p q : BatchState E) (resource : Parts) → p.queue.is_shut_down ≡ false
      → OfQueue (TellsResource accepted calls resource) p q → (ended : List SpanRecord)
      → HasReceived accepted calls p ended → HasReceived accepted calls q ended
  received-told p q resource o t ended h = elim h.was_open.1 [
    | inl same ↦ told-of p q ended t.0.0 t.0.1 t.1 h same
    | inr shut ↦ let is_shut : p.queue.is_shut_down ≡ true = ap (λ (x : QueueState SpanRecord E). x.is_shut_down) shut.2 in
        absurd (cc (is_shut, o))
  ]

  pub received-none : (exporter : E) (config : Limits) (p : BatchState E)
      → p ≡ record { queue = new_queue exporter config; given = exporter ∷ []; skips = 0 } → HasReceived accepted calls p []
  received-none exporter config p e = subst (λ (x : BatchState E). HasReceived accepted calls x []) (sym e) (record {
    before = new_queue exporter config;
    was_open = (refl, inl refl);
    fates = [];
    sampled = refl;
    received = ap (λ (xs : List (List SpanRecord)). items_of xs ++ []) (sym (append-nil (accepted exporter)));
    counted = refl;
  })

-- ---- from the fields of a value to what contracts see of it

pub of_view : {E : Type 0} (Step : QueueState SpanRecord E → QueueState SpanRecord E → Type 0) (p v q : BatchState E)
    → v ≡ p → OfQueue Step v q → OfQueue Step p q
of_view Step p v q e h = subst (λ x. OfQueue Step x q) e h

pub account_from : {P : Type 0} (Accounts : P → List SpanRecord → Type 0) (Q : List SpanRecord → Type 0) (p v : P) → v ≡ p
    → ((ended : List SpanRecord) → Accounts v ended → Q ended) → (ended : List SpanRecord) → Accounts p ended → Q ended
account_from Accounts Q p v e f ended h = f ended (subst (λ x. Accounts x ended) (sym e) h)

-- ---- the data of one more span

pub data-some : (xs : List SpanState) (s : SpanState) (d : SpanRecord) → s.recorded ≡ Some d
    → data_of (xs ++ s ∷ []) ≡ data_of xs ++ d ∷ []
data-some xs s d e = filter_map-append (λ (x : SpanState). x.recorded) xs (s ∷ [])
    ∙ ap (λ (o : Option SpanRecord). data_of xs ++ cons_option o []) e

pub data-none : (xs : List SpanState) (s : SpanState) → s.recorded ≡ None → data_of (xs ++ s ∷ []) ≡ data_of xs
data-none xs s e = filter_map-append (λ (x : SpanState). x.recorded) xs (s ∷ [])
    ∙ ap (λ (o : Option SpanRecord). data_of xs ++ cons_option o []) e ∙ append-nil (data_of xs)
