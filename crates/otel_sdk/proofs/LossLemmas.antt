-- Each sampled span that ended is counted once.
use Rattle.std.proofs.Common.{◌≡◌, ◌∙◌, ℕ, ◌+◌, ◌-◌, ◌<◌, ◌^◌, min, Bool, true, false, List, [], ◌∷◌, ◌++◌, refl, sym, ap, inl, inr, length, map, arith}
use Rattle.std.proofs.lemmas.Grind.{common_steps}
use Rattle.std.proofs.lemmas.List.{length-append, length-map}
use Rattle.std.specs.Prelude.{filter}
use Rattle.std.specs.List.{filter_map, flat_map}
use Rattle.otel_sdk.specs.LossLaws.{CountsOthers, ShutdownKeepsAccepted}
use Rattle.otel_sdk.specs.Processor.{BatchState, Fate, HasReceived, WasOpen, dropped, is_sampled, kept, losses_of}
use Rattle.otel_sdk_base.specs.Export.{Calls, items_of}
use Rattle.otel_sdk_base.specs.Losses.{total, within_u64}
use Rattle.otel_sdk_base.specs.Queue.{QueueState, received_of}
use Rattle.otel_sdk_span.specs.SpanData.{SpanRecord}

-- ---- a span was kept or dropped

abbrev fate_of : SpanRecord → Bool → Fate
fate_of span b = record { span = span; is_dropped = b }

one-more : (span : SpanRecord) (b : Bool) (fates : List Fate)
    → length fates ≡ length (filter_map kept fates) + length (filter_map dropped fates)
    → length (fate_of span b ∷ fates)
    ≡ length (filter_map kept (fate_of span b ∷ fates)) + length (filter_map dropped (fate_of span b ∷ fates))
one-more span true fates h =
    let one : length (fate_of span true ∷ fates) ≡ length fates + 1 = omega arith in
    let more : length (span ∷ filter_map dropped fates) ≡ length (filter_map dropped fates) + 1 = omega arith in
    omega (arith, h, one, more)
one-more span false fates h =
    let one : length (fate_of span false ∷ fates) ≡ length fates + 1 = omega arith in
    let more : length (span ∷ filter_map kept fates) ≡ length (filter_map kept fates) + 1 = omega arith in
    one ∙ ap (λ n. n + 1) h ∙ omega arith ∙ ap (λ n. n + length (filter_map dropped fates)) (sym more)

kept-or-dropped : (fates : List Fate)
    → length fates ≡ length (filter_map kept fates) + length (filter_map dropped fates)
kept-or-dropped [] = refl
kept-or-dropped (f ∷ fates) = one-more f.span f.is_dropped fates (kept-or-dropped fates)

-- ---- the numbers

-- `r`, `g`, `d` and `h` are the exporter's, `q` the queue's number of dropped spans, of which there are `k`, and `w` of its queued
-- spans; of `n` spans `keeps` were kept, and `a` of those accepted
numbers : (r g d h q w k a keeps n arrived : ℕ) → q ≡ min k (2 ^ 64 - 1)
    → within_u64 (within_u64 (r + 0) + within_u64 (g + 0) + within_u64 (d + q) + within_u64 (h + w)) < 2 ^ 64 - 1
    → a ≡ arrived + within_u64 (r + g + d + h) → keeps ≡ a + w → n ≡ keeps + k
    → n ≡ arrived + within_u64 (within_u64 (r + 0) + within_u64 (g + 0) + within_u64 (d + q) + within_u64 (h + w))
numbers r g d h q w k a keeps n arrived counted few all queued split =
    grind (arith, common_steps, counted, few, all, queued, split)

module _ {E : Type 0} (accepted : E → List (List SpanRecord)) (calls : Calls E) where
  -- what the open queue had received is accepted or queued, also after its shutdown
  accepted-or-queued : (before q : QueueState SpanRecord E) → ShutdownKeepsAccepted accepted calls → WasOpen calls before q
      → length (received_of accepted before).items ≡ length (items_of (accepted q.exporter)) + length q.queue
  accepted-or-queued before q keeps (o, inl same) =
      length-append (items_of (accepted before.exporter)) before.queue
      ∙ ap (λ (x : QueueState SpanRecord E). length (items_of (accepted x.exporter)) + length x.queue) (sym same)
  accepted-or-queued before q keeps (o, inr (none, shut, is)) =
      length-append (items_of (accepted before.exporter)) before.queue
      ∙ ap (λ (xs : List (List SpanRecord)). length (items_of xs) + length before.queue) (sym (keeps before.exporter shut.0 q.exporter shut.1))
      ∙ ap (λ (xs : List SpanRecord). length (items_of (accepted q.exporter)) + length xs) (sym (ap (λ (x : QueueState SpanRecord E). x.queue) is))

  pub spans-counted : (p : BatchState E) (ended : List SpanRecord) (arrived : ℕ) → HasReceived accepted calls p ended
      → CountsOthers accepted calls arrived p.queue.exporter → items_of (flat_map accepted p.given) ≡ []
      → ShutdownKeepsAccepted accepted calls → total (losses_of calls p.queue) < 2 ^ 64 - 1
      → length (filter is_sampled ended) ≡ arrived + total (losses_of calls p.queue)
  spans-counted p ended arrived h all fresh keeps few =
      let lost = calls.losses p.queue.exporter in
      let sampled : length (filter is_sampled ended) ≡ length h.fates =
      ap length h.sampled ∙ length-map h.fates (λ (f : Fate). f.span) in
      let queued : length (filter_map kept h.fates) ≡ length (items_of (accepted p.queue.exporter)) + length p.queue.queue =
      ap length (sym (h.received ∙ ap (λ (xs : List SpanRecord). xs ++ filter_map kept h.fates) fresh))
      ∙ accepted-or-queued h.before p.queue keeps h.was_open in
      numbers lost.rejected lost.given_up lost.dropped lost.held p.queue.dropped (length p.queue.queue)
      (length (filter_map dropped h.fates)) (length (items_of (accepted p.queue.exporter))) (length (filter_map kept h.fates))
      (length (filter is_sampled ended)) arrived h.counted few all queued (sampled ∙ kept-or-dropped h.fates)
