-- Each record of the accepted batches is counted once.
use Rattle.std.proofs.Common.{◌≡◌, ◌∙◌, ℕ, ◌+◌, ◌-◌, ◌<◌, ◌^◌, true, List, [], ◌∷◌, ◌++◌, refl, sym, ap, inl, inr, length, take, Option, Result, arith}
use Rattle.std.proofs.lemmas.Grind.{common_steps}
use Rattle.std.proofs.lemmas.List.{length-append}
use Rattle.std.proofs.lemmas.List.Concat.{length-flat_map}
use Rattle.std.proofs.lemmas.List.Sums.{sum_by-cons, sum_by_push}
use Rattle.std.specs.Bool.{⊤}
use Rattle.std.specs.List.{flat_map, sum_by}
use Rattle.opentelemetry.specs.Clock.{within_u64}
use Rattle.otel_sdk_base.specs.Export.{items_of}
use Rattle.otel_sdk_base.specs.declared.error.OTelSdkError.{OTelSdkError}
use Rattle.otel_otlp.proofs.HttpDelivery.{tries_keeps}
use Rattle.otel_otlp.specs.HttpClient.{Sent, Answer}
use Rattle.otel_otlp.specs.HttpExporter.{RecordsAreCounted, Sending, ShutdownKeepsAccepted, losses_of}
use Rattle.otel_otlp.specs.HttpPart.{PartOf, LeftOf, received_by, rejected_by, given_up_by, count_given_up, count_received, count_rejected, count_waiting}
use Rattle.otel_otlp.specs.declared.otlp_http.outbox.End.{End}
use Rattle.otel_otlp.specs.declared.otlp_http.outbox.End.TheVariants.{Taken, GivenUp}

-- each item of a part that has left has one end
one-end : (end : End) (count : ℕ) → count ≡ received_by end count + rejected_by end count + given_up_by end count
one-end (Taken rejected) count = grind arith
one-end GivenUp count = omega arith

numbers : (v rj gu w n rejected given_up held all : ℕ) → n ≡ v + rj + gu → rejected ≡ within_u64 rj → given_up ≡ within_u64 gu
    → held ≡ within_u64 w → within_u64 (rejected + given_up + 0 + held) < 2 ^ 64 - 1
    → all ≡ n + w → all ≡ v + within_u64 (rejected + given_up + 0 + held)
numbers v rj gu w n rejected given_up held all d r g h few e = grind (arith, common_steps, d, r, g, h, few, e)

module _ {R : Type 0} where
  each-has-one-end : (left : List (LeftOf R)) → sum_by (λ (l : LeftOf R). length l.items) left
      ≡ count_received left + count_rejected left + count_given_up left
  each-has-one-end [] = refl
  each-has-one-end (l ∷ left) =
      sum_by-cons (λ (l : LeftOf R). length l.items) l left
      ∙ (λ i. one-end l.end (length l.items) i + each-has-one-end left i)
      ∙ omega arith
      ∙ (λ i. sym (sum_by-cons (λ (l : LeftOf R). received_by l.end (length l.items)) l left) i
      + sym (sum_by-cons (λ (l : LeftOf R). rejected_by l.end (length l.items)) l left) i
      + sym (sum_by-cons (λ (l : LeftOf R). given_up_by l.end (length l.items)) l left) i)

  -- one more part is counted
  pub one-more : (parts : List (PartOf R)) (part : PartOf R) (count : ℕ) → count ≡ within_u64 (count_waiting parts)
      → within_u64 (count + length part.items) ≡ within_u64 (count_waiting (parts ++ part ∷ []))
  one-more parts part count e = grind (arith, common_steps, e, sum_by_push (λ (p : PartOf R). length p.items) parts part)

module _ {C R : Type 0} where
  pub records-counted : (s : Sending C R) → RecordsAreCounted s
  records-counted s is few =
      let left = s.outbox.left in
      let waiting = s.outbox.waiting in
      let lost = losses_of s in
      let all : length (items_of s.accepted) ≡ sum_by (λ (l : LeftOf R). length l.items) left + count_waiting waiting =
      ap length is.in_order
      ∙ length-append (flat_map (λ (l : LeftOf R). l.items) left) (flat_map (λ (p : PartOf R). p.items) waiting)
      ∙ (λ i. length-flat_map (λ (l : LeftOf R). l.items) left i + length-flat_map (λ (p : PartOf R). p.items) waiting i) in
      numbers (count_received left) (count_rejected left) (count_given_up left) (count_waiting waiting)
      (sum_by (λ (l : LeftOf R). length l.items) left) lost.rejected lost.given_up lost.held (length (items_of s.accepted))
      (each-has-one-end left) is.rejected is.given_up refl few all

module _ {C R : Type 0} (sent : C → List Sent) (answers : C → Sent → Answer → C → Type 0) (shows : List ℕ → Option Answer → ℕ → Type 0) (name : List ℕ) where
  pub shutdown-keeps : (s : Sending C R) → ShutdownKeepsAccepted sent answers shows name s
  shutdown-keeps s answer new (inl closed) = ap (λ x. x.accepted) closed.2
  shutdown-keeps s answer new (inr (was_open, tried)) =
      (tries_keeps sent answers shows name (record s { is_shut_down = true }) answer new tried).accepted
