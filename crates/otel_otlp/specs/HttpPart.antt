-- The parts of a batch, each of which is one request, and the parts that have left the exporter.
use Rattle.std.specs.Prelude.{◌≡◌, ◌⊎◌, ℕ, ◌<◌, ◌≤◌, ◌-◌, ◌/◌, List, [], ◌∷◌, ◌++◌, length, take}
use Rattle.std.specs.Prelude.{drop, min, sum_by}
use Rattle.otel_sdk_base.specs.Resource.{Parts}
use Rattle.otel_otlp.specs.Groups.{BatchForm, batch_value}
use Rattle.otel_otlp.specs.Json.{IsTextOf}
use Rattle.otel_otlp.specs.declared.otlp_http.outbox.End.{End}
use Rattle.otel_otlp.specs.declared.otlp_http.outbox.End.TheVariants.{Taken, GivenUp}

-- the body of a request, and the items that it holds
pub record PartOf (R : Type 0) : Type 0 where
  pub body : List ℕ
  pub items : List R

-- the items of a part that has left, and whether the collector has taken it and rejected how many
-- of them, or it was given up
pub record LeftOf (R : Type 0) : Type 0 where
  pub items : List R
  pub end : End

-- the parts that have left and the parts that wait, both in order
pub record Box (R : Type 0) : Type 0 where
  pub left : List (LeftOf R)
  pub waiting : List (PartOf R)

-- ---- counts
-- how many of the items of a part, which are so many, the collector has: it took the part, and
-- didn't reject them
abbrev pub received_by : End → ℕ → ℕ
received_by (Taken rejected) count = count - rejected
received_by GivenUp count = 0

-- how many it rejected, which aren't more, whatever it says
abbrev pub rejected_by : End → ℕ → ℕ
rejected_by (Taken rejected) count = min rejected count
rejected_by GivenUp count = 0

-- how many were given up
abbrev pub given_up_by : End → ℕ → ℕ
given_up_by (Taken rejected) count = 0
given_up_by GivenUp count = count

module _ {R : Type 0} where
  -- the items of these parts that the collector has, that it rejected, and that were given up
  abbrev pub count_received : List (LeftOf R) → ℕ
  count_received = sum_by (λ l. received_by l.end (length l.items))

  abbrev pub count_rejected : List (LeftOf R) → ℕ
  count_rejected = sum_by (λ l. rejected_by l.end (length l.items))

  abbrev pub count_given_up : List (LeftOf R) → ℕ
  count_given_up = sum_by (λ l. given_up_by l.end (length l.items))

  -- the items of these parts, which wait
  abbrev pub count_waiting : List (PartOf R) → ℕ
  count_waiting = sum_by (λ p. length p.items)

  -- the part that waits first has left
  abbrev pub leave : End → PartOf R → Box R → Box R
  leave end part box = record {
    left = box.left ++ record { items = part.items; end = end } ∷ [];
    waiting = drop 1 box.waiting;
  }

  module _ (form : BatchForm R) (resource : Parts) (max_body : ℕ) where
    -- A batch is halved for as long as its body is longer than the greatest one, down to single
    -- items. The body of each part is the JSON object of its items, as in a line.
    pub data Halves : List R → List (PartOf R) → Type 0 where
      whole : (items : List R) (body : List ℕ) → IsTextOf body (batch_value form resource items)
          → (length body ≤ max_body) ⊎ (length items ≤ 1)
          → Halves items (record { body = body; items = items } ∷ [])
      halved : (items : List R) (body : List ℕ) (first second : List (PartOf R))
          → IsTextOf body (batch_value form resource items)
          → max_body < length body → 1 < length items
          → Halves (take (length items / 2) items) first
          → Halves (drop (length items / 2) items) second
          → Halves items (first ++ second)

    -- the parts of a batch; an empty batch has none
    abbrev pub ArePartsOf : List R → List (PartOf R) → Type 0
    ArePartsOf [] parts = parts ≡ []
    ArePartsOf (r ∷ more) parts = Halves (r ∷ more) parts
