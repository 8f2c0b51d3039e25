-- The effect of a call on the span of a context, and on the other spans.
use Rattle.std.specs.Prelude.{◌≡◌, ◌≢◌, ℕ, Option, Some, MatchOption}
use Rattle.std.specs.Option.{option_map_or}
use Rattle.std.specs.Coded.{Coded, Coded-set, coded_ℕ, coded_option, ×_prop, Π_prop, →_prop}
use Rattle.otel_context.specs.Spans.{SpansState, get, find, replace_found}

module _ {S : Type 0} where
  -- the table after an effect on the span with the number, if any; otherwise the table
  abbrev pub after_effect : (S → S) → SpansState S → Option ℕ → SpansState S
  after_effect effect table number =
      option_map_or (λ span. replace_found table number (effect span)) (find table number) table

  -- the span with the number became one related to it, if there is one; otherwise the table is
  -- unchanged
  abbrev pub BecomesOne : (S → S → Type 0) → SpansState S → Option ℕ → SpansState S → Type 0
  BecomesOne Relation old number new =
      MatchOption (find old number) (new ≡ old)
      (λ span. (left : S) × Relation span left × (new ≡ replace_found old number left))

  -- the next number, and each span except the one with this number, are unchanged
  abbrev pub OthersStay : Option ℕ → SpansState S → SpansState S → Type 0
  OthersStay number old new =
      (new.next_number ≡ old.next_number)
      × ((q : ℕ) → number ≢ Some q → get new q ≡ get old q)

  pub OthersStay-prop : Coded S → (number : Option ℕ) (old new : SpansState S)
      → IsProp (OthersStay number old new)
  OthersStay-prop code number old new =
      ×_prop (Coded-set coded_ℕ new.next_number old.next_number)
      (Π_prop (λ q. →_prop (Coded-set (coded_option code) (get new q) (get old q))))
