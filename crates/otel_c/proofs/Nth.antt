-- The key that `nth` finds in a trace state.
use Rattle.std.proofs.Common.{◌≡◌, ◌∙◌, ℕ, List, Option, Some, None, refl, ap}
use Rattle.std.specs.Borrow.{Bor}
use Rattle.std.specs.Iterator.{SkipsThenYields, YieldsFirstBy}
use Rattle.std.specs.Prelude.{option_map}
use Rattle.std.proofs.lemmas.Iterator.Consumers.{nth_from_yields_List, YieldsList-from_first}
use Rattle.otel_ids.specs.TraceState.{Pair, lent_pair}
use Rattle.otel_c.specs.TraceState.{key_at}

-- the texts of a borrowed pair
abbrev pub LentPair : Type 0
LentPair = Bor (List ℕ) × Bor (List ℕ)

pair_key : (r : Option LentPair)
    → option_map (λ p. p.0.now) r ≡ option_map (λ p. p.key) (option_map lent_pair r)
pair_key None = refl
pair_key (Some p) = refl

pub nth_pair : (pairs left : List Pair) (r : Option LentPair) (n : ℕ)
    → SkipsThenYields (YieldsFirstBy lent_pair (λ rest. rest)) pairs n r left
    → option_map (λ p. p.0.now) r ≡ key_at pairs n
nth_pair pairs left r n ran = pair_key r ∙ ap (option_map (λ p. p.key))
    (nth_from_yields_List r left n ran (YieldsList-from_first lent_pair (λ rest. rest) pairs refl))
