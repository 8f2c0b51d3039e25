-- The span table after one of its spans was mutably borrowed. Not in the Rust crate.
use Rattle.std.specs.Prelude.{◌≡◌, ℕ, Option, OnSome}
use Rattle.std.specs.Borrow.{LendsSo, follows_so, Fml, RattleType, MutBor}
use Rattle.std.specs.Option.{ghost_name_of}
use Rattle.otel_context.specs.Spans.{SpansState, replace, replace_found}
use Rattle.otel_context.specs.contracts.span.spans.Spans.{the_row}

-- once the borrow ends, the number has the span left behind it; for `None` the table is unchanged
abbrev pub LendsSpan : (S : RattleType) → MutBor (SpansState S.Denot) → ℕ
    → Option (MutBor S.Denot) → Fml
LendsSpan S table number lent = LendsSo (the_row S) S table lent
    (λ after span. OnSome lent (after ≡ replace table.now number span)) (λ after. after ≡ table.now)

-- the same for a number that may be absent
abbrev pub LendsFound : (S : RattleType) → MutBor (SpansState S.Denot) → Option ℕ
    → Option (MutBor S.Denot) → Fml
LendsFound S table number lent = follows_so (the_row S) S table.ghost_name (ghost_name_of lent)
    (λ span after. OnSome lent (after ≡ replace_found table.now number span))
    (λ after. after ≡ table.now)
