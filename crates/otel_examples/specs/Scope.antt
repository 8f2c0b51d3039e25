-- The amount that work reads from its context.
use Rattle.std.specs.Prelude.{◌≡◌, Some, codes}
use Rattle.std.specs.Prelude.{ℤ}
use Rattle.otel_base.specs.AnyValue.{integer}
use Rattle.otel_context.specs.Context.{ContextRecord, get}

-- the context's entry `amount` is this integer
abbrev pub HasAmount : ContextRecord → ℤ → Type 0
HasAmount context amount = get context (codes "amount") ≡ Some (integer amount)
