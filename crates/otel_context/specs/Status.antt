-- The order of the statuses of a span.
use Rattle.std.specs.Prelude.{ℕ, List, [], nat_eq, Bool}
use Rattle.std.specs.Ordering.{nat_cmp, on, then_cmp, eq_of_both}
use Rattle.std.specs.declared.cmp.Ordering.{Ordering}
use Rattle.std.specs.Cmp.Lexicographic.{slice_cmp, pointwise}
use Rattle.otel_context.specs.declared.span.status.Status.{Status}
use Rattle.otel_context.specs.declared.span.status.Status.TheVariants.{Unset, Error, Ok}

-- the rank of a status: unset is below an error, and an error is below success (OpenTelemetry trace
-- API, "Set Status")
abbrev pub rank : Status → ℕ
rank Unset = 0
rank (Error _) = 1
rank Ok = 2

-- the description of an error; the other statuses have none
abbrev pub description : Status → List ℕ
description Unset = []
description (Error said) = said
description Ok = []

-- the same case and, for two errors, the same description (the Rust crate's `PartialEq` of
-- `Status`)
abbrev pub eq : Status → Status → Bool
eq = eq_of_both (on rank nat_eq) (on description (pointwise nat_eq))

-- by the case, and for two errors by the bytes of their descriptions (the Rust crate's `PartialOrd`
-- of `Status`). `Unset`, an error `a`, an error `b` and `Ok` are in ascending order.
abbrev pub cmp : Status → Status → Ordering
cmp = then_cmp (on rank nat_cmp) (on description (slice_cmp nat_cmp))
