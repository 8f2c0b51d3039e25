-- The groups of a map from scopes to items.
use Rattle.std.specs.Prelude.{List, map, Vec}
use Rattle.std.specs.Borrow.{Bor}
use Rattle.std.specs.declared.alloc.Global.{Global}
use Rattle.otel_base.specs.InstrumentationScope.{Scope}
use Rattle.otel_proto_batches.specs.Sorted.{Sorted}

module _ {R : Type 0} where
  -- an entry as a group
  abbrev pub group_view : Scope × Vec (Bor R) Global → Sorted R
  group_view e = (e.0, map (λ r. r.now) e.1.items)

  -- the entries as groups
  abbrev pub groups_view : List (Scope × Vec (Bor R) Global) → List (Sorted R)
  groups_view = map group_view
