-- The groups of a map from scopes to items.
use Rattle.std.specs.Prelude.{List, map, Vec}
use Rattle.std.specs.Borrow.{Bor}
use Rattle.std.specs.declared.alloc.Global.{Global}
use Rattle.otel_base.specs.InstrumentationScope.{Scope}
use Rattle.serde_json.specs.Data.{Data}
use Rattle.otel_otlp.specs.Sorted.{Group}

module _ {R : Type 0} (value_of : R → Data) where
  -- an entry as a group, with the value of each item
  abbrev pub group_view : Scope × Vec (Bor R) Global → Group Data
  group_view e = (e.0, map (λ r. value_of r.now) e.1.items)

  -- the entries as groups
  abbrev pub groups_view : List (Scope × Vec (Bor R) Global) → List (Group Data)
  groups_view = map group_view
