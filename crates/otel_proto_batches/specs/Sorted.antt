-- Items sorted into groups, one for each scope.
use Rattle.std.specs.Prelude.{List, [], ◌∷◌, ◌++◌, map, if◌then◌else◌}
use Rattle.otel_base.specs.InstrumentationScope as scope
use Rattle.otel_base.specs.InstrumentationScope.{Scope}
use Rattle.otel_proto_batches.specs.Groups.{items_of, first_scopes}

-- a scope with its items
abbrev pub Sorted : Type 0 → Type 0
Sorted R = Scope × List R

-- the groups, with one more item in the group of the scope; a new group goes last
abbrev pub put_in_group : {R : Type 0} → List (Sorted R) → Scope → R → List (Sorted R)
put_in_group [] of item = (of, item ∷ []) ∷ []
put_in_group (g ∷ more) of item =
    if scope.eq of g.0 then (g.0, g.1 ++ item ∷ []) ∷ more
    else g ∷ put_in_group more of item

module _ {R : Type 0} (scope_of : R → Scope) where
  -- the scope with its items among these, in order
  abbrev pub group_of : List R → Scope → Sorted R
  group_of items of = (of, items_of scope_of items of)

  -- the groups of the items, in the order in which their scopes first appear
  abbrev pub sort : List R → List (Sorted R)
  sort items = map (group_of items) (first_scopes scope_of [] items)
