-- The fields of trees as those of the values that they are seen of.
use Rattle.std.proofs.Common.{◌≡◌, ℕ, List, [], ◌∷◌, refl, ap}
use Rattle.otel_base.specs.View.{tree, trees_view, entries_view}
use Rattle.otel_base.specs.declared.any_value.AnyValue.{AnyValue}
use Rattle.otel_proto.specs.Common.{pair}
use Rattle.otel_proto.specs.Trees.{cut, cut_trees, cut_entries, tree_value, list_values, map_values}
use Rattle.otel_proto.specs.Wire.{Field}
use Rattle.otel_proto.specs.Written.{message, messages}

-- a key and a value, as an entry of a map has them
abbrev pub Entry : Type 0
Entry = List ℕ × AnyValue

-- the fields of a value and of an entry
abbrev pub value_fields : ℕ → AnyValue → List Field
value_fields n v = tree_value (cut n (tree v))

abbrev pub entry_fields : ℕ → Entry → List Field
entry_fields n e = pair e.0 (tree_value (cut n (tree e.1)))

pub list_view : (n : ℕ) (vs : List AnyValue) → list_values (cut_trees n (trees_view vs)) ≡ messages 1 (value_fields n) vs
list_view n [] = refl
list_view n (v ∷ vs) = ap (λ (fs : List Field). message 1 (value_fields n v) ∷ fs) (list_view n vs)

pub map_view : (n : ℕ) (es : List Entry) → map_values (cut_entries n (entries_view es)) ≡ messages 1 (entry_fields n) es
map_view n [] = refl
map_view n (e ∷ es) = ap (λ (fs : List Field). message 1 (entry_fields n e) ∷ fs) (map_view n es)
