-- The values of the trees of a list, and of the entries of a map, after they are cut.
use Rattle.std.proofs.Common.{◌≡◌, ℕ, List, [], ◌∷◌, map, refl, ap}
use Rattle.otel_base.specs.View.{tree, trees_view, entries_view}
use Rattle.otel_base.specs.declared.any_value.AnyValue.{AnyValue}
use Rattle.serde_json.specs.Data.{Data}
use Rattle.otel_otlp.specs.Common.{pair, tree_value, tree_values, entry_values}
use Rattle.otel_otlp.specs.Trees.{cut, cut_trees, cut_entries}

abbrev pub Entry : Type 0
Entry = List ℕ × AnyValue

-- the value of a tree that is cut
abbrev pub cut_value : ℕ → AnyValue → Data
cut_value n v = tree_value (cut n (tree v))

-- the pair of an entry
abbrev pub entry_value : ℕ → Entry → Data
entry_value n e = pair e.0 (cut_value n e.1)

pub tree_values-view : (n : ℕ) (vs : List AnyValue) → tree_values (cut_trees n (trees_view vs)) ≡ map (cut_value n) vs
tree_values-view n [] = refl
tree_values-view n (v ∷ vs) = ap (λ ds. cut_value n v ∷ ds) (tree_values-view n vs)

pub entry_values-view : (n : ℕ) (es : List Entry) → entry_values (cut_entries n (entries_view es)) ≡ map (entry_value n) es
entry_values-view n [] = refl
entry_values-view n (e ∷ es) = ap (λ ds. entry_value n e ∷ ds) (entry_values-view n es)
