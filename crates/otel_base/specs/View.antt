-- The values that contracts see for an `Array`, a `Value`, a `KeyValue` and an `AnyValue`.
use Rattle.std.specs.Prelude.{◌≡◌, ℕ, List, [], ◌∷◌, map, Option, Some, None}
use Rattle.std.specs.Coded.{Coded, coded_ℕ, coded_ℤ, coded_bool, coded_list}
use base.Stored.{Gv, gnil, gnum, gcons}
use Rattle.std.specs.declared.vec.Vec.{Vec}
use Rattle.std.specs.declared.alloc.Global.{Global}
use Rattle.otel_base.specs.Array.{ArrayValue, booleans, integers, texts}
use Rattle.otel_base.specs.Value as value
use Rattle.otel_base.specs.Value.{AttributeValue}
use Rattle.otel_base.specs.KeyValue.{Attribute}
use Rattle.otel_base.specs.AnyValue as any
use Rattle.otel_base.specs.AnyValue.{Tree, Trees, no_trees, more_trees, Entries, no_entries}
use Rattle.otel_base.specs.AnyValue.{more_entries}
use Rattle.otel_base.specs.declared.array.Array.{Array}
use Rattle.otel_base.specs.declared.array.Array.TheVariants as A
use Rattle.otel_base.specs.declared.value.Value.{Value}
use Rattle.otel_base.specs.declared.value.Value.TheVariants as V
use Rattle.otel_base.specs.declared.key_value.KeyValue.{KeyValue}
use Rattle.otel_base.specs.declared.any_value.AnyValue.{AnyValue, fold-AnyValue}
use Rattle.otel_base.specs.declared.any_value.AnyValue.TheOpen.{AnyValue-F}

-- ---- attributes
-- the items of an array, with their type (the Rust crate's `Array`)
abbrev pub array_of : Array → ArrayValue
array_of (A.Bool v) = booleans v.items
array_of (A.I64 v) = integers v.items
array_of (A.String v) = texts v.items

-- the content of a value, with its type (the Rust crate's `Value`)
abbrev pub value_of : Value → AttributeValue
value_of (V.Bool b) = value.boolean b
value_of (V.I64 z) = value.integer z
value_of (V.String s) = value.text s
value_of (V.Array a) = value.array (array_of a)

-- the key, with the content of the value (the Rust crate's `KeyValue`)
abbrev pub attribute_of : KeyValue → Attribute
attribute_of a = (a.key, value_of a.value)

-- the attributes given to a builder, none before the first call (the Rust crate's
-- `InstrumentationScopeBuilder`)
abbrev pub given_attributes : Option (Vec KeyValue Global) → List Attribute
given_attributes None = []
given_attributes (Some v) = map attribute_of v.items

-- ---- value trees
-- the trees of a list, in order
abbrev pub trees_of : List Tree → Trees
trees_of [] = no_trees
trees_of (t ∷ ts) = more_trees t (trees_of ts)

-- the entries of a list of pairs, in order
abbrev pub entries_of : List (List ℕ × Tree) → Entries
entries_of [] = no_entries
entries_of (e ∷ es) = more_entries e.0 e.1 (entries_of es)

-- one level, in which each inner value is already its tree
abbrev pub tree_step : AnyValue-F Tree → Tree
tree_step (AnyValue-F.Int z) = any.integer z
tree_step (AnyValue-F.String s) = any.text s
tree_step (AnyValue-F.Boolean b) = any.boolean b
tree_step (AnyValue-F.Bytes v) = any.bytes v.value.items
tree_step (AnyValue-F.ListAny v) = any.list (trees_of v.value.items)
tree_step (AnyValue-F.Map m) = any.map (entries_of m.value.entries)

-- the tree of a value (the Rust crate's `AnyValue`): `ListAny` of 1 and "a" means the list of
-- `integer 1` and `text [97]`
abbrev pub tree : AnyValue → Tree
tree = fold-AnyValue Tree tree_step

-- the trees of these values, in order
abbrev pub trees_view : List AnyValue → Trees
trees_view vs = trees_of (map tree vs)

-- the entries of these keys and values, in order
abbrev pub entries_view : List (List ℕ × AnyValue) → Entries
entries_view es = entries_of (map (λ e. (e.0, tree e.1)) es)

-- each key with the tree of its value
abbrev pub pairs_view : List (List ℕ × AnyValue) → List (List ℕ × Tree)
pairs_view = map (λ e. (e.0, tree e.1))

-- ---- a code of trees, with which the value of a model can contain them
abbrev mutual
  -- the case as a number, then the content
  pub code_tree : Tree → Gv
  code_tree (any.integer z) = gcons (gnum 0) (coded_ℤ.code z)
  code_tree (any.text s) = gcons (gnum 1) ((coded_list coded_ℕ).code s)
  code_tree (any.boolean b) = gcons (gnum 2) (coded_bool.code b)
  code_tree (any.bytes s) = gcons (gnum 3) ((coded_list coded_ℕ).code s)
  code_tree (any.list ts) = gcons (gnum 4) (code_trees ts)
  code_tree (any.map es) = gcons (gnum 5) (code_entries es)

  -- the trees in order
  pub code_trees : Trees → Gv
  code_trees no_trees = gnil
  code_trees (more_trees t ts) = gcons (code_tree t) (code_trees ts)

  -- each key with its tree, in order
  pub code_entries : Entries → Gv
  code_entries no_entries = gnil
  code_entries (more_entries k t es) =
      gcons ((coded_list coded_ℕ).code k) (gcons (code_tree t) (code_entries es))

mutual
  -- trees with the same code are equal
  pub tree_inj : (x y : Tree) → code_tree x ≡ code_tree y → x ≡ y
  tree_inj (any.integer x) (any.integer y) p = λ i. any.integer (coded_ℤ.inj x y (cc) i)
  tree_inj (any.text x) (any.text y) p = λ i. any.text ((coded_list coded_ℕ).inj x y (cc) i)
  tree_inj (any.boolean x) (any.boolean y) p = λ i. any.boolean (coded_bool.inj x y (cc) i)
  tree_inj (any.bytes x) (any.bytes y) p = λ i. any.bytes ((coded_list coded_ℕ).inj x y (cc) i)
  tree_inj (any.list x) (any.list y) p = λ i. any.list (trees_inj x y (cc) i)
  tree_inj (any.map x) (any.map y) p = λ i. any.map (entries_inj x y (cc) i)
  tree_inj _ _ p = cc

  pub trees_inj : (x y : Trees) → code_trees x ≡ code_trees y → x ≡ y
  trees_inj no_trees no_trees p = cc
  trees_inj (more_trees x xs) (more_trees y ys) p =
      λ i. more_trees (tree_inj x y (cc) i) (trees_inj xs ys (cc) i)
  trees_inj _ _ p = cc

  pub entries_inj : (x y : Entries) → code_entries x ≡ code_entries y → x ≡ y
  entries_inj no_entries no_entries p = cc
  entries_inj (more_entries j x xs) (more_entries k y ys) p =
      λ i. more_entries ((coded_list coded_ℕ).inj j k (cc) i) (tree_inj x y (cc) i)
      (entries_inj xs ys (cc) i)
  entries_inj _ _ p = cc

-- the code of a tree
abbrev pub tree_code : Coded Tree
tree_code = record { code = code_tree; inj = tree_inj }
