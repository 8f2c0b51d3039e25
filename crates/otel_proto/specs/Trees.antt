-- The messages of trees of values, which are the bodies and attributes of log records
-- [opentelemetry/proto/common/v1/common.proto]. Trees are cut at a depth first.
use Rattle.std.specs.Prelude.{◌≡◌, ℕ, ◌-◌, ◌==◌, List, [], ◌∷◌, codes, if◌then◌else◌, true}
use Rattle.std.specs.Prelude.{refl}
use Rattle.otel_base.specs.AnyValue as any
use Rattle.otel_base.specs.AnyValue.{Tree, Trees, no_trees, more_trees, Entries, no_entries}
use Rattle.otel_base.specs.AnyValue.{more_entries}
use Rattle.otel_proto.specs.Common.{pair, text_value}
use Rattle.otel_proto.specs.Wire.{Field, bytes}
use Rattle.otel_proto.specs.Written.{message, integer, boolean, bytes_of, varint_bytes}

-- the maximum number of lists and maps within each other (own), which is that of the JSON form, whose
-- reader takes 127 levels. Readers of this form take 100 messages within each other: there are 5
-- around an attribute's value, a map adds 3, a list 2, and a value 1
abbrev pub max_levels : ℕ
max_levels = 29

-- ---- the tree that is written
abbrev mutual
  -- the tree with the string `..` in place of each list and map within n others
  pub cut : ℕ → Tree → Tree
  cut n (any.integer z) = any.integer z
  cut n (any.text s) = any.text s
  cut n (any.boolean b) = any.boolean b
  cut n (any.bytes s) = any.bytes s
  cut n (any.list ts) = if n == 0 then any.text (codes "..") else any.list (cut_trees (n - 1) ts)
  cut n (any.map es) = if n == 0 then any.text (codes "..") else any.map (cut_entries (n - 1) es)

  -- each tree cut, in order
  pub cut_trees : ℕ → Trees → Trees
  cut_trees n no_trees = no_trees
  cut_trees n (more_trees t ts) = more_trees (cut n t) (cut_trees n ts)

  -- each key with its tree cut, in order
  pub cut_entries : ℕ → Entries → Entries
  cut_entries n no_entries = no_entries
  cut_entries n (more_entries k t es) = more_entries k (cut n t) (cut_entries n es)

-- ---- its message
abbrev mutual
  -- the fields of an `AnyValue`
  pub tree_value : Tree → List Field
  tree_value (any.integer z) = integer 3 z ∷ []
  tree_value (any.text s) = text_value s
  tree_value (any.boolean b) = boolean 2 b ∷ []
  tree_value (any.bytes s) = (7, bytes s) ∷ []
  tree_value (any.list ts) = message 5 (list_values ts) ∷ []
  tree_value (any.map es) = message 6 (map_values es) ∷ []

  -- the fields of an `ArrayValue`
  pub list_values : Trees → List Field
  list_values no_trees = []
  list_values (more_trees t ts) = message 1 (tree_value t) ∷ list_values ts

  -- the fields of a `KeyValueList`, in the order of the keys
  pub map_values : Entries → List Field
  map_values no_entries = []
  map_values (more_entries k t es) = message 1 (pair k (tree_value t)) ∷ map_values es

-- the fields of the value that is written for the tree
abbrev pub cut_value : Tree → List Field
cut_value t = tree_value (cut max_levels t)

-- ---- worked rows
abbrev in_list : Tree → Tree
in_list t = any.list (more_trees t no_trees)

-- of two lists around a string, the inner list is cut at one level, and nothing at two
cut_example : cut 1 (in_list (in_list (any.text []))) ≡ in_list (any.text (codes ".."))
cut_example = refl

whole_example : cut 2 (in_list (in_list (any.text []))) ≡ in_list (in_list (any.text []))
whole_example = refl

-- a map of `a` to `true`
map_example :
    bytes_of (tree_value (any.map (more_entries (codes "a") (any.boolean true) no_entries)))
    ≡ 0x32 ∷ 9 ∷ 0x0a ∷ 7 ∷ 0x0a ∷ 1 ∷ 0x61 ∷ 0x12 ∷ 2 ∷ 0x10 ∷ 1 ∷ []
unfolding varint_bytes bytes_of
map_example = refl

bytes_example :
    bytes_of (tree_value (any.bytes (0 ∷ 255 ∷ []))) ≡ 0x3a ∷ 2 ∷ 0 ∷ 255 ∷ []
unfolding varint_bytes bytes_of
bytes_example = refl
