-- Trees cut at a depth: only so many lists and maps within each other are written.
use Rattle.std.specs.Prelude.{◌≡◌, ℕ, ◌+◌, ◌-◌, ◌==◌, List, [], ◌∷◌, codes, Option, Some, None}
use Rattle.std.specs.Prelude.{if◌then◌else◌, refl}
use Rattle.otel_base.specs.AnyValue as any
use Rattle.otel_base.specs.AnyValue.{Tree, Trees, no_trees, more_trees, Entries, no_entries}
use Rattle.otel_base.specs.AnyValue.{more_entries}
use Rattle.otel_sdk_logs.specs.Attributes.{Attribute}

-- the greatest number of lists and maps within each other (own). A reader of JSON takes 127 levels:
-- the line has 9 around an attribute's value, each map 4, each list 3, and a value within them 1. A
-- reader of protobuf takes 100 messages: there are 5 around, a map adds 3, a list 2, and a value 1.
abbrev pub max_levels : ℕ
max_levels = 29

-- ---- the tree that is written
abbrev mutual
  -- the tree with the text `..` in place of each list and map within n others
  pub cut : ℕ → Tree → Tree
  cut n (any.integer z) = any.integer z
  cut n (any.text s) = any.text s
  cut n (any.boolean b) = any.boolean b
  cut n (any.bytes bs) = any.bytes bs
  cut n (any.list ts) = if n == 0 then any.text (codes "..") else any.list (cut_trees (n - 1) ts)
  cut n (any.map es) = if n == 0 then any.text (codes "..") else any.map (cut_entries (n - 1) es)

  -- each tree cut, in order
  pub cut_trees : ℕ → Trees → Trees
  cut_trees n no_trees = no_trees
  cut_trees n (more_trees t ts) = more_trees (cut n t) (cut_trees n ts)

  -- each key with its tree cut, in order
  pub cut_entries : ℕ → Entries → Entries
  cut_entries n no_entries = no_entries
  cut_entries n (more_entries k t es) = more_entries k (cut n t) (cut_entries n es)

-- ---- counting
abbrev mutual
  -- the number of parts that are cut: the lists and maps within n others, without the parts inside
  -- them
  pub cut_parts : ℕ → Tree → ℕ
  cut_parts n (any.integer z) = 0
  cut_parts n (any.text s) = 0
  cut_parts n (any.boolean b) = 0
  cut_parts n (any.bytes bs) = 0
  cut_parts n (any.list ts) = if n == 0 then 1 else cut_parts_of_trees (n - 1) ts
  cut_parts n (any.map es) = if n == 0 then 1 else cut_parts_of_entries (n - 1) es

  pub cut_parts_of_trees : ℕ → Trees → ℕ
  cut_parts_of_trees n no_trees = 0
  cut_parts_of_trees n (more_trees t ts) = cut_parts n t + cut_parts_of_trees n ts

  pub cut_parts_of_entries : ℕ → Entries → ℕ
  cut_parts_of_entries n no_entries = 0
  cut_parts_of_entries n (more_entries k t es) = cut_parts n t + cut_parts_of_entries n es

-- the number of parts of a body that are cut
abbrev pub cut_parts_of_body : Option Tree → ℕ
cut_parts_of_body None = 0
cut_parts_of_body (Some body) = cut_parts max_levels body

-- the number of parts of attributes that are cut
abbrev pub cut_parts_of_attributes : List Attribute → ℕ
cut_parts_of_attributes [] = 0
cut_parts_of_attributes (a ∷ more) = cut_parts max_levels a.1 + cut_parts_of_attributes more

-- a tree of which no part is counted is written whole
abbrev pub UncountedTreesAreWhole : Type 0
UncountedTreesAreWhole = (n : ℕ) (t : Tree) → cut_parts n t ≡ 0 → cut n t ≡ t

-- ---- worked rows
abbrev in_list : Tree → Tree
in_list t = any.list (more_trees t no_trees)

-- of two lists around a text, the inner list is cut at one level, and nothing at two
cut_example : cut 1 (in_list (in_list (any.text []))) ≡ in_list (any.text (codes ".."))
cut_example = refl

whole_example : cut 2 (in_list (in_list (any.text []))) ≡ in_list (in_list (any.text []))
whole_example = refl

counted_example : cut_parts 1 (in_list (in_list (in_list (any.text [])))) ≡ 1
counted_example = refl
