-- The number of parts of trees that are cut at the maximum depth.
use Rattle.std.specs.Prelude.{◌≡◌, ℕ, ◌+◌, ◌-◌, ◌==◌, List, [], ◌∷◌, Option, Some, None}
use Rattle.std.specs.Prelude.{if◌then◌else◌, refl}
use Rattle.otel_base.specs.AnyValue as any
use Rattle.otel_base.specs.AnyValue.{Tree, Trees, no_trees, more_trees, Entries, no_entries}
use Rattle.otel_base.specs.AnyValue.{more_entries}
use Rattle.otel_proto.specs.Trees.{max_levels}
use Rattle.otel_sdk_logs.specs.Attributes.{Attribute}

abbrev mutual
  -- the number of lists and maps within n others, without the parts inside them
  pub cut_parts : ℕ → Tree → ℕ
  cut_parts n (any.integer z) = 0
  cut_parts n (any.text s) = 0
  cut_parts n (any.boolean b) = 0
  cut_parts n (any.bytes s) = 0
  cut_parts n (any.list ts) = if n == 0 then 1 else cut_parts_of_trees (n - 1) ts
  cut_parts n (any.map es) = if n == 0 then 1 else cut_parts_of_entries (n - 1) es

  pub cut_parts_of_trees : ℕ → Trees → ℕ
  cut_parts_of_trees n no_trees = 0
  cut_parts_of_trees n (more_trees t ts) = cut_parts n t + cut_parts_of_trees n ts

  pub cut_parts_of_entries : ℕ → Entries → ℕ
  cut_parts_of_entries n no_entries = 0
  cut_parts_of_entries n (more_entries k t es) = cut_parts n t + cut_parts_of_entries n es

-- the number of parts of a body that are cut
abbrev pub cut_parts_of_body : Option Tree → ℕ
cut_parts_of_body None = 0
cut_parts_of_body (Some body) = cut_parts max_levels body

-- the number of parts of attributes that are cut
abbrev pub cut_parts_of_attributes : List Attribute → ℕ
cut_parts_of_attributes [] = 0
cut_parts_of_attributes (a ∷ more) = cut_parts max_levels a.1 + cut_parts_of_attributes more

-- ---- worked rows
abbrev in_list : Tree → Tree
in_list t = any.list (more_trees t no_trees)

counted_example : cut_parts 1 (in_list (in_list (in_list (any.text [])))) ≡ 1
counted_example = refl
