-- Trees with their texts and bytes truncated.
use Rattle.std.specs.Prelude.{◌≡◌, ℕ, List, [], ◌∷◌, take, codes, Option, Some, None, refl}
use Rattle.std.specs.Fmt.{take_chars}
use Rattle.otel_base.specs.AnyValue.{Tree, integer, text, boolean, bytes, list, map}
use Rattle.otel_base.specs.AnyValue.{Trees, no_trees, more_trees, Entries, no_entries, more_entries}

abbrev mutual
  -- the tree with each text truncated to its first n characters and each list of bytes to its first
  -- n bytes, also within lists and maps (OpenTelemetry specification, "Attribute Limits")
  pub cut_tree : ℕ → Tree → Tree
  cut_tree n (integer z) = integer z
  cut_tree n (text t) = text (take_chars n t)
  cut_tree n (boolean b) = boolean b
  cut_tree n (bytes bs) = bytes (take n bs)
  cut_tree n (list ts) = list (cut_trees n ts)
  cut_tree n (map es) = map (cut_entries n es)

  -- each tree truncated, in order
  pub cut_trees : ℕ → Trees → Trees
  cut_trees n no_trees = no_trees
  cut_trees n (more_trees t ts) = more_trees (cut_tree n t) (cut_trees n ts)

  -- each key, whole, with its tree truncated, in order
  pub cut_entries : ℕ → Entries → Entries
  cut_entries n no_entries = no_entries
  cut_entries n (more_entries k t es) = more_entries k (cut_tree n t) (cut_entries n es)

-- the tree truncated, if there is a limit
abbrev pub cut_value : Option ℕ → Tree → Tree
cut_value None t = t
cut_value (Some n) t = cut_tree n t

-- the attribute with its value truncated, if there is a limit
abbrev pub cut : Option ℕ → List ℕ × Tree → List ℕ × Tree
cut length a = (a.0, cut_value length a.1)

-- ---- worked rows
-- h, U+00E9, l, l, o truncated to three characters, which are four bytes
cut_text_example : cut_tree 3 (text (104 ∷ 195 ∷ 169 ∷ 108 ∷ 108 ∷ 111 ∷ []))
    ≡ text (104 ∷ 195 ∷ 169 ∷ 108 ∷ [])
unfolding take_chars
cut_text_example = refl

-- a key stays whole
cut_entry_example : cut_tree 1 (map (more_entries (codes "ab") (text (codes "cd")) no_entries))
    ≡ map (more_entries (codes "ab") (text (codes "c")) no_entries)
unfolding take_chars
cut_entry_example = refl

cut_bytes_example : cut_tree 0 (list (more_trees (bytes (1 ∷ 2 ∷ [])) no_trees))
    ≡ list (more_trees (bytes []) no_trees)
cut_bytes_example = refl
