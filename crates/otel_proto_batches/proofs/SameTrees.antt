-- Trees whose messages have the same bytes.
use Rattle.std.proofs.Common.{◌≡◌, ℕ, ◌-◌, ◌==◌, List, [], ◌∷◌, codes, Bool, true, false, if◌then◌else◌, true≢false, refl, sym, ap, ◌∙◌}
use Rattle.std.specs.Int.{w64, cast_signed}
use Rattle.std.specs.List.{All}
use Rattle.std.proofs.lemmas.Int.{to_z-of_z}
use Rattle.std.proofs.lemmas.List.Elements.{All-nil, All-cons}
use Rattle.otel_base.specs.AnyValue as any
use Rattle.otel_base.specs.AnyValue.{Tree, Trees, no_trees, more_trees, Entries, no_entries, more_entries}
use Rattle.otel_proto.specs.Common.{pair}
use Rattle.otel_proto.specs.Laws.{IsField, AreShort}
use Rattle.otel_proto.specs.Trees.{cut, cut_trees, cut_entries, tree_value, list_values, map_values}
use Rattle.otel_proto.specs.Wire.{Field, bytes}
use Rattle.otel_proto.specs.Written.{bytes_of, message}
use Rattle.otel_proto.proofs.shared.ReadBack.{equal_bytes}
use Rattle.otel_proto_batches.specs.LogsInRange.{IsTreeInRange, AreTreesInRange, AreEntriesInRange}
use Rattle.otel_proto_batches.proofs.Pieces.{Piece, IsOf, last_of, more_of, one_piece, same_at, one, text, text_piece, text_in, number_in, text_again, fits, none_fit, all_fields, one_fits, text_fits, first_short, rest_short, short_at, short_one, one_same, is_none, others, contents_of, differ, same_boolean, boolean_small}
use Rattle.otel_proto_batches.proofs.SameAttributes.{integer_small}

-- ---- trees that are cut
list_in_range : (b : Bool) (ts : Trees) → AreTreesInRange ts → IsTreeInRange (if b then any.text (codes "..") else any.list ts)
list_in_range true ts h = tt
list_in_range false ts h = h

map_in_range : (b : Bool) (es : Entries) → AreEntriesInRange es → IsTreeInRange (if b then any.text (codes "..") else any.map es)
map_in_range true es h = tt
map_in_range false es h = h

mutual
  pub cut_in_range : (n : ℕ) (t : Tree) → IsTreeInRange t → IsTreeInRange (cut n t)
  cut_in_range n (any.integer z) h = h
  cut_in_range n (any.text s) h = tt
  cut_in_range n (any.boolean b) h = tt
  cut_in_range n (any.bytes s) h = tt
  cut_in_range n (any.list ts) h = list_in_range (n == 0) (cut_trees (n - 1) ts) (trees_in_range (n - 1) ts h)
  cut_in_range n (any.map es) h = map_in_range (n == 0) (cut_entries (n - 1) es) (entries_in_range (n - 1) es h)

  trees_in_range : (n : ℕ) (ts : Trees) → AreTreesInRange ts → AreTreesInRange (cut_trees n ts)
  trees_in_range n no_trees h = tt
  trees_in_range n (more_trees t ts) h = (cut_in_range n t h.0, trees_in_range n ts h.1)

  entries_in_range : (n : ℕ) (es : Entries) → AreEntriesInRange es → AreEntriesInRange (cut_entries n es)
  entries_in_range n no_entries h = tt
  entries_in_range n (more_entries k t es) h = (cut_in_range n t h.0, entries_in_range n es h.1)

-- ---- fields
one_field : (f : Field) → IsField f → All IsField (f ∷ [])
one_field f h = All-cons IsField f [] h (All-nil IsField)

pub tree_fits : (t : Tree) → IsTreeInRange t → All IsField (tree_value t)
tree_fits (any.integer z) h = one_field _ (record { number = refl; content = integer_small z h })
tree_fits (any.text s) h = one_field _ (record { number = refl; content = tt })
tree_fits (any.boolean b) h = one_field _ (record { number = refl; content = boolean_small b })
tree_fits (any.bytes s) h = one_field _ (record { number = refl; content = tt })
tree_fits (any.list ts) h = one_field _ (record { number = refl; content = tt })
tree_fits (any.map es) h = one_field _ (record { number = refl; content = tt })

list_fits : (ts : Trees) → All IsField (list_values ts)
list_fits no_trees = All-nil IsField
list_fits (more_trees t ts) = All-cons IsField _ (list_values ts) (record { number = refl; content = tt }) (list_fits ts)

map_fits : (es : Entries) → All IsField (map_values es)
map_fits no_entries = All-nil IsField
map_fits (more_entries k t es) = All-cons IsField _ (map_values es) (record { number = refl; content = tt }) (map_fits es)

abbrev pair_pieces : List ℕ → List Field → List Piece
pair_pieces k v = (1, text k) ∷ (2, one (bytes (bytes_of v))) ∷ []

pair_is : (k : List ℕ) (v : List Field) → IsOf (pair k v) (pair_pieces k v)
pair_is k v = more_of (text_piece 1 k) (last_of (one_piece 2 (bytes (bytes_of v))))

pub pair_fits : (k : List ℕ) (v : List Field) → All IsField (pair k v)
pair_fits k v = all_fields (pair_is k v) (fits 1 refl (text_fits k) (fits 2 refl (one_fits (bytes (bytes_of v)) tt) none_fit))

-- pairs with the same fields
pub record SamePair (k l : List ℕ) (v w : List Field) : Type 0 where
  pub key : k ≡ l
  pub value : v ≡ w
  pub short : AreShort v

pub same_pair : (k l : List ℕ) (v w : List Field) → All IsField v → All IsField w → AreShort (pair k v) → pair k v ≡ pair l w → SamePair k l v w
same_pair k l v w p q s e =
    let same = same_at (pair_is k v) (pair_is l w) e in
    let inner : AreShort v = short_one (bytes_of v) (short_at (pair_is k v) s 2) in
    record {
      key = sym (text_again k) ∙ ap text_in (same 1) ∙ text_again l;
      value = one_same v w p q inner (same 2);
      short = inner;
    }

-- the fields of the first of some messages
first_same : (n : ℕ) (fs gs hs ks : List Field) → All IsField fs → All IsField gs → AreShort fs → message n fs ∷ hs ≡ message n gs ∷ ks → fs ≡ gs
first_same n fs gs hs ks p q s e = equal_bytes fs gs p q s (ap (λ xs. text_in (contents_of xs)) e)

-- ---- trees
mutual
  pub same_tree : (t u : Tree) → IsTreeInRange t → IsTreeInRange u → AreShort (tree_value t) → tree_value t ≡ tree_value u → t ≡ u
  same_tree (any.integer y) (any.integer z) p q s e =
      ap any.integer (sym (to_z-of_z w64 y p) ∙ ap (cast_signed w64) (ap (λ fs. number_in (contents_of fs)) e) ∙ to_z-of_z w64 z q)
  same_tree (any.text a) (any.text b) p q s e = ap any.text (ap (λ fs. text_in (contents_of fs)) e)
  same_tree (any.boolean a) (any.boolean b) p q s e = ap any.boolean (same_boolean a b (ap (λ fs. number_in (contents_of fs)) e))
  same_tree (any.bytes a) (any.bytes b) p q s e = ap any.bytes (ap (λ fs. text_in (contents_of fs)) e)
  same_tree (any.list ts) (any.list us) p q s e =
      let inner : AreShort (list_values ts) = first_short (message 5 (list_values ts)) [] s in
      ap any.list (same_trees ts us p q inner (first_same 5 (list_values ts) (list_values us) [] [] (list_fits ts) (list_fits us) inner e))
  same_tree (any.map es) (any.map ds) p q s e =
      let inner : AreShort (map_values es) = first_short (message 6 (map_values es)) [] s in
      ap any.map (same_entries es ds p q inner (first_same 6 (map_values es) (map_values ds) [] [] (map_fits es) (map_fits ds) inner e))
  same_tree t u p q s e = absurd (differ (tree_value t) (tree_value u) refl e)

  same_trees : (ts us : Trees) → AreTreesInRange ts → AreTreesInRange us → AreShort (list_values ts) → list_values ts ≡ list_values us → ts ≡ us
  same_trees no_trees no_trees p q s e = refl
  same_trees no_trees (more_trees u us) p q s e = absurd (true≢false (ap is_none e))
  same_trees (more_trees t ts) no_trees p q s e = absurd (true≢false (sym (ap is_none e)))
  same_trees (more_trees t ts) (more_trees u us) p q s e =
      let short : AreShort (tree_value t) = first_short (message 1 (tree_value t)) (list_values ts) s in
      let value = first_same 1 (tree_value t) (tree_value u) (list_values ts) (list_values us) (tree_fits t p.0) (tree_fits u q.0) short e in
      let first = same_tree t u p.0 q.0 short value in
      let rest = same_trees ts us p.1 q.1 (rest_short (message 1 (tree_value t)) (list_values ts) s) (ap others e) in
      λ i. more_trees (first i) (rest i)

  same_entries : (es ds : Entries) → AreEntriesInRange es → AreEntriesInRange ds → AreShort (map_values es) → map_values es ≡ map_values ds → es ≡ ds
  same_entries no_entries no_entries p q s e = refl
  same_entries no_entries (more_entries l u ds) p q s e = absurd (true≢false (ap is_none e))
  same_entries (more_entries k t es) no_entries p q s e = absurd (true≢false (sym (ap is_none e)))
  same_entries (more_entries k t es) (more_entries l u ds) p q s e =
      let entry = pair k (tree_value t) in
      let other = pair l (tree_value u) in
      let short : AreShort entry = first_short (message 1 entry) (map_values es) s in
      let fields = first_same 1 entry other (map_values es) (map_values ds) (pair_fits k (tree_value t)) (pair_fits l (tree_value u)) short e in
      let both = same_pair k l (tree_value t) (tree_value u) (tree_fits t p.0) (tree_fits u q.0) short fields in
      let key = both.key in
      let first = same_tree t u p.0 q.0 both.short both.value in
      let rest = same_entries es ds p.1 q.1 (rest_short (message 1 entry) (map_values es) s) (ap others e) in
      λ i. more_entries (key i) (first i) (rest i)
