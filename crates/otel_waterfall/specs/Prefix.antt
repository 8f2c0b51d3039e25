-- The branches in front of a name. Not in the Rust crates.
use Rattle.std.specs.Prelude.{◌≡◌, ℕ, ◌-◌, min, codes, refl, Bool, true, false}
use Rattle.std.specs.Prelude.{List, [], ◌∷◌, ◌++◌, length, take, slice_get, if◌then◌else◌}
use Rattle.std.specs.List.{flat_map}
use Rattle.std.specs.Option.{option_map_or}

-- the group of an ancestor; `follows` says whether a sibling follows it
abbrev pub rail : Bool → Bool → List ℕ
rail ascii follows =
    if follows then (if ascii then 124 ∷ 32 ∷ 32 ∷ [] else 9474 ∷ 32 ∷ 32 ∷ [])
    else 32 ∷ 32 ∷ 32 ∷ []

-- the group of the span itself if a sibling follows it, or not: ├─ or └─, in ASCII |- or `-
abbrev pub branch : Bool → Bool → List ℕ
branch ascii follows =
    if follows then (if ascii then 124 ∷ 45 ∷ 32 ∷ [] else 9500 ∷ 9472 ∷ 32 ∷ [])
    else (if ascii then 96 ∷ 45 ∷ 32 ∷ [] else 9492 ∷ 9472 ∷ 32 ∷ [])

-- The characters in front of a name, none for a top row. `follows` says whether a sibling follows
-- each ancestor except the top one, and then the span itself. If there are more groups than the
-- limit, the first ones and the last one stay.
abbrev pub prefix_text : Bool → ℕ → List Bool → List ℕ
prefix_text ascii limit follows =
    flat_map (rail ascii) (take (min (length follows - 1) (limit - 1)) follows)
    ++ option_map_or (branch ascii) (slice_get follows (length follows - 1)) []

-- ---- worked rows
top : prefix_text true 2 [] ≡ []
top = refl

of_a_child : prefix_text true 2 (true ∷ []) ≡ codes "|- "
of_a_child = refl

of_the_last_grandchild : prefix_text true 2 (true ∷ false ∷ []) ≡ codes "|  `- "
of_the_last_grandchild = refl

middle_groups_are_left_out : prefix_text true 2 (false ∷ true ∷ true ∷ true ∷ []) ≡ codes "   |- "
middle_groups_are_left_out = refl
