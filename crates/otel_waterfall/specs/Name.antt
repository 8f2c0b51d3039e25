-- Names as they are shown on a terminal. Not in the Rust crates.
use Rattle.std.specs.Prelude.{◌≡◌, ℕ, suc, ◌-◌, nat_lt, nat_le, codes, refl}
use Rattle.std.specs.Prelude.{Bool, true, false, ◌&&◌, ◌||◌, List, [], ◌∷◌, ◌++◌, take, map}
use Rattle.std.specs.Prelude.{chars, if◌then◌else◌}
use Rattle.std.specs.List.{sum_by}
use Rattle.std.specs.Option.{unwrap_or}
use Rattle.ucd_category.specs.GeneralCategory.{general_category, general_category_eq}
use Rattle.ucd_category.specs.declared.GeneralCategory.{GeneralCategory}
use Rattle.ucd_category.specs.declared.GeneralCategory.TheVariants.{Control, Format}
use Rattle.ucd_category.specs.declared.GeneralCategory.TheVariants.{LineSeparator}
use Rattle.ucd_category.specs.declared.GeneralCategory.TheVariants.{ParagraphSeparator}
use Rattle.ucd_category.proofs.Computing.{ucd_category}
use Rattle.unicode_width.specs.Width.{char_width}
use Rattle.unicode_width.proofs.Computing.{unicode_width}

-- whether characters of this category can steer a terminal: control and format characters, such as
-- an escape or a change of direction, and separators of lines and paragraphs
abbrev pub steers : GeneralCategory → Bool
steers category =
    general_category_eq category Control || general_category_eq category Format
    || general_category_eq category LineSeparator || general_category_eq category ParagraphSeparator

-- a character as it is shown: ? if it can steer a terminal or, in ASCII, is above U+007E
abbrev pub shown : Bool → ℕ → ℕ
shown ascii c = if steers (general_category c) || (ascii && nat_lt 126 c) then 63 else c

-- the columns of a character, as the library unicode_width counts them: 2 for a wide one, 0 for a
-- combining mark
abbrev pub char_columns : ℕ → ℕ
char_columns c = unwrap_or (char_width false c) 0

-- the columns of a text: the sum of its characters' columns
abbrev pub columns_of : List ℕ → ℕ
columns_of text = sum_by char_columns text

-- the number of characters at the front of a text that fit into `columns` columns
abbrev pub count_within : ℕ → List ℕ → ℕ
count_within columns [] = 0
count_within columns (c ∷ cs) =
    if nat_le (char_columns c) columns then suc (count_within (columns - char_columns c) cs) else 0

-- the character at the end of a name that is cut: … or ~
abbrev pub cut_char : Bool → ℕ
cut_char ascii = if ascii then 126 else 8230

-- a name in `columns` columns: whole if it fits, otherwise cut, with a column for the last
-- character
abbrev pub fitted : Bool → ℕ → List ℕ → List ℕ
fitted ascii columns name =
    if nat_le (columns_of name) columns then name
    else take (count_within (columns - 1) name) name ++ cut_char ascii ∷ []

-- the characters that show a name in UTF-8
abbrev pub shown_name : Bool → List ℕ → List ℕ
shown_name ascii name = map (shown ascii) (chars name)

-- ---- worked rows
escape_is_shown : map (shown false) (27 ∷ codes "[31m") ≡ codes "?[31m"
unfolding ucd_category
escape_is_shown = refl

-- U+202E, which turns the direction, U+200B, U+2028 and U+2029
format_is_shown : map (shown false) (0x202E ∷ 0x200B ∷ 0x2028 ∷ 0x2029 ∷ codes "a") ≡ codes "????a"
unfolding ucd_category
format_is_shown = refl

a_name_is_cut : fitted true 4 (codes "abcde") ≡ codes "abc~"
unfolding char_width
a_name_is_cut = refl

a_name_fits : fitted true 5 (codes "abcde") ≡ codes "abcde"
unfolding char_width
a_name_fits = refl

-- an ideograph has two columns, so only one fits into three
a_wide_name_is_cut : fitted false 4 (0x4E2D ∷ 0x6587 ∷ 0x5B57 ∷ []) ≡ 0x4E2D ∷ 8230 ∷ []
unfolding unicode_width
a_wide_name_is_cut = refl

-- a combining mark has no columns, and stays with the letter before it
a_mark_is_kept : fitted false 2 (0x65 ∷ 0x301 ∷ 0x66 ∷ 0x67 ∷ []) ≡ 0x65 ∷ 0x301 ∷ 8230 ∷ []
unfolding unicode_width
a_mark_is_kept = refl
