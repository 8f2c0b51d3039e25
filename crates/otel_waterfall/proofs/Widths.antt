-- The columns of names.
use Rattle.std.proofs.Common.{◌≡◌, ℕ, suc, ◌+◌, ◌-◌, ◌<◌, ◌≤◌, Bool, true, false, List, [], ◌∷◌, ◌++◌, length, take, drop, get_or, refl, sym, ap, ◌∙◌, arith, nat_le, cond, ⊎_elim, ◌*◌, min, replicate, length-append, append_assoc, set}
use Rattle.std.proofs.lemmas.Bool.Decides.{leb_tells, nat_tests}
use Rattle.std.proofs.lemmas.List.{at_drop_more, length-take, take_more_set}
use Rattle.std.proofs.lemmas.List.Folds.{sum_by-replicate}
use Rattle.std.proofs.lemmas.List.Sums.{sum_by-cons, sum_by-append}
use Rattle.std.specs.List.{flat_map}
use Rattle.std.specs.Option.{option_map_or}
use Rattle.std.specs.Prelude.{Option, Some, None, slice_get}
use Rattle.otel_waterfall.specs.Columns.{group_limit, name_width}
use Rattle.otel_waterfall.specs.Line.{front, columns_after, spaces_after, name_text}
use Rattle.otel_waterfall.specs.Prefix.{branch, rail, prefix_text}
use Rattle.otel_waterfall.specs.Name.{char_columns, columns_of, count_within, cut_char, fitted}
use Rattle.unicode_width.specs.Width.{char_width}
use Rattle.unicode_width.proofs.Computing.{unicode_width}

-- the next character
pub count_within_drop : (columns : ℕ) (name : List ℕ) (i : ℕ) → i < length name
    → count_within columns (drop i name)
    ≡ cond (nat_le (char_columns (get_or name i 0)) columns) (suc (count_within (columns - char_columns (get_or name i 0)) (drop (i + 1) name))) 0
count_within_drop columns name i h = at_drop_more (count_within columns) name i 0 h

-- all characters of a name that fits
pub all_fit : (columns : ℕ) (name : List ℕ) → columns_of name ≤ columns → count_within columns name ≡ length name
all_fit columns [] h = refl
all_fit columns (c ∷ cs) h =
    let sum = sum_by-cons char_columns c cs in
    let rest = all_fit (columns - char_columns c) cs (omega (arith, h, sum)) in
    grind (arith, nat_tests, h, sum, rest)

-- not all of another
pub not_all_fit : (columns : ℕ) (name : List ℕ) → columns < columns_of name → count_within columns name < length name
not_all_fit columns [] h = absurd (omega (arith, h))
not_all_fit columns (c ∷ cs) h =
    let sum = sum_by-cons char_columns c cs in
    ⊎_elim (λ fit. let rest = not_all_fit (columns - char_columns c) cs (omega (arith, h, sum, fit.1)) in grind (arith, fit.0, rest))
    (λ more. grind (arith, more.0))
    (leb_tells (char_columns c) columns)

-- the characters that fit are within the columns
pub count_is_within : (columns : ℕ) (name : List ℕ) → columns_of (take (count_within columns name) name) ≤ columns
count_is_within columns [] = omega arith
count_is_within columns (c ∷ cs) =
    let count = count_within (columns - char_columns c) cs in
    let sum = sum_by-cons char_columns c (take count cs) in
    let rest = count_is_within (columns - char_columns c) cs in
    grind (arith, nat_tests, sum, rest)

-- the character at the end of a name that is cut takes a column
cut_columns : (ascii : Bool) → char_columns (cut_char ascii) ≡ 1
unfolding unicode_width
cut_columns true = refl
cut_columns false = refl

-- a name is within its columns
pub fitted_is_within : (ascii : Bool) (columns : ℕ) (name : List ℕ) → 0 < columns → columns_of (fitted ascii columns name) ≤ columns
fitted_is_within ascii columns name some =
    let kept = take (count_within (columns - 1) name) name in
    let sum = sum_by-append char_columns kept (cut_char ascii ∷ []) in
    grind (arith, nat_tests, some, sum, count_is_within (columns - 1) name, cut_columns ascii)

-- a name is cut if not all of its characters fit
pub fitted_cut : (ascii : Bool) (columns : ℕ) (name : List ℕ) → count_within columns name < length name
    → fitted ascii columns name ≡ take (count_within (columns - 1) name) name ++ cut_char ascii ∷ []
fitted_cut ascii columns name less =
    ⊎_elim (λ fit. let all = all_fit columns name fit.1 in absurd (omega (arith, less, all)))
    (λ more. grind (arith, more.0))
    (leb_tells (columns_of name) columns)

-- the steps that cut it
pub fit_cuts : (ascii : Bool) (columns : ℕ) (name : List ℕ) → count_within columns name < length name
    → take (count_within (columns - 1) name + 1) (set name (count_within (columns - 1) name) (cut_char ascii)) ≡ fitted ascii columns name
fit_cuts ascii columns name less =
    let kept = count_within (columns - 1) name in
    let inside : kept < length name =
    ⊎_elim (λ fit. let all = all_fit columns name fit.1 in absurd (omega (arith, less, all)))
    (λ more. not_all_fit (columns - 1) name (omega (arith, more.1)))
    (leb_tells (columns_of name) columns) in
    take_more_set name kept (cut_char ascii) inside ∙ sym (fitted_cut ascii columns name less)

pub ruleset fits = (all_fit, not_all_fit, fitted_cut)

-- each group of branches takes three columns
rail_columns : (ascii : Bool) (follows : Bool) → columns_of (rail ascii follows) ≡ 3
unfolding unicode_width
rail_columns true true = refl
rail_columns true false = refl
rail_columns false true = refl
rail_columns false false = refl

branch_columns : (ascii : Bool) (follows : Bool) → columns_of (branch ascii follows) ≡ 3
unfolding unicode_width
branch_columns true true = refl
branch_columns true false = refl
branch_columns false true = refl
branch_columns false false = refl

rail_length : (ascii : Bool) (follows : Bool) → length (rail ascii follows) ≡ 3
rail_length true true = refl
rail_length true false = refl
rail_length false true = refl
rail_length false false = refl

branch_length : (ascii : Bool) (follows : Bool) → length (branch ascii follows) ≡ 3
branch_length true true = refl
branch_length true false = refl
branch_length false true = refl
branch_length false false = refl

rails_columns : (ascii : Bool) (fs : List Bool) → columns_of (flat_map (rail ascii) fs) ≡ 3 * length fs
rails_columns ascii [] = refl
rails_columns ascii (f ∷ fs) = omega (arith, sum_by-append char_columns (rail ascii f) (flat_map (rail ascii) fs), rail_columns ascii f, rails_columns ascii fs)

rails_length : (ascii : Bool) (fs : List Bool) → length (flat_map (rail ascii) fs) ≡ 3 * length fs
rails_length ascii [] = refl
rails_length ascii (f ∷ fs) = omega (arith, length-append (rail ascii f) (flat_map (rail ascii) fs), rail_length ascii f, rails_length ascii fs)

own_columns : (ascii : Bool) (own : Option Bool) → columns_of (option_map_or (branch ascii) own []) ≡ length (option_map_or (branch ascii) own [])
own_columns ascii None = refl
own_columns ascii (Some f) = branch_columns ascii f ∙ sym (branch_length ascii f)

own_length : (ascii : Bool) (own : Option Bool) → length (option_map_or (branch ascii) own []) ≤ 3
own_length ascii None = omega arith
own_length ascii (Some f) = omega (arith, branch_length ascii f)

-- the branches are as wide as they are long
prefix_columns : (ascii : Bool) (limit : ℕ) (fs : List Bool) → columns_of (prefix_text ascii limit fs) ≡ length (prefix_text ascii limit fs)
prefix_columns ascii limit fs =
    let kept = take (min (length fs - 1) (limit - 1)) fs in
    let own = slice_get fs (length fs - 1) in
    let rails = flat_map (rail ascii) kept in
    let last = option_map_or (branch ascii) own [] in
    omega (arith, sum_by-append char_columns rails last, length-append rails last, rails_columns ascii kept, rails_length ascii kept, own_columns ascii own)

-- and within the groups that they may have
prefix_length : (ascii : Bool) (limit : ℕ) (fs : List Bool) → 0 < limit → length (prefix_text ascii limit fs) ≤ 3 * limit
prefix_length ascii limit fs some =
    let kept = take (min (length fs - 1) (limit - 1)) fs in
    let own = slice_get fs (length fs - 1) in
    let rails = flat_map (rail ascii) kept in
    let last = option_map_or (branch ascii) own [] in
    omega (arith, some, length-append rails last, rails_length ascii kept, own_length ascii own, length-take (min (length fs - 1) (limit - 1)) fs)

-- a name with its spaces fills its columns
padded_columns : (ascii : Bool) (columns : ℕ) (name : List ℕ) → 0 < columns → columns_of (fitted ascii columns name ++ spaces_after ascii columns name) ≡ columns
unfolding char_width
padded_columns ascii columns name some =
    let text = fitted ascii columns name in
    let left = columns - columns_of text in
    omega (arith, sum_by-append char_columns text (replicate left 32), sum_by-replicate char_columns left 32, fitted_is_within ascii columns name some)

-- the first column of a line is as wide as it has to be
pub name_text_columns : (ascii : Bool) (width : ℕ) (fs : List Bool) (name : List ℕ) → 40 ≤ width
    → columns_of (name_text ascii width fs name) ≡ name_width width
name_text_columns ascii width fs name wide =
    let columns = columns_after ascii width fs in
    let text = fitted ascii columns name in
    omega (
      arith,
      wide,
      ap columns_of (append_assoc (front ascii width fs) text (spaces_after ascii columns name)),
      sum_by-append char_columns (front ascii width fs) (text ++ spaces_after ascii columns name),
      prefix_columns ascii (group_limit width) fs,
      prefix_length ascii (group_limit width) fs (omega (arith, wide)),
      padded_columns ascii columns name (omega arith),
    )
