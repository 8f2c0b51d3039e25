-- The columns of a picture: name, duration, bar and status, with one column between two. Not in the
-- Rust crates.
use Rattle.std.specs.Prelude.{◌≡◌, ℕ, ◌-◌, ◌*◌, ◌/◌, max, refl}

-- the width of a picture if this width is requested
abbrev pub picture_width : ℕ → ℕ
picture_width asked = max asked 40

-- the columns of the name, with the branches in front of it
abbrev pub name_width : ℕ → ℕ
name_width width = 2 * width / 5

-- the columns of the bar: the width without the name, the duration in 9 columns, the status in 5
-- and the three columns between them
abbrev pub bar_width : ℕ → ℕ
bar_width width = width - name_width width - 17

-- the limit of groups of three columns for the branches in front of a name; the name keeps eight
-- columns
abbrev pub group_limit : ℕ → ℕ
group_limit width = (name_width width - 8) / 3

-- ---- worked rows
at_80 : name_width 80 ≡ 32
at_80 = refl

bar_at_80 : bar_width 80 ≡ 31
bar_at_80 = refl

bar_at_40 : bar_width 40 ≡ 7
bar_at_40 = refl

groups_at_40 : group_limit 40 ≡ 2
groups_at_40 = refl
