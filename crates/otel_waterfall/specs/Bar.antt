-- The bar of a span: a row of cells from the least start of a trace to its greatest end. Not in the
-- Rust crates.
use Rattle.std.specs.Prelude.{◌≡◌, ℕ, zero, suc, ◌+◌, ◌-◌, ◌*◌, ◌/◌, ◌==◌, nat_le, refl}
use Rattle.std.specs.Prelude.{Bool, true, ◌&&◌, List, [], ◌∷◌, ◌++◌, min, max, codes}
use Rattle.std.specs.Prelude.{if◌then◌else◌}
use Rattle.std.specs.List.{list_any}

-- the cell of a moment that is `after` the least start, if `cells` cells show the length
abbrev pub cell_at : ℕ → ℕ → ℕ → ℕ
cell_at cells length after = if length == 0 then 0 else min (after * cells / length) (cells - 1)

-- the last cell of a span that ends `after` the least start: its share of the cells, rounded up,
-- less one
abbrev pub end_cell : ℕ → ℕ → ℕ → ℕ
end_cell cells length after =
    if length == 0 then 0 else (after * cells + (length - 1)) / length - 1

-- the time from the least start to a moment, clamped to the time up to the greatest end
abbrev pub after_start : ℕ → ℕ → ℕ → ℕ
after_start from to moment = min (max moment from) to - from

-- the cell of a moment: the cell of an event, or the first cell of a span that starts then
abbrev pub cell_of : ℕ → ℕ → ℕ → ℕ → ℕ
cell_of cells from to moment = cell_at cells (to - from) (after_start from to moment)

-- the last cell of a span, which has at least one cell; an end before the start counts as the start
abbrev pub last_cell : ℕ → ℕ → ℕ → ℕ → ℕ → ℕ
last_cell cells from to start end =
    max (end_cell cells (to - from) (after_start from to (max start end)))
    (cell_of cells from to start)

-- the number of cells from the first to the last one of a span
abbrev pub filled : ℕ → ℕ → ℕ → ℕ → ℕ → ℕ
filled cells from to start end =
    last_cell cells from to start end - cell_of cells from to start + 1

-- the characters of an event and of a filled cell: ◆ and █, or in ASCII * and =
abbrev pub mark_char : Bool → ℕ
mark_char ascii = if ascii then 42 else 9670

abbrev pub fill_char : Bool → ℕ
fill_char ascii = if ascii then 61 else 9608

-- whether an event at one of these moments marks this cell
abbrev pub is_marked : ℕ → ℕ → ℕ → List ℕ → ℕ → Bool
is_marked cells from to moments cell =
    list_any (λ moment. cell_of cells from to moment == cell) moments

-- the character in this cell
abbrev pub cell_char : Bool → ℕ → ℕ → ℕ → ℕ → ℕ → List ℕ → ℕ → ℕ
cell_char ascii cells from to start end moments cell =
    if is_marked cells from to moments cell then mark_char ascii
    else if nat_le (cell_of cells from to start) cell
    && nat_le cell (last_cell cells from to start end) then fill_char ascii
    else 32

-- f 0, f 1, .., f (n - 1)
abbrev pub values_below : (ℕ → ℕ) → ℕ → List ℕ
values_below f zero = []
values_below f (suc n) = values_below f n ++ f n ∷ []

-- the characters of the bar of a span with events at these moments
abbrev pub bar_text : Bool → ℕ → ℕ → ℕ → ℕ → ℕ → List ℕ → List ℕ
bar_text ascii cells from to start end moments =
    values_below (cell_char ascii cells from to start end moments) cells

-- ---- worked rows: of 45 milliseconds in 31 cells, 5 to 20 fill the cells 3 to 13; in 7 cells,
-- 20 to 40 fill 3 to 6
first_of_load : cell_of 31 0 45000000 5000000 ≡ 3
first_of_load = refl

last_of_load : last_cell 31 0 45000000 5000000 20000000 ≡ 13
last_of_load = refl

mark_of_load : cell_of 31 0 45000000 10000000 ≡ 6
mark_of_load = refl

bar_of_price : bar_text true 7 0 45000000 20000000 40000000 [] ≡ codes "   ===="
bar_of_price = refl

-- a span of length 0 fills one cell, the first
one_cell : bar_text true 7 3 3 3 3 [] ≡ codes "=      "
one_cell = refl
