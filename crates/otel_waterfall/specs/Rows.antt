-- The rows of a trace: which spans they draw, and in which order. Not in the Rust crates.
use Rattle.std.specs.Prelude.{◌≡◌, ℕ, zero, suc, ◌+◌, ◌<◌, ◌==◌, nat_lt, refl}
use Rattle.std.specs.Prelude.{Bool, true, false, ◌&&◌, ◌||◌, if◌then◌else◌}
use Rattle.std.specs.Prelude.{List, [], ◌∷◌, ◌++◌, length, map, filter, fold, position}
use Rattle.std.specs.Prelude.{count_by, slice_get, slice_index_or, slice_set, Option, Some, None}
use Rattle.std.specs.Option.{option_map_or}
use Rattle.std.specs.List.Sorted.{IsSortedByKey}
use Rattle.std.specs.declared.cmp.Ordering.{Ordering}
use Rattle.otel_waterfall.specs.Drawn.{Look}
use Rattle.otel_waterfall.specs.contracts.rows.ParentOrd.TheImpl as parent_ord
use Rattle.otel_waterfall.specs.declared.rows.Drawing.{Drawing}
use Rattle.otel_waterfall.specs.declared.rows.Node.{Node}
use Rattle.otel_waterfall.specs.declared.rows.Row.{Row}
use Rattle.otel_waterfall.specs.declared.rows.Row.TheVariants.{Span, Absent}
use Rattle.otel_waterfall.specs.declared.rows.Parent.{Parent}
use Rattle.otel_waterfall.specs.declared.rows.Parent.TheVariants as parent
use Rattle.otel_waterfall.specs.declared.rows.Waiting.{Waiting}
use Rattle.otel_waterfall.specs.declared.span.Outcome.TheVariants as outcome

-- ---- each span once
-- whether the row is of the span at this place in the batch
abbrev pub is_row_of : ℕ → Row → Bool
is_row_of place (Span at depth follows) = at == place
is_row_of place (Absent child) = false

-- the number of rows of the span at this place
abbrev pub row_count : ℕ → List Row → ℕ
row_count place rows = count_by (is_row_of place) rows

-- 1 if the span at the place is wanted, otherwise 0
abbrev pub one_if : List Bool → ℕ → ℕ
one_if wanted place = if slice_index_or wanted place false then 1 else 0

-- each span that is wanted has one row, and every other span of the batch none
abbrev pub AreDrawnOnce : List Bool → List Row → Type 0
AreDrawnOnce wanted rows =
    (place : ℕ) → place < length wanted → row_count place rows ≡ one_if wanted place

-- The pending spans and the rows changed to `left` and `drawn`: each span that is no longer pending
-- has one more row, and no span became pending.
pub record Draws (pending : List Bool) (rows : List Row) (left : List Bool) (drawn : List Row)
    : Type 0 where
  pub same_length : length left ≡ length pending
  pub each : (place : ℕ) → place < length pending
      → row_count place drawn + one_if left place ≡ row_count place rows + one_if pending place
  pub none_anew : (place : ℕ) → slice_index_or pending place false ≡ false
      → slice_index_or left place false ≡ false

-- the same for a drawing before and after
abbrev pub DrawsOn : Drawing → Drawing → Type 0
DrawsOn old new = Draws old.pending.items old.rows.items new.pending.items new.rows.items

-- if the row is of a span, that span is drawn
abbrev pub IsDrawn : Row → Drawing → Type 0
IsDrawn (Span place depth follows) drawing =
    slice_index_or drawing.pending.items place false ≡ false
IsDrawn (Absent child) drawing = Unit {0}

-- ---- parents
-- the parent with this id: the span at its place, if it has one
abbrev pub parent_at : ℕ → Option ℕ → Parent
parent_at id (Some place) = parent.At place
parent_at id None = parent.Absent id

-- the parent with this id, where 0 is none; `place_of` gives the first place of an id of the trace
abbrev pub parent_in : (ℕ → Option ℕ) → ℕ → Parent
parent_in place_of id = if id == 0 then parent.Root else parent_at id (place_of id)

-- The top row for the span at this place with this parent, and the parent of the spans under that
-- row. A span under another span of the batch has none.
abbrev pub top_with : ℕ → Parent → Option (Row × Parent)
top_with place parent.Root = Some (Span place 0 false, parent.At place)
top_with place (parent.At above) = None
top_with place (parent.Absent id) = Some (Absent place, parent.Absent id)

-- the place of the first span of the trace with this id
abbrev pub place_of : ℕ → List Look → ℕ → Option ℕ
place_of trace spans id = position (λ s. s.trace_id == trace && s.span_id == id) spans

-- the parent of the span at this place
abbrev pub parent_of : ℕ → List Look → ℕ → Parent
parent_of trace spans place =
    option_map_or (λ s. parent_in (place_of trace spans) s.parent_span_id) (slice_get spans place)
    parent.Root

-- ---- order
-- the start of a span of the trace, with its place
abbrev pub start_of : ℕ → ℕ → Look → List (ℕ × ℕ)
start_of trace place s = if s.trace_id == trace then (s.start, place) ∷ [] else []

-- the starts of the trace's spans, each with its place; `place` is the place of the first span here
abbrev pub starts_from : ℕ → ℕ → List Look → List (ℕ × ℕ)
starts_from trace place [] = []
starts_from trace place (s ∷ more) =
    start_of trace place s ++ starts_from trace (place + 1) more

-- whether one comes before another: it starts earlier, or at the same time at an earlier place
abbrev pub is_before : (ℕ × ℕ) → (ℕ × ℕ) → Bool
is_before a b = nat_lt a.0 b.0 || (a.0 == b.0 && nat_lt a.1 b.1)

-- starts in order with one more
abbrev pub with_start : (ℕ × ℕ) → List (ℕ × ℕ) → List (ℕ × ℕ)
with_start a [] = a ∷ []
with_start a (b ∷ more) = if is_before b a then b ∷ with_start a more else a ∷ b ∷ more

-- the same starts in order
abbrev pub in_order : List (ℕ × ℕ) → List (ℕ × ℕ)
in_order [] = []
in_order (a ∷ more) = with_start a (in_order more)

-- the span at the place of a start, with its parent
abbrev pub node_of : ℕ → List Look → (ℕ × ℕ) → Node
node_of trace spans start = record { place = start.1; parent = parent_of trace spans start.1 }

-- the spans of the trace with their parents, ordered by start and then by place
abbrev pub nodes_of : ℕ → List Look → List Node
nodes_of trace spans = map (node_of trace spans) (in_order (starts_from trace 0 spans))

-- ---- siblings
-- whether it is the same parent
abbrev pub is_same : Parent → Parent → Bool
is_same parent.Root parent.Root = true
is_same parent.Root (parent.At b) = false
is_same parent.Root (parent.Absent b) = false
is_same (parent.At a) parent.Root = false
is_same (parent.At a) (parent.At b) = a == b
is_same (parent.At a) (parent.Absent b) = false
is_same (parent.Absent a) parent.Root = false
is_same (parent.Absent a) (parent.At b) = false
is_same (parent.Absent a) (parent.Absent b) = a == b

-- the nodes under a parent
abbrev pub children_in : List Node → Parent → List Node
children_in nodes above = filter (λ n. is_same n.parent above) nodes

-- siblings that wait to be drawn at this depth; each but the last is followed by another
abbrev pub siblings : ℕ → List Node → List Waiting
siblings depth [] = []
siblings depth (n ∷ more) =
    record { place = n.place; depth = depth; follows = nat_lt 0 (length more) }
    ∷ siblings depth more

-- the order of the enum, by which nodes are grouped
abbrev pub parent_cmp : Parent → Parent → Ordering
parent_cmp = (parent_ord.ghosts).cmp

abbrev pub AreByParent : List Node → Type 0
AreByParent nodes = IsSortedByKey (λ n. n.parent) parent_cmp nodes

-- ---- drawings
-- for each place of the batch whether its span is still to be drawn, and the rows so far
pub record Progress : Type 0 where
  pub pending : List Bool
  pub rows : List Row

abbrev pub progress : Drawing → Progress
progress drawing = record { pending = drawing.pending.items; rows = drawing.rows.items }

abbrev pub is_pending : Progress → ℕ → Bool
is_pending drawing place = slice_index_or drawing.pending place false

-- a drawing with one more row, if it is of an absent parent or of a span that is still to be drawn
abbrev pub draw : Row → Progress → Progress
draw (Span place depth follows) drawing =
    if is_pending drawing place
    then record {
      pending = slice_set drawing.pending place false;
      rows = drawing.rows ++ Span place depth follows ∷ [];
    }
    else drawing
draw (Absent child) drawing = record drawing { rows = drawing.rows ++ Absent child ∷ [] }

-- the nodes that are still to be drawn
abbrev pub undrawn : Progress → List Node → List Node
undrawn drawing nodes = filter (λ n. is_pending drawing n.place) nodes

-- a trace of `count` spans, of which these are under a parent
module _ (count : ℕ) (children : Parent → List Node) where
  -- Draws the rows that wait, the first of them first, and below each the rows under it. This
  -- takes a step for each span, so `count` steps are enough.
  abbrev pub draw_waiting : ℕ → List Waiting → Progress → Progress
  draw_waiting zero waiting drawing = drawing
  draw_waiting (suc n) [] drawing = drawing
  draw_waiting (suc n) (w ∷ more) drawing =
      let drawn = draw (Span w.place w.depth w.follows) drawing in
      draw_waiting n
      (siblings (w.depth + 1) (undrawn drawn (children (parent.At w.place))) ++ more) drawn

  -- draws a row, and below it the rows under a parent
  abbrev pub draw_tree : Row → Parent → Progress → Progress
  draw_tree top above drawing =
      let drawn = draw top drawing in
      draw_waiting count (siblings 1 (undrawn drawn (children above))) drawn

  -- draws the tree of a node that is a root, or whose parent is absent
  abbrev pub draw_top : Progress → Node → Progress
  draw_top drawing n =
      if is_pending drawing n.place
      then option_map_or (λ top. draw_tree top.0 top.1 drawing) (top_with n.place n.parent) drawing
      else drawing

  -- draws the span at this place as a root, with its tree, unless it is drawn
  abbrev pub draw_left : ℕ → Progress → Progress
  draw_left place drawing =
      if is_pending drawing place
      then draw_tree (Span place 0 false) (parent.At place) drawing
      else drawing

  -- the same for all places below this one, in their order
  abbrev pub draw_all_left : ℕ → Progress → Progress
  draw_all_left zero drawing = drawing
  draw_all_left (suc place) drawing = draw_left place (draw_all_left place drawing)

-- nothing is drawn
abbrev pub undrawn_trace : ℕ → List Look → Progress
undrawn_trace trace spans = record { pending = map (λ s. s.trace_id == trace) spans; rows = [] }

-- The rows of a trace of these spans: the trees of the roots and of the absent parents, ordered by
-- the root or the first child. Then the trees of the spans that are left, whose parents form a
-- cycle, by place.
unfoldable pub rows_of : ℕ → List Look → List Row
rows_of trace spans =
    let nodes = nodes_of trace spans in
    let children = children_in nodes in
    let count = length nodes in
    let tops = fold (draw_top count children) (undrawn_trace trace spans) nodes in
    (draw_all_left count children (length spans) tops).rows

-- ---- worked rows
one_of_two : row_count 1 (Absent 0 ∷ Span 1 1 false ∷ Span 0 1 true ∷ []) ≡ 1
one_of_two = refl

-- a span of trace 1 with this id, parent and start
abbrev span : ℕ → ℕ → ℕ → Look
span id above start = record {
  trace_id = 1;
  span_id = id;
  parent_span_id = above;
  is_parent_remote = false;
  name = [];
  start = start;
  end = start;
  moments = [];
  outcome = outcome.Unset;
}

-- the children of a root by start, below the first of them its own child
a_tree : rows_of 1 (span 12 11 7 ∷ span 11 10 5 ∷ span 10 0 2 ∷ span 13 10 4 ∷ [])
    ≡ Span 2 0 false ∷ Span 3 1 true ∷ Span 1 1 false ∷ Span 0 2 false ∷ []
unfolding rows_of
a_tree = refl

-- siblings with equal starts, by place
at_the_same_time : rows_of 1 (span 10 0 2 ∷ span 12 10 3 ∷ span 11 10 3 ∷ [])
    ≡ Span 0 0 false ∷ Span 1 1 true ∷ Span 2 1 false ∷ []
unfolding rows_of
at_the_same_time = refl

-- the children of an absent parent below one row
an_absent_parent : rows_of 1 (span 11 9 5 ∷ span 10 0 4 ∷ span 12 9 3 ∷ [])
    ≡ Absent 2 ∷ Span 2 1 true ∷ Span 0 1 false ∷ Span 1 0 false ∷ []
unfolding rows_of
an_absent_parent = refl

-- a cycle of two, after a root
a_cycle : rows_of 1 (span 10 11 1 ∷ span 11 10 2 ∷ span 12 0 3 ∷ [])
    ≡ Span 2 0 false ∷ Span 0 0 false ∷ Span 1 1 false ∷ []
unfolding rows_of
a_cycle = refl

-- a child of the first span of two with its parent's id
the_first_of_an_id : rows_of 1 (span 10 0 1 ∷ span 10 0 2 ∷ span 11 10 3 ∷ [])
    ≡ Span 0 0 false ∷ Span 2 1 false ∷ Span 1 0 false ∷ []
unfolding rows_of
the_first_of_an_id = refl
