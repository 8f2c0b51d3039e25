-- The rows of a trace on a page. Not in the Rust crates.
use Rattle.std.specs.Prelude.{ℕ, if◌then◌else◌, codes, List, [], ◌++◌, slice_get, Bool}
use Rattle.std.specs.Fmt.{decimal}
use Rattle.std.specs.List.{flat_map}
use Rattle.std.specs.Option.{option_map_or}
use Rattle.otel_ids.specs.Ids.{id_text}
use Rattle.opentelemetry.specs.Event.{EventRecord}
use Rattle.otel_waterfall.specs.Bar.{cell_of, filled}
use Rattle.otel_waterfall.specs.Details.{details}
use Rattle.otel_waterfall.specs.Drawn.{outcome_of}
use Rattle.otel_waterfall.specs.Duration.{duration_text}
use Rattle.otel_waterfall.specs.Escape.{between}
use Rattle.otel_waterfall.specs.Line.{outcome_text}
use Rattle.otel_waterfall.specs.declared.page.PageSpan.{PageSpan}
use Rattle.otel_waterfall.specs.declared.rows.Row.{Row}
use Rattle.otel_waterfall.specs.declared.rows.Row.TheVariants.{Span, Absent}
use Rattle.otel_waterfall.specs.declared.span.Outcome.{Outcome}
use Rattle.otel_waterfall.specs.declared.span.Outcome.TheVariants as outcome

-- ---- bars
-- the start of a bar, 500 cells wide
abbrev pub open_bar : List ℕ
open_bar = codes "<svg viewBox=\"0 0 500 16\" preserveAspectRatio=none aria-hidden=true>"

-- the mark of an event in a cell
abbrev pub mark_at : ℕ → List ℕ
mark_at cell =
    codes "<rect class=mark y=0 height=16 width=3 x=" ++ (decimal cell ++ codes " />")

-- the rectangle of a span in so many cells from the first on
abbrev pub rectangle : ℕ → ℕ → List ℕ
rectangle first width =
    codes "<rect y=3 height=10 x=" ++ (decimal first ++ (codes " width=" ++ (decimal width
    ++ codes " />")))

-- a page whose bars have so many cells, from the least start to the greatest end of a trace
module _ (cells from to : ℕ) where
  abbrev pub mark : EventRecord → List ℕ
  mark e = mark_at (cell_of cells from to e.timestamp)

  abbrev pub marks : List EventRecord → List ℕ
  marks events = flat_map mark events

  abbrev pub rectangle_of : ℕ → ℕ → List ℕ
  rectangle_of start end =
      rectangle (cell_of cells from to start) (filled cells from to start end)

  -- the bar of a span: a rectangle from its start to its end, and a mark for each event
  abbrev pub bar : PageSpan → List ℕ
  bar s =
      open_bar ++ (rectangle_of s.data.start_time s.data.end_time ++ (marks s.data.events
      ++ codes "</svg>"))

-- ---- lines
abbrev pub outcome_class : Outcome → List ℕ
outcome_class outcome.Error = codes "error"
outcome_class outcome.Ok = codes "ok"
outcome_class outcome.Unset = codes "unset"

abbrev pub name : List ℕ → List ℕ
name text = between (codes "<span class=name><bdi>") text (codes "</bdi></span>")

abbrev pub service : List ℕ → List ℕ
service text = between (codes "<span class=service><bdi>") text (codes "</bdi></span>")

-- the names of a span and of its service
abbrev pub names : PageSpan → List ℕ
names s = name s.data.name ++ service s.service

abbrev pub duration : ℕ → ℕ → List ℕ
duration start end =
    between (codes "<span class=time>") (duration_text start end) (codes "</span>")

-- the text that the line of a span shows for its status
abbrev pub status : Outcome → List ℕ
status o = between (codes "<span class=status>") (outcome_text o) (codes "</span>")

-- the line of a span: its names, its duration, its bar and its status
abbrev pub summary : ℕ → ℕ → ℕ → PageSpan → List ℕ
summary cells from to s =
    names s ++ (duration s.data.start_time s.data.end_time ++ (bar cells from to s
    ++ status (outcome_of s.data.status)))

-- ---- rows
-- the start of the row of a span with this outcome at a depth
abbrev pub opening : Outcome → ℕ → List ℕ
opening o depth =
    codes "<details class=\"row " ++ (outcome_class o
    ++ (codes "\"><summary style=--depth:" ++ (decimal depth ++ codes ">")))

-- the row of a span at a depth: its line, which opens its details
abbrev pub span : ℕ → ℕ → ℕ → ℕ → PageSpan → List ℕ
span cells from to depth s =
    opening (outcome_of s.data.status) depth ++ (summary cells from to s
    ++ (codes "</summary>" ++ (details from s ++ codes "</details>")))

-- the row of a parent that isn't among the spans, according to this child
abbrev pub absence : Bool → List ℕ
absence remote = if remote then codes "remote" else codes "missing"

abbrev pub absent : PageSpan → List ℕ
absent child =
    codes "<p class=absent>" ++ (absence child.data.parent_span_is_remote
    ++ (codes " parent " ++ (id_text 16 child.data.parent_span_id ++ codes "</p>")))

-- a row of the trace with these spans
abbrev pub row : ℕ → ℕ → ℕ → List PageSpan → Row → List ℕ
row cells from to spans (Span place depth follows) =
    option_map_or (span cells from to depth) (slice_get spans place) []
row cells from to spans (Absent child) =
    option_map_or absent (slice_get spans child) []
