-- A page of traces. Not in the Rust crates.
use Rattle.std.specs.Prelude.{◌≡◌, ℕ, ◌==◌, max, if◌then◌else◌, codes, Bool, true, false, ◌&&◌}
use Rattle.std.specs.Prelude.{List, [], ◌∷◌, ◌++◌, length, map, count_by, slice_get, All}
use Rattle.std.specs.Fmt.{decimal}
use Rattle.std.specs.List.{flat_map, list_any}
use Rattle.std.specs.Option.{option_map_or}
use Rattle.otel_ids.specs.Ids.{id_text}
use Rattle.otel_waterfall.specs.Drawn.{Look, look_of}
use Rattle.otel_waterfall.specs.Escape.{between}
use Rattle.otel_waterfall.specs.PageRow.{names, duration, row}
use Rattle.otel_waterfall.specs.Picture.{spans_of, least_start, greatest_end, spans_word}
use Rattle.otel_waterfall.specs.Picture as picture
use Rattle.otel_waterfall.specs.Rows.{rows_of}
use Rattle.otel_waterfall.specs.declared.page.PageSpan.{PageSpan}
use Rattle.otel_waterfall.specs.declared.page.PageTrace.{PageTrace}
use Rattle.otel_waterfall.specs.declared.page.style.TheConstants.{STYLE}
use Rattle.otel_waterfall.specs.declared.rows.Row.{Row}
use Rattle.otel_waterfall.specs.declared.rows.Row.TheVariants.{Span, Absent}
use Rattle.otel_waterfall.specs.declared.span.Outcome.{Outcome}
use Rattle.otel_waterfall.specs.declared.span.Outcome.TheVariants as outcome

-- ---- spans
-- the drawn parts of a span
abbrev pub look_of_span : PageSpan → Look
look_of_span s = look_of false s.data

abbrev pub is_error : Outcome → Bool
is_error outcome.Error = true
is_error outcome.Ok = false
is_error outcome.Unset = false

-- whether it is a span of the trace whose status is an error
abbrev pub is_failed : ℕ → Look → Bool
is_failed trace s = s.trace_id == trace && is_error s.outcome

-- ---- the line of a trace
-- the place of the span that names a trace with these rows: the one of the first row
abbrev pub first_place : List Row → ℕ
first_place [] = 0
first_place (Span place depth follows ∷ more) = place
first_place (Absent child ∷ more) = child

-- the names of the span at this place and of its service
abbrev pub title : List PageSpan → ℕ → List ℕ
title spans place = option_map_or names (slice_get spans place) []

-- the word for this number of errors
abbrev pub errors_word : ℕ → List ℕ
errors_word errors = if errors == 1 then codes "error" else codes "errors"

abbrev pub errors_text : ℕ → List ℕ
errors_text errors =
    if errors == 0 then []
    else codes "<span class=errors>" ++ (decimal errors ++ (codes " " ++ (errors_word errors
    ++ codes "</span>")))

abbrev pub spans_text : ℕ → List ℕ
spans_text spans =
    codes "<span class=count>" ++ (decimal spans ++ (codes " " ++ (spans_word spans
    ++ codes "</span>")))

-- the numbers of spans and of errors
abbrev pub counts : ℕ → ℕ → List ℕ
counts spans errors = spans_text spans ++ errors_text errors

abbrev pub start : List ℕ → List ℕ
start text = between (codes "<span class=start>") text (codes "</span>")

abbrev pub id_line : ℕ → List ℕ
id_line trace = codes "</summary><p class=id>trace " ++ (id_text 32 trace ++ codes "</p>")

-- the line of a trace from its least start to its greatest end, with these numbers of spans and
-- errors, named by the span at the place `first`; then its id
abbrev pub head : PageTrace → ℕ → ℕ → ℕ → ℕ → ℕ → List ℕ
head trace from to spans errors first =
    title trace.spans.items first ++ (duration from to ++ (counts spans errors
    ++ (start trace.start ++ id_line trace.trace_id)))

-- ---- traces
-- the rows of a trace with these spans
abbrev pub rows : ℕ → ℕ → ℕ → List PageSpan → List Row → List ℕ
rows cells from to spans items = flat_map (row cells from to spans) items

-- the first text of a trace, which is open if it is the only one
abbrev pub opening : Bool → List ℕ
opening alone =
    if alone then codes "<details class=trace open><summary>"
    else codes "<details class=trace><summary>"

-- the number of cells of a bar
abbrev pub cells : ℕ
cells = 500

-- a trace with these spans and these rows
module _ (alone : Bool) (trace : PageTrace) (spans : List Look) where
  abbrev pub own : List Look
  own = spans_of trace.trace_id spans

  abbrev pub trace_with : List Row → List ℕ
  trace_with items =
      opening alone ++ (head trace (least_start own) (greatest_end own) (length own)
      (count_by (is_failed trace.trace_id) spans) (first_place items)
      ++ (rows cells (least_start own) (max (greatest_end own) (least_start own))
      trace.spans.items items ++ codes "</details>\n"))

-- the drawn parts of the spans of a trace
abbrev pub looks : PageTrace → List Look
looks trace = map look_of_span trace.spans.items

abbrev pub trace_text : Bool → PageTrace → List ℕ
trace_text alone trace =
    trace_with alone trace (looks trace) (rows_of trace.trace_id (looks trace))

-- every span of the trace has one of its rows, and no other span has one
abbrev pub HasEachSpan : PageTrace → Type 0
HasEachSpan trace = picture.HasEachSpan (looks trace) trace.trace_id

-- the text changed from `old` to `new` by a trace
pub record AddsTrace (alone : Bool) (trace : PageTrace) (old new : List ℕ) : Type 0 where
  pub once : HasEachSpan trace
  pub is : new ≡ old ++ trace_text alone trace

-- ---- pages
-- the text before the style sheet: by its policy the page loads nothing and runs no script
abbrev pub page_start : List ℕ
page_start =
    codes "<!DOCTYPE html>\n<html lang=en><head><meta charset=utf-8><title>Traces</title>\n"
    ++ (codes "<meta name=viewport content=\"width=device-width, initial-scale=1\">\n"
    ++ (codes "<meta http-equiv=Content-Security-Policy content="
    ++ codes "\"default-src 'none'; style-src 'unsafe-inline'\">\n<style>\n"))

-- the text between the style sheet and the traces
abbrev pub page_body : List ℕ
page_body = codes "</style></head>\n<body><main><h1>Traces</h1>\n"

-- the text after the traces
abbrev pub page_end : List ℕ
page_end = codes "</main></body></html>\n"

-- the text before the traces, of which the style sheet has no `<`, so it doesn't end its element
pub record IsHead (text : List ℕ) : Type 0 where
  pub is : text ≡ page_start ++ STYLE.now ++ page_body
  pub style : list_any (λ c. c == 60) STYLE.now ≡ false

-- the text is the head of a page and these traces
pub record AreTraces (alone : Bool) (traces : List PageTrace) (text : List ℕ) : Type 0 where
  pub head : List ℕ
  pub is_head : IsHead head
  pub once : All HasEachSpan traces
  pub is : text ≡ head ++ flat_map (trace_text alone) traces

-- the text is the page of these traces, in this order
abbrev pub IsPage : List PageTrace → List ℕ → Type 0
IsPage traces text =
    (shown : List ℕ) × AreTraces (length traces == 1) traces shown × (text ≡ shown ++ page_end)
