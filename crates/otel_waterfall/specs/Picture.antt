-- The picture of a batch. Not in the Rust crates.
use Rattle.std.specs.Prelude.{◌≡◌, ℕ, ◌+◌, ◌-◌, ◌^◌, ◌==◌, min, max, codes, refl}
use Rattle.std.specs.Prelude.{Bool, ◌&&◌, if◌then◌else◌, encode_utf8_all, chars}
use Rattle.std.specs.Prelude.{List, [], ◌∷◌, ◌++◌, length, take, map, filter, replicate}
use Rattle.std.specs.Prelude.{slice_get, All}
use Rattle.std.specs.Fmt.{decimal}
use Rattle.std.specs.List.{fold, join_by, list_any}
use Rattle.std.specs.Option.{option_map_or}
use Rattle.otel_ids.specs.Ids.{id_text}
use Rattle.otel_sdk_span.specs.SpanData.{SpanRecord}
use Rattle.otel_waterfall.specs.Bar.{bar_text}
use Rattle.otel_waterfall.specs.Columns.{bar_width, name_width}
use Rattle.otel_waterfall.specs.Drawn.{Look, look_of}
use Rattle.otel_waterfall.specs.Duration.{duration_text}
use Rattle.otel_waterfall.specs.Line.{name_text, outcome_text}
use Rattle.otel_waterfall.specs.Name.{fitted, shown_name}
use Rattle.otel_waterfall.specs.Rows.{AreDrawnOnce, rows_of}
use Rattle.otel_waterfall.specs.declared.bar.Scale.{Scale}
use Rattle.otel_waterfall.specs.declared.columns.Style.{Style}
use Rattle.otel_waterfall.specs.declared.rows.Row.{Row}
use Rattle.otel_waterfall.specs.declared.rows.Row.TheVariants.{Span, Absent}

-- ---- lines
-- the bytes of a line: its characters in UTF-8, and a newline
abbrev pub line_text : List ℕ → List ℕ
line_text line = encode_utf8_all line ++ 10 ∷ []

-- the characters without the spaces at their end
abbrev pub without_last_spaces : List ℕ → List ℕ
without_last_spaces [] = []
without_last_spaces (c ∷ cs) =
    if c == 32 && length (without_last_spaces cs) == 0 then [] else c ∷ without_last_spaces cs

-- a duration in nine columns, with a space on either side
abbrev pub duration_column : List ℕ → List ℕ
duration_column text = replicate (1 + (9 - length text)) 32 ++ chars text ++ 32 ∷ []

-- the line of a span, below the rows of these ancestors, in a trace with this time
abbrev pub span_line : Bool → ℕ → ℕ → ℕ → Look → List Bool → List ℕ
span_line ascii width from to s follows =
    without_last_spaces (name_text ascii width follows s.name
    ++ duration_column (duration_text s.start s.end)
    ++ bar_text ascii (bar_width width) from to s.start s.end s.moments
    ++ 32 ∷ chars (outcome_text s.outcome))

-- the line of a parent that isn't in the batch: its id, and whether it is remote according to this
-- child
abbrev pub absent_line : Bool → ℕ → Look → List ℕ
absent_line ascii width child =
    fitted ascii (name_width width) (shown_name ascii
    ((if child.is_parent_remote then codes "[remote " else codes "[missing ")
    ++ id_text 16 child.parent_span_id ++ codes "]"))

-- ---- rows
-- whether siblings follow the ancestors of a row and the row itself, for a row at a depth below
-- such a row
abbrev pub moved_to : ℕ → Bool → List Bool → List Bool
moved_to depth own follows = take (depth - 1) follows ++ (if depth == 0 then [] else own ∷ [])

-- the same for a row; a parent that isn't in the batch changes nothing
abbrev pub follows_at : List Bool → Row → List Bool
follows_at follows (Span place depth own) = moved_to depth own follows
follows_at follows (Absent child) = follows

-- a trace with this time among these spans
module _ (ascii : Bool) (width from to : ℕ) (spans : List Look) where
  -- the line of a row
  abbrev pub row_text : List Bool → Row → List ℕ
  row_text follows (Span place depth own) =
      option_map_or (λ s. line_text (span_line ascii width from to s follows))
      (slice_get spans place) []
  row_text follows (Absent child) =
      option_map_or (λ s. line_text (absent_line ascii width s)) (slice_get spans child) []

  -- the lines of rows below such a row
  abbrev pub rows_text : List Bool → List Row → List ℕ
  rows_text follows [] = []
  rows_text follows (r ∷ more) =
      row_text (follows_at follows r) r ++ rows_text (follows_at follows r) more

-- the text changed from `old` to `new` by the line of a row, below such a row
abbrev pub AddsRow : Style → Scale → List Look → List Bool → Row → List ℕ → List ℕ → Type 0
AddsRow style scale spans follows row old new =
    new ≡ old ++ row_text style.is_ascii style.width scale.from scale.to spans follows row

-- ---- traces
-- the spans of a trace
abbrev pub spans_of : ℕ → List Look → List Look
spans_of trace spans = filter (λ s. s.trace_id == trace) spans

-- the least start of spans
abbrev pub least_start : List Look → ℕ
least_start spans = fold min (2 ^ 64 - 1) (map (λ s. s.start) spans)

-- the greatest end of spans; an end before the start counts as the start
abbrev pub greatest_end : List Look → ℕ
greatest_end spans = fold max 0 (map (λ s. max s.start s.end) spans)

-- the word for this number of spans
abbrev pub spans_word : ℕ → List ℕ
spans_word count = if count == 1 then codes "span" else codes "spans"

-- the first line of a trace: its id, its duration and the number of its spans
abbrev pub head_text : ℕ → ℕ → ℕ → ℕ → List ℕ
head_text trace from to count =
    codes "trace " ++ (id_text 32 trace ++ (codes " " ++ (duration_text from to ++ (codes " "
    ++ (decimal count ++ (codes " " ++ (spans_word count ++ codes "\n")))))))

-- the picture of a trace with these rows, if it has these spans
abbrev pub lines_of : Bool → ℕ → List Look → List Look → ℕ → List Row → List ℕ
lines_of ascii width spans own trace rows =
    head_text trace (least_start own) (greatest_end own) (length own)
    ++ rows_text ascii width (least_start own) (max (greatest_end own) (least_start own)) spans []
    rows

-- the picture of a trace of the spans
abbrev pub trace_text : Bool → ℕ → List Look → ℕ → List ℕ
trace_text ascii width spans trace =
    lines_of ascii width spans (spans_of trace spans) trace (rows_of trace spans)

-- every span of the trace has one of its rows, and no other span has one
abbrev pub HasEachSpan : List Look → ℕ → Type 0
HasEachSpan spans trace =
    AreDrawnOnce (map (λ s. s.trace_id == trace) spans) (rows_of trace spans)

-- the text changed from `old` to `new` by the picture of a trace of the spans
pub record AddsTrace (ascii : Bool) (width : ℕ) (spans : List Look) (trace : ℕ)
    (old new : List ℕ) : Type 0 where
  pub once : HasEachSpan spans trace
  pub is : new ≡ old ++ trace_text ascii width spans trace

-- ---- pictures
-- the text and an empty line, unless it is empty
abbrev pub with_gap : List ℕ → List ℕ
with_gap text = if length text == 0 then text else text ++ 10 ∷ []

-- a trace, unless an earlier span belongs to it
abbrev pub new_trace : List Look → ℕ → List ℕ
new_trace before trace = if list_any (λ s. s.trace_id == trace) before then [] else trace ∷ []

-- the traces of these spans, in the order in which they first appear; `before` are the spans
-- before them
abbrev pub first_traces : List Look → List Look → List ℕ
first_traces before [] = []
first_traces before (s ∷ more) =
    new_trace before s.trace_id ++ first_traces (before ++ s ∷ []) more

-- the text is the pictures of these traces, separated by empty lines
pub record ArePictures (ascii : Bool) (width : ℕ) (spans : List Look) (traces text : List ℕ)
    : Type 0 where
  pub once : All (HasEachSpan spans) traces
  pub is : text ≡ join_by (trace_text ascii width spans) (10 ∷ []) traces

-- A text of the pictures of some traces changed from `old` to `new` by the picture of one more,
-- unless one of the spans `before` belongs to it.
abbrev pub AddsNewTrace : Bool → ℕ → List Look → List Look → ℕ → List ℕ → List ℕ → Type 0
AddsNewTrace ascii width spans before trace old new =
    (traces : List ℕ) → ArePictures ascii width spans traces old
    → ArePictures ascii width spans (traces ++ new_trace before trace) new

-- the text is the picture of the spans: each of their traces once, in the order in which they first
-- appear
abbrev pub IsPicture : Bool → ℕ → List Look → List ℕ → Type 0
IsPicture ascii width spans text = ArePictures ascii width spans (first_traces [] spans) text

-- the text is the picture of a batch
abbrev pub IsPictureOf : Bool → ℕ → List SpanRecord → List ℕ → Type 0
IsPictureOf ascii width batch text = IsPicture ascii width (map (look_of ascii) batch) text

-- ---- worked rows
no_spaces_at_the_end : without_last_spaces (codes " a b  ") ≡ codes " a b"
no_spaces_at_the_end = refl
