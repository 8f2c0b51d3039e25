-- Pictures of traces, one after another.
use Rattle.std.proofs.Common.{◌≡◌, ℕ, ◌+◌, ◌-◌, ◌^◌, ◌<◌, ◌||◌, Bool, true, false, List, [], ◌∷◌, ◌++◌, length, take, drop, get_or, map, min, max, refl, sym, ap, ◌∙◌, arith, cond, append_assoc, subst}
use Rattle.std.specs.Prelude.{◌==◌, Option, Some, None, slice_get, option_map, Result, Ok, Err, OnOk}
use Rattle.std.specs.Option.{option_map_or}
use Rattle.std.proofs.lemmas.Option.{slice_get-map}
use Rattle.std.specs.List.{fold, join_by, list_any, flat_map}
use Rattle.std.proofs.lemmas.Bool.Decides.{nat_tests}
use Rattle.std.proofs.lemmas.Grind.{flat_map-append}
use Rattle.std.proofs.lemmas.List.{append-nil, map-append, take_more, drop_more}
use Rattle.std.proofs.lemmas.List.Elements.{filter-append, All-append, All-nil, All-cons}
use Rattle.std.proofs.lemmas.List.Sums.{fold-append}
use Rattle.otel_waterfall.specs.Drawn.{Look, look}
use Rattle.otel_waterfall.specs.Picture.{spans_of, least_start, greatest_end, row_text, rows_text, follows_at, head_text, trace_text, HasEachSpan, AddsTrace, ArePictures, IsPicture, with_gap, new_trace, first_traces}
use Rattle.otel_waterfall.specs.Rows.{AreDrawnOnce, rows_of}
use Rattle.otel_waterfall.specs.declared.rows.Row.{Row}
use Rattle.otel_waterfall.specs.declared.span.Span.{Span}

-- ---- the spans of a trace
-- with one more span, of this trace or of another
spans_of-more : (trace : ℕ) (batch : List Span) (i : ℕ) (s : Span) → i < length batch → s ≡ get_or batch i s
    → spans_of trace (map look (take (i + 1) batch)) ≡ spans_of trace (map look (take i batch)) ++ spans_of trace (look s ∷ [])
spans_of-more trace batch i s below at =
    ap (λ (xs : List Span). spans_of trace (map look xs)) (take_more batch i s below)
    ∙ ap (λ (x : Span). spans_of trace (map look (take i batch ++ x ∷ []))) (sym at)
    ∙ ap (spans_of trace) (map-append look (take i batch) (s ∷ []))
    ∙ filter-append (λ (x : Look). x.trace_id == trace) (map look (take i batch)) (look s ∷ [])

pub spans_of_own : (trace : ℕ) (batch : List Span) (i : ℕ) (s : Span) → i < length batch → s ≡ get_or batch i s → (s.trace_id == trace) ≡ true
    → spans_of trace (map look (take (i + 1) batch)) ≡ spans_of trace (map look (take i batch)) ++ look s ∷ []
spans_of_own trace batch i s below at own =
    spans_of-more trace batch i s below at
    ∙ ap (λ (b : Bool). spans_of trace (map look (take i batch)) ++ cond b (look s ∷ []) []) own

pub spans_of_other : (trace : ℕ) (batch : List Span) (i : ℕ) (s : Span) → i < length batch → s ≡ get_or batch i s → (s.trace_id == trace) ≡ false
    → spans_of trace (map look (take (i + 1) batch)) ≡ spans_of trace (map look (take i batch))
spans_of_other trace batch i s below at other =
    spans_of-more trace batch i s below at
    ∙ ap (λ (b : Bool). spans_of trace (map look (take i batch)) ++ cond b (look s ∷ []) []) other
    ∙ append-nil (spans_of trace (map look (take i batch)))

pub least_start_more : (xs : List Look) (x : Look) → least_start (xs ++ x ∷ []) ≡ min (least_start xs) x.start
least_start_more xs x =
    ap (fold min (2 ^ 64 - 1)) (map-append (λ (s : Look). s.start) xs (x ∷ []))
    ∙ fold-append min (2 ^ 64 - 1) (map (λ (s : Look). s.start) xs) (x.start ∷ [])

pub greatest_end_more : (xs : List Look) (x : Look) → greatest_end (xs ++ x ∷ []) ≡ max (greatest_end xs) (max x.start x.end)
greatest_end_more xs x =
    ap (fold max 0) (map-append (λ (s : Look). max s.start s.end) xs (x ∷ []))
    ∙ fold-append max 0 (map (λ (s : Look). max s.start s.end) xs) (max x.start x.end ∷ [])

pub ruleset extents = (spans_of_own, spans_of_other, least_start_more, greatest_end_more)

-- ---- rows
pub row_of_some : (f : Look → List ℕ) (batch : List Span) (place : ℕ) (s : Span) → slice_get batch place ≡ Some s → option_map_or f (slice_get (map look batch) place) [] ≡ f (look s)
row_of_some f batch place s at =
    ap (λ (o : Option Look). option_map_or f o []) (slice_get-map look batch place ∙ ap (option_map look) at)

pub row_of_none : (f : Look → List ℕ) (batch : List Span) (place : ℕ) → slice_get batch place ≡ None → option_map_or f (slice_get (map look batch) place) [] ≡ []
row_of_none f batch place at =
    ap (λ (o : Option Look). option_map_or f o []) (slice_get-map look batch place ∙ ap (option_map look) at)

pub rows_turn : (ascii : Bool) (width from to : ℕ) (spans : List Look) (rows : List Row) (i : ℕ) (d : Row) (f g : List Bool) (t u all : List ℕ) → i < length rows
    → t ++ rows_text ascii width from to spans f (drop i rows) ≡ all
    → g ≡ follows_at f (get_or rows i d)
    → u ≡ t ++ row_text ascii width from to spans g (get_or rows i d)
    → u ++ rows_text ascii width from to spans g (drop (i + 1) rows) ≡ all
rows_turn ascii width from to spans rows i d f g t u all below whole moved grown =
    let line = row_text ascii width from to spans in
    let lines = rows_text ascii width from to spans in
    let rest = drop (i + 1) rows in
    let r = get_or rows i d in
    ap (λ (x : List ℕ). x ++ lines g rest) grown
    ∙ append_assoc t (line g r) (lines g rest)
    ∙ ap (λ (h : List Bool). t ++ (line h r ++ lines h rest)) moved
    ∙ ap (λ (xs : List Row). t ++ lines f xs) (sym (drop_more rows i d below))
    ∙ whole

-- ---- traces
pub trace_shape : (ascii : Bool) (width : ℕ) (spans : List Look) (trace from to top count : ℕ) (rows rs : List Row) (old mid new : List ℕ)
    → count ≡ length (spans_of trace spans) → from ≡ least_start (spans_of trace spans) → to ≡ greatest_end (spans_of trace spans)
    → top ≡ max to from → rs ≡ rows → rows ≡ rows_of trace spans
    → mid ≡ old ++ head_text trace from to count
    → new ≡ mid ++ rows_text ascii width from top spans [] rs
    → new ≡ old ++ trace_text ascii width spans trace
trace_shape ascii width spans trace from to top count rows rs old mid new count_is from_is to_is top_is rs_are rows_are head grown =
    grown
    ∙ ap (λ (x : List ℕ). x ++ rows_text ascii width from top spans [] rs) head
    ∙ append_assoc old (head_text trace from to count) (rows_text ascii width from top spans [] rs)
    ∙ ap (λ (x : List ℕ). old ++ x)
    (ap (λ (x : List Row). head_text trace from to count ++ rows_text ascii width from top spans [] x) (rs_are ∙ rows_are)
    ∙ ap (λ (x : ℕ). head_text trace from to count ++ rows_text ascii width from x spans [] (rows_of trace spans)) top_is
    ∙ ap (λ (x : ℕ). head_text trace from to x ++ rows_text ascii width from (max to from) spans [] (rows_of trace spans)) count_is
    ∙ ap (λ (x : ℕ). head_text trace from x (length (spans_of trace spans)) ++ rows_text ascii width from (max x from) spans [] (rows_of trace spans)) to_is
    ∙ ap (λ (x : ℕ). head_text trace x (greatest_end (spans_of trace spans)) (length (spans_of trace spans)) ++ rows_text ascii width x (max (greatest_end (spans_of trace spans)) x) spans [] (rows_of trace spans)) from_is)

-- the consequence of a fact that holds after success
pub map_ok : {X E : Type 0} (P Q : Type 0) (r : Result X E) → (P → Q) → OnOk r P → OnOk r Q
map_ok P Q (Ok x) f p = f p
map_ok P Q (Err e) f p = tt

pub wanted_look : (trace : ℕ) (batch : List Span) → map (λ (s : Span). s.trace_id == trace) batch ≡ map (λ (s : Look). s.trace_id == trace) (map look batch)
wanted_look trace [] = refl
wanted_look trace (s ∷ more) = ap (λ (l : List Bool). (s.trace_id == trace) ∷ l) (wanted_look trace more)

pub has_each_span : (trace : ℕ) (batch : List Span) (rows : List Row) → AreDrawnOnce (map (λ (s : Span). s.trace_id == trace) batch) rows → rows ≡ rows_of trace (map look batch)
    → HasEachSpan (map look batch) trace
has_each_span trace batch rows once is =
    subst (λ (rs : List Row). AreDrawnOnce (map (λ (s : Look). s.trace_id == trace) (map look batch)) rs) is
    (subst (λ (w : List Bool). AreDrawnOnce w rows) (wanted_look trace batch) once)

pub any_look : (trace : ℕ) (batch : List Span) → list_any (λ (s : Span). s.trace_id == trace) batch ≡ list_any (λ (s : Look). s.trace_id == trace) (map look batch)
any_look trace [] = refl
any_look trace (s ∷ more) = ap (λ (b : Bool). (s.trace_id == trace) || b) (any_look trace more)

-- a last span adds its trace, unless that trace appears earlier
first_traces-last : (before xs : List Look) (s : Look) → first_traces before (xs ++ s ∷ []) ≡ first_traces before xs ++ new_trace (before ++ xs) s.trace_id
first_traces-last before [] s = append-nil (new_trace before s.trace_id) ∙ ap (λ (all : List Look). new_trace all s.trace_id) (sym (append-nil before))
first_traces-last before (x ∷ xs) s =
    ap (λ (more : List ℕ). new_trace before x.trace_id ++ more)
    (first_traces-last (before ++ x ∷ []) xs s ∙ ap (λ (all : List Look). first_traces (before ++ x ∷ []) xs ++ new_trace all s.trace_id) (append_assoc before (x ∷ []) xs))
    ∙ sym (append_assoc (new_trace before x.trace_id) (first_traces (before ++ x ∷ []) xs) (new_trace (before ++ x ∷ xs) s.trace_id))

-- the same for the first spans of a batch
pub traces_turn : (batch : List Span) (i : ℕ) (s : Span) → i < length batch → s ≡ get_or batch i s
    → first_traces [] (map look (take i batch)) ++ new_trace (map look (take i batch)) s.trace_id ≡ first_traces [] (map look (take (i + 1) batch))
traces_turn batch i s below at =
    sym (first_traces-last [] (map look (take i batch)) (look s))
    ∙ ap (first_traces []) (sym (map-append look (take i batch) (s ∷ [])))
    ∙ ap (λ (x : Span). first_traces [] (map look (take i batch ++ x ∷ []))) at
    ∙ ap (λ (xs : List Span). first_traces [] (map look xs)) (sym (take_more batch i s below))

-- ---- pictures
join_more : (f : ℕ → List ℕ) (sep : List ℕ) (x : ℕ) (xs : List ℕ) (y : ℕ) → join_by f sep ((x ∷ xs) ++ y ∷ []) ≡ (join_by f sep (x ∷ xs) ++ sep) ++ f y
join_more f sep x xs y =
    let g = λ (z : ℕ). sep ++ f z in
    ap (λ (l : List ℕ). f x ++ l) (flat_map-append g xs (y ∷ []) ∙ ap (λ (l : List ℕ). flat_map g xs ++ l) (append-nil (sep ++ f y)))
    ∙ sym (append_assoc (f x) (flat_map g xs) (sep ++ f y))
    ∙ sym (append_assoc (f x ++ flat_map g xs) sep (f y))

gap_after : (b : ℕ) (bs : List ℕ) → with_gap (b ∷ bs) ≡ (b ∷ bs) ++ 10 ∷ []
gap_after b bs = grind (arith, nat_tests)

gap_at : (xs : List ℕ) (b : ℕ) (bs : List ℕ) → xs ≡ b ∷ bs → with_gap xs ≡ xs ++ 10 ∷ []
gap_at xs b bs e = subst (λ (l : List ℕ). with_gap l ≡ l ++ 10 ∷ []) (sym e) (gap_after b bs)

-- one more trace after these
text_after : (ascii : Bool) (width : ℕ) (spans : List Look) (traces : List ℕ) (trace : ℕ) (old new : List ℕ)
    → old ≡ join_by (trace_text ascii width spans) (10 ∷ []) traces
    → new ≡ with_gap old ++ trace_text ascii width spans trace
    → new ≡ join_by (trace_text ascii width spans) (10 ∷ []) (traces ++ trace ∷ [])
text_after ascii width spans [] trace old new is adds =
    adds ∙ ap (λ (l : List ℕ). with_gap l ++ trace_text ascii width spans trace) is
    ∙ sym (append-nil (trace_text ascii width spans trace))
text_after ascii width spans (t ∷ ts) trace old new is adds =
    adds
    ∙ ap (λ (l : List ℕ). with_gap l ++ trace_text ascii width spans trace) is
    ∙ ap (λ (l : List ℕ). l ++ trace_text ascii width spans trace) (gap_at (join_by (trace_text ascii width spans) (10 ∷ []) (t ∷ ts)) 116 _ refl)
    ∙ sym (join_more (trace_text ascii width spans) (10 ∷ []) t ts trace)

pub pictures_more : (ascii : Bool) (width : ℕ) (spans : List Look) (traces : List ℕ) (trace : ℕ) (old new : List ℕ)
    → ArePictures ascii width spans traces old → AddsTrace ascii width spans trace (with_gap old) new → ArePictures ascii width spans (traces ++ trace ∷ []) new
pictures_more ascii width spans traces trace old new p adds = record {
  once = All-append (HasEachSpan spans) traces (trace ∷ []) p.once (All-cons (HasEachSpan spans) trace [] adds.once (All-nil (HasEachSpan spans)));
  is = text_after ascii width spans traces trace old new p.is adds.is;
}

pub no_pictures : (ascii : Bool) (width : ℕ) (spans : List Look) → ArePictures ascii width spans [] []
no_pictures ascii width spans = record { once = All-nil (HasEachSpan spans); is = refl }

-- no spans have no text
pub no_spans : (ascii : Bool) (width : ℕ) (text : List ℕ) → IsPicture ascii width [] text → text ≡ []
no_spans ascii width text p = p.is
