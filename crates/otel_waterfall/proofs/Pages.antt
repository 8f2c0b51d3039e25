-- Pages of traces, one after another.
use Rattle.std.proofs.Common.{◌≡◌, ℕ, Bool, List, [], ◌∷◌, ◌++◌, length, map, take, get_or, max, sym, ap, ◌∙◌, ◌+◌, ◌<◌, append_assoc, subst, codes}
use Rattle.std.specs.Prelude.{◌==◌, count_by}
use Rattle.std.specs.List.{flat_map}
use Rattle.std.proofs.lemmas.Grind.{flat_map-append}
use Rattle.std.proofs.lemmas.List.{append-nil, take_more}
use Rattle.std.proofs.lemmas.List.Elements.{All-append, All-nil, All-cons}
use Rattle.otel_waterfall.specs.Drawn.{Look, look}
use Rattle.otel_waterfall.specs.Page as spec
use Rattle.otel_waterfall.specs.Picture.{HasEachSpan, spans_of, least_start, greatest_end}
use Rattle.otel_waterfall.specs.Rows.{AreDrawnOnce, rows_of}
use Rattle.otel_waterfall.specs.declared.page.PageSpan.{PageSpan}
use Rattle.otel_waterfall.specs.declared.page.PageTrace.{PageTrace}
use Rattle.otel_waterfall.specs.declared.rows.Row.{Row}
use Rattle.otel_waterfall.specs.declared.span.Span.{Span}
use Rattle.otel_waterfall.proofs.Traces.{has_each_span}

-- ---- one trace
joined : (old o h r d a b c new : List ℕ) → a ≡ old ++ o → b ≡ a ++ h → c ≡ b ++ r → new ≡ c ++ d → new ≡ old ++ (o ++ (h ++ (r ++ d)))
joined old o h r d a b c new e₁ e₂ e₃ e₄ =
    e₄ ∙ ap (λ (x : List ℕ). x ++ d) (e₃ ∙ ap (λ (x : List ℕ). x ++ r) (e₂ ∙ ap (λ (x : List ℕ). x ++ h) e₁))
    ∙ append_assoc ((old ++ o) ++ h) r d ∙ append_assoc (old ++ o) h (r ++ d) ∙ append_assoc old o (h ++ (r ++ d))

pub trace_shape : (alone : Bool) (trace : PageTrace) (spans : List Look) (rs : List Row) (ps : List PageSpan) (from to top count errors first : ℕ) (o old a b c new : List ℕ)
    → count ≡ length (spans_of trace.trace_id spans)
    → from ≡ least_start (spans_of trace.trace_id spans)
    → to ≡ greatest_end (spans_of trace.trace_id spans)
    → errors ≡ count_by (spec.is_failed trace.trace_id) spans
    → top ≡ max to from
    → first ≡ spec.first_place rs
    → ps ≡ trace.spans.items
    → o ≡ spec.opening alone
    → a ≡ old ++ o
    → b ≡ a ++ spec.head trace from to count errors first
    → c ≡ b ++ spec.rows spec.cells from top ps rs
    → new ≡ c ++ codes "</details>\n"
    → new ≡ old ++ spec.trace_with alone trace spans rs
trace_shape alone trace spans rs ps from to top count errors first o old a b c new count_is from_is to_is errors_are top_is first_is ps_are o_is opened headed rowed ended =
    let own = spans_of trace.trace_id spans in
    let shape = λ (o' : List ℕ) (f t p k e i : ℕ) (s : List PageSpan). old ++ (o' ++ (spec.head trace f t k e i ++ (spec.rows spec.cells f p s rs ++ codes "</details>\n"))) in
    joined old o (spec.head trace from to count errors first) (spec.rows spec.cells from top ps rs) (codes "</details>\n") a b c new opened headed rowed ended
    ∙ ap (λ (x : List ℕ). shape x from to top count errors first ps) o_is
    ∙ ap (λ (x : List PageSpan). shape (spec.opening alone) from to top count errors first x) ps_are
    ∙ ap (λ (x : ℕ). shape (spec.opening alone) from to top count errors x trace.spans.items) first_is
    ∙ ap (λ (x : ℕ). shape (spec.opening alone) from to top count x (spec.first_place rs) trace.spans.items) errors_are
    ∙ ap (λ (x : ℕ). shape (spec.opening alone) from to top x (count_by (spec.is_failed trace.trace_id) spans) (spec.first_place rs) trace.spans.items) count_is
    ∙ ap (λ (x : ℕ). shape (spec.opening alone) from to x (length own) (count_by (spec.is_failed trace.trace_id) spans) (spec.first_place rs) trace.spans.items) top_is
    ∙ ap (λ (x : ℕ). shape (spec.opening alone) from x (max x from) (length own) (count_by (spec.is_failed trace.trace_id) spans) (spec.first_place rs) trace.spans.items) to_is
    ∙ ap (λ (x : ℕ). shape (spec.opening alone) x (greatest_end own) (max (greatest_end own) x) (length own) (count_by (spec.is_failed trace.trace_id) spans) (spec.first_place rs) trace.spans.items) from_is

pub adds_trace : (alone : Bool) (trace : PageTrace) (drawn : List Span) (rs : List Row) (old new : List ℕ)
    → map look drawn ≡ spec.looks trace
    → AreDrawnOnce (map (λ (s : Span). s.trace_id == trace.trace_id) drawn) rs
    → rs ≡ rows_of trace.trace_id (map look drawn)
    → new ≡ old ++ spec.trace_with alone trace (map look drawn) rs
    → spec.AddsTrace alone trace old new
adds_trace alone trace drawn rs old new looks_are once rows_are grown = record {
  once = subst (λ (ss : List Look). HasEachSpan ss trace.trace_id) looks_are (has_each_span trace.trace_id drawn rs once rows_are);
  is =
      grown ∙ ap (λ (xs : List Row). old ++ spec.trace_with alone trace (map look drawn) xs) rows_are
      ∙ ap (λ (ss : List Look). old ++ spec.trace_with alone trace ss (rows_of trace.trace_id ss)) looks_are;
}

-- ---- traces
pub no_traces : (alone : Bool) (text : List ℕ) → spec.IsHead text → spec.AreTraces alone [] text
no_traces alone text h = record { head = text; is_head = h; once = All-nil spec.HasEachSpan; is = sym (append-nil text) }

pub traces_more : (alone : Bool) (traces : List PageTrace) (trace : PageTrace) (old new : List ℕ) → spec.AreTraces alone traces old → spec.AddsTrace alone trace old new → spec.AreTraces alone (traces ++ trace ∷ []) new
traces_more alone traces trace old new p adds =
    let f = spec.trace_text alone in
    record {
      head = p.head;
      is_head = p.is_head;
      once = All-append spec.HasEachSpan traces (trace ∷ []) p.once (All-cons spec.HasEachSpan trace [] adds.once (All-nil spec.HasEachSpan));
      is =
          adds.is ∙ ap (λ (x : List ℕ). x ++ f trace) p.is
          ∙ append_assoc p.head (flat_map f traces) (f trace)
          ∙ ap (λ (x : List ℕ). p.head ++ x)
          (ap (λ (x : List ℕ). flat_map f traces ++ x) (sym (append-nil (f trace))) ∙ sym (flat_map-append f traces (trace ∷ [])));
    }

pub traces_turn : (alone : Bool) (traces : List PageTrace) (i : ℕ) (d : PageTrace) (old new : List ℕ) → i < length traces
    → spec.AreTraces alone (take i traces) old → spec.AddsTrace alone (get_or traces i d) old new → spec.AreTraces alone (take (i + 1) traces) new
traces_turn alone traces i d old new below p adds =
    subst (λ (ts : List PageTrace). spec.AreTraces alone ts new) (sym (take_more traces i d below)) (traces_more alone (take i traces) (get_or traces i d) old new p adds)
