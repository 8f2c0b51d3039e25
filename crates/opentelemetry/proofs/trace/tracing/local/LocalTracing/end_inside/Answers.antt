use Rattle.std.proofs.Common.{◌≡◌, ◌∙◌, ◌<◌, ◌-◌, List, length, reverse, Some, ap, sym, subst, rules, arith}
use Rattle.std.specs.Prelude.{slice_get}
use Rattle.std.proofs.lemmas.Bool.{false≢true}
use Rattle.opentelemetry.specs.Tracing.{EndsEach, TracingState, ending, is_inside_at}
use Rattle.opentelemetry.specs.declared.trace.tracing.open_spans.OpenSpan.{OpenSpan}
use Rattle.opentelemetry.proofs.LocalLemmas.{Rest, rest-at_start, rest-within, rest-done, rest-ended, rest-itself, rest-last, rest-passed}
use Rattle.opentelemetry.proofs.trace.tracing.local.LocalTracing.end_inside.Goals.{then-is_inside, else-is_inside}
use Rattle.opentelemetry.proofs.trace.tracing.local.LocalTracing.end_inside.Goals as goal

pub loop-index-init : goal.loop-index-init
loop-index-init g c =
    let places : c.self.inside.spans.places ≡ c.args.self.now.places =
    ap (λ (t : TracingState g.row.B.Denot g.row.B-Span.Denot). t.places) c.self.view_is in
    rest-at_start g.B.SpanSource.calls g.B.Span.Span.after_end c.now-timestamp.result c.args.outer c.len-index.result _ c.args.self.now
    c.is_sound.ensures.falling (c.len-index.ensures ∙ ap (λ (l : List OpenSpan). length l) places)

pub place-number-requires : goal.place-number-requires
place-number-requires g c =
    let places : c.self-in-loop-index.inside.spans.places ≡ c.loop-index.self.places =
    ap (λ (t : TracingState g.row.B.Denot g.row.B-Span.Denot). t.places) c.self-in-loop-index.view_is in
    subst (λ (l : List OpenSpan). c.loop-index.index - 1 < length l) (sym places)
    (rest-within g.B.SpanSource.calls g.B.Span.Span.after_end c.now-timestamp.result c.args.outer c.loop-index.index c.args.self.now
    c.loop-index.self c.loop-index.invariant c.loop-index-test.true)

pub is_inside-requires : goal.is_inside-requires
is_inside-requires g c =
    let places : c.self-in-loop-index.inside.spans.places ≡ c.loop-index.self.places =
    ap (λ (t : TracingState g.row.B.Denot g.row.B-Span.Denot). t.places) c.self-in-loop-index.view_is in
    subst (λ (l : List OpenSpan). c.loop-index.index - 1 < length l) (sym places)
    (rest-within g.B.SpanSource.calls g.B.Span.Span.after_end c.now-timestamp.result c.args.outer c.loop-index.index c.args.self.now
    c.loop-index.self c.loop-index.invariant c.loop-index-test.true)

pub end_at-requires : goal.end_at-requires
end_at-requires g c =
    rest-within g.B.SpanSource.calls g.B.Span.Span.after_end c.now-timestamp.result c.args.outer c.loop-index.index c.args.self.now c.loop-index.self
    c.loop-index.invariant c.loop-index-test.true

pub returns-then-number-outer : goal.returns-then-number-outer
returns-then-number-outer g c =
    let places : c.self-in-loop-index.inside.spans.places ≡ c.loop-index.self.places =
    ap (λ (t : TracingState g.row.B.Denot g.row.B-Span.Denot). t.places) c.self-in-loop-index.view_is in
    let at : slice_get (reverse c.loop-index.self.places) (c.loop-index.index - 1) ≡ Some c.place-number.result =
    sym (ap (λ (l : List OpenSpan). slice_get (reverse l) (c.loop-index.index - 1)) places) ∙ c.place-number.ensures in
    let tested : c.is_inside.result ≡ is_inside_at c.args.outer (c.loop-index.index - 1) c.loop-index.self.places =
    c.is_inside.ensures ∙ ap (λ (l : List OpenSpan). is_inside_at c.args.outer (c.loop-index.index - 1) l) places in
    let each : EndsEach g.B.SpanSource.calls g.B.Span.Span.after_end c.now-timestamp.result (ending c.args.outer c.args.self.now.places)
    c.args.self.now c.if-is_inside.self = elim c.if-is_inside.branch [
      | then-is_inside w ↦
          let p = w.end_at.ensures in
          let same : p.0 ≡ c.place-number.result = cc (at, p.1) in
          subst (λ (t : TracingState g.row.B.Denot g.row.B-Span.Denot). EndsEach g.B.SpanSource.calls g.B.Span.Span.after_end
          c.now-timestamp.result (ending c.args.outer c.args.self.now.places) c.args.self.now t) (sym w.self-is)
          (rest-last g.B.SpanSource.calls g.B.Span.Span.after_end c.now-timestamp.result c.args.outer c.loop-index.index c.args.self.now
          c.loop-index.self w.end_at.new.self c.loop-index.invariant c.loop-index-test.true p.0 p.1
          (ap (λ (x : OpenSpan). x.number) same ∙ c.if-number-outer.true) p.2)
      | else-is_inside w ↦
          let itself = rest-itself g.B.SpanSource.calls g.B.Span.Span.after_end c.now-timestamp.result c.args.outer c.loop-index.index c.args.self.now
          c.loop-index.self c.loop-index.invariant c.loop-index-test.true c.place-number.result at c.if-number-outer.true in
          absurd (false≢true (sym w.if-is_inside.false ∙ tested ∙ itself))
    ] in
    record {
      timestamp = c.now-timestamp.result;
      shown = search rules;
      each = each;
    }

pub loop-index-preserved : goal.loop-index-preserved
loop-index-preserved g c =
    let places : c.self-in-loop-index.inside.spans.places ≡ c.loop-index.self.places =
    ap (λ (t : TracingState g.row.B.Denot g.row.B-Span.Denot). t.places) c.self-in-loop-index.view_is in
    let tested : c.is_inside.result ≡ is_inside_at c.args.outer (c.loop-index.index - 1) c.loop-index.self.places =
    c.is_inside.ensures ∙ ap (λ (l : List OpenSpan). is_inside_at c.args.outer (c.loop-index.index - 1) l) places in
    elim c.if-is_inside.branch [
      | then-is_inside w ↦
          let p = w.end_at.ensures in
          subst (λ (t : TracingState g.row.B.Denot g.row.B-Span.Denot). Rest g.B.SpanSource.calls g.B.Span.Span.after_end
          c.now-timestamp.result c.args.outer (c.loop-index.index - 1) c.args.self.now t) (sym w.self-is)
          (rest-ended g.B.SpanSource.calls g.B.Span.Span.after_end c.now-timestamp.result c.args.outer c.loop-index.index c.args.self.now
          c.loop-index.self w.end_at.new.self c.loop-index.invariant c.loop-index-test.true (sym tested ∙ w.if-is_inside.true) p.0 p.1 p.2)
      | else-is_inside w ↦
          subst (λ (t : TracingState g.row.B.Denot g.row.B-Span.Denot). Rest g.B.SpanSource.calls g.B.Span.Span.after_end
          c.now-timestamp.result c.args.outer (c.loop-index.index - 1) c.args.self.now t) (sym w.self-is)
          (rest-passed g.B.SpanSource.calls g.B.Span.Span.after_end c.now-timestamp.result c.args.outer c.loop-index.index c.args.self.now
          c.loop-index.self c.loop-index.invariant c.loop-index-test.true (sym tested ∙ w.if-is_inside.false))
    ]

pub returns : goal.returns
returns g c = record {
  timestamp = c.now-timestamp.result;
  shown = search rules;
  each = rest-done g.B.SpanSource.calls g.B.Span.Span.after_end c.now-timestamp.result c.args.outer c.loop-index.index c.args.self.now c.loop-index.self
      c.loop-index.invariant (omega arith);
}
