use Rattle.std.proofs.Common.{◌≡◌, List, length, ap, rules, arith}
use Rattle.std.proofs.lemmas.List.{nil_from_length}
use Rattle.opentelemetry.specs.Tracing.{TracingState}
use Rattle.opentelemetry.specs.declared.trace.tracing.open_spans.OpenSpan.{OpenSpan}
use Rattle.opentelemetry.proofs.LocalLemmas.{all-at_start, all-done, all-ended}
use Rattle.opentelemetry.proofs.trace.tracing.local.LocalTracing.end_all.Goals as goal

pub loop-self-init : goal.loop-self-init
loop-self-init g c =
    all-at_start g.B.SpanSource.calls g.B.Span.Span.after_end c.now-now.result _ c.args.self.now c.is_sound.ensures.falling

pub loop-self-smaller : goal.loop-self-smaller
loop-self-smaller g c =
    (all-ended g.B.SpanSource.calls g.B.Span.Span.after_end c.now-now.result c.args.self.now c.loop-self.self c.end_newest.new.self
    c.loop-self.invariant c.end_newest.ensures).1

pub loop-self-preserved : goal.loop-self-preserved
loop-self-preserved g c =
    (all-ended g.B.SpanSource.calls g.B.Span.Span.after_end c.now-now.result c.args.self.now c.loop-self.self c.end_newest.new.self
    c.loop-self.invariant c.end_newest.ensures).0

pub returns-clause-ends : goal.returns-clause-ends
returns-clause-ends g c =
    let places : c.self-in-loop-self.inside.spans.places ≡ c.loop-self.self.places =
    ap (λ (t : TracingState g.row.B.Denot g.row.B-Span.Denot). t.places) c.self-in-loop-self.view_is in
    let count = ap (λ (l : List OpenSpan). length l) places in
    record {
      timestamp = c.now-now.result;
      shown = search rules;
      each = all-done g.B.SpanSource.calls g.B.Span.Span.after_end c.now-now.result c.args.self.now c.loop-self.self c.loop-self.invariant
          (omega arith);
    }

pub returns-clause-none_open : goal.returns-clause-none_open
returns-clause-none_open g c =
    let places : c.self-in-loop-self.inside.spans.places ≡ c.loop-self.self.places =
    ap (λ (t : TracingState g.row.B.Denot g.row.B-Span.Denot). t.places) c.self-in-loop-self.view_is in
    let count = ap (λ (l : List OpenSpan). length l) places in
    nil_from_length c.loop-self.self.places (omega arith)
