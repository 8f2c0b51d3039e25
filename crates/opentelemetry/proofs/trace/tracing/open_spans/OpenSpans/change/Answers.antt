use Rattle.opentelemetry.specs.SpanChange.{change_of}
use Rattle.opentelemetry.proofs.OpenLemmas.{change-keeps, sound-change}
use Rattle.opentelemetry.proofs.trace.tracing.open_spans.OpenSpans.change.Goals as goal

pub invariant_of-self : goal.invariant_of-self
invariant_of-self g c = sound-change g.B.SpanSource.calls c.self.inside.source c.self.inside.spans c.change_in.new.spans _ c.args.number
    (change_of g.B.Span.Span.after_event g.B.Span.Span.after_attribute g.B.Span.Span.after_link g.B.Span.Span.after_status
    g.B.Span.Span.after_name c.args.change)
    (change-keeps g.B.SpanSource.calls.ids_of g.B.Span.Span.after_event g.B.Span.Span.after_attribute g.B.Span.Span.after_link
    g.B.Span.Span.after_status g.B.Span.Span.after_name g.B.Span.Span.after_end g.met.B.SpanSource.keeps_ids c.args.change)
    c.change_in.result c.change_in.ensures.ok c.change_in.ensures.err c.self.invariant
