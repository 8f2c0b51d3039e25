use Rattle.std.proofs.Common.{ap, is_some}
use Rattle.opentelemetry.specs.View.{builder_of}
use Rattle.opentelemetry.proofs.LocalLemmas.{found-built, starts-alone}
use Rattle.opentelemetry.proofs.trace.tracing.local.LocalTracing.start_alone.Goals as goal

pub begin-requires-clause-held : goal.begin-requires-clause-held
begin-requires-clause-held g c =
    ap is_some (found-built g.B.SpanSource.calls g.B.Span.Span.context_of _ c.args.parent.now c.in_ok-number.context c.reserve.new.self
    c.build.new.spans c.in_ok-number.number c.in_ok-number.ensures.built c.in_ok-number.ensures.number)

pub returns-clause-started : goal.returns-clause-started
returns-clause-started g c =
    starts-alone g.B.SpanSource.calls g.B.Span.Span.context_of (builder_of c.args.builder) c.args.parent.now c.in_ok-number.context
    c.self.inside.spans c.reserve.new.self c.build.new.spans c.begin.new.self c.in_ok-number.number c.self.inside.stack.live
    c.self.inside.unrecorded c.args.self.now c.self.view_is c.reserve.ensures.same c.in_ok-number.ensures.built
    c.in_ok-number.ensures.number c.begin.ensures
