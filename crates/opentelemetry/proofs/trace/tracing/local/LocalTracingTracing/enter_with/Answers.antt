use Rattle.std.proofs.Common.{rules}
use Rattle.opentelemetry.specs.View.{builder_of}
use Rattle.opentelemetry.proofs.LocalLemmas.{tries-to_enter}
use Rattle.opentelemetry.proofs.trace.tracing.local.LocalTracingTracing.enter_with.Goals as goal

pub returns : goal.returns
returns g c =
    tries-to_enter g.B.SpanSource.calls g.B.Span.Span.context_of (builder_of c.args.builder) c.enter_span.result c.args.self.now
    c.enter_span.new.self (search rules) c.enter_span.ensures.entered c.enter_span.ensures.refused c.enter_span.ensures.full c.enter_span.ensures.used_up
