use Rattle.std.proofs.Common.{rules}
use Rattle.opentelemetry.specs.View.{builder_of}
use Rattle.opentelemetry.proofs.LocalLemmas.{tries-to_start}
use Rattle.opentelemetry.proofs.trace.tracing.local.LocalTracingTracing.start_under.Goals as goal

pub returns : goal.returns
returns g c =
    tries-to_start g.B.SpanSource.calls g.B.Span.Span.context_of (builder_of c.args.builder) c.args.parent.now c.start_alone.result c.args.self.now
    c.start_alone.new.self (search rules) c.start_alone.ensures.started c.start_alone.ensures.refused c.start_alone.ensures.positions
    c.start_alone.ensures.used_up
