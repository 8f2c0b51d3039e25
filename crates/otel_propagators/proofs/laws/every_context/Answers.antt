use Rattle.std.proofs.Common.{rules}
use Rattle.otel_propagators.proofs.Kept.{without_baggage}
use Rattle.otel_propagators.proofs.laws.every_context.Goals as goal

pub returns-in_default : goal.returns-in_default
returns-in_default c =
    without_baggage c.args.context.now c.span_context-span_context.result.now c.span_context-span_context.ensures
    (record { trace_id = search rules; span_id = search rules; trace_flags = search rules; trace_state = search rules })
    c.baggage.result c.in_default.is c.baggage.ensures
