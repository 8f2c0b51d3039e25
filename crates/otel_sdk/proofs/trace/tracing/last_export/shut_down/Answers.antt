use Rattle.std.proofs.Common.{rules}
use Rattle.otel_sdk.specs.Exports.{ShutsDown}
use Rattle.otel_sdk.specs.LastExport.{none}
use Rattle.otel_sdk.proofs.TimerLemmas.{is_last, one_try_more}
use Rattle.otel_sdk.proofs.trace.tracing.last_export.shut_down.Goals as goal

pub loop-tracing-init : goal.loop-tracing-init
loop-tracing-init g c = record {
  tried = record {
    before = c.args.tracing.now;
    tries = none c.args.tracing.now c.args.timer;
    last = c.shutdown-answer.ensures.shuts_down;
  };
  none_open = c.shutdown-answer.ensures.none_open;
  closed = c.shutdown-answer.ensures.closed;
}

pub loop-tracing-preserved : goal.loop-tracing-preserved
loop-tracing-preserved g c = record {
  tried = record {
    before = c.loop-tracing.tracing;
    tries = one_try_more (λ answer old new. ShutsDown g.T.Source.SpanSource.calls g.T.Processors.SpanProcessor.calls g.T.Exports.processors_of
        g.T.Source.Span.Span.after_end answer (g.T.Tracing.held old) (g.T.Tracing.held new))
        (λ t. g.T.Processors.SpanProcessor.calls.is_shut_down (g.T.Exports.processors_of (g.T.Tracing.held t).source))
        (g.C.Clock.reads c.args.clock.now) c.args.timer
        c.loop-tracing.timer c.wait.new.self c.loop-tracing.answer c.args.tracing.now c.loop-tracing.tracing
        (search rules) (search rules) (search rules) c.loop-tracing.invariant.tried;
    last = c.shutdown-answer-in-loop-tracing.ensures.shuts_down;
  };
  none_open = c.shutdown-answer-in-loop-tracing.ensures.none_open;
  closed = c.shutdown-answer-in-loop-tracing.ensures.closed;
}

pub returns-else-wait-clause-last : goal.returns-else-wait-clause-last
returns-else-wait-clause-last g c =
    is_last (λ answer old new. ShutsDown g.T.Source.SpanSource.calls g.T.Processors.SpanProcessor.calls g.T.Exports.processors_of
    g.T.Source.Span.Span.after_end answer (g.T.Tracing.held old) (g.T.Tracing.held new))
    (λ t. g.T.Processors.SpanProcessor.calls.is_shut_down (g.T.Exports.processors_of (g.T.Tracing.held t).source))
    (g.C.Clock.reads c.args.clock.now) c.args.timer c.loop-tracing.timer
    c.loop-tracing.answer c.args.tracing.now c.loop-tracing.tracing c.loop-tracing.invariant.tried (search rules)

pub returns-else-not-is_shut_down-clause-last : goal.returns-else-not-is_shut_down-clause-last
returns-else-not-is_shut_down-clause-last g c =
    is_last (λ answer old new. ShutsDown g.T.Source.SpanSource.calls g.T.Processors.SpanProcessor.calls g.T.Exports.processors_of
    g.T.Source.Span.Span.after_end answer (g.T.Tracing.held old) (g.T.Tracing.held new))
    (λ t. g.T.Processors.SpanProcessor.calls.is_shut_down (g.T.Exports.processors_of (g.T.Tracing.held t).source))
    (g.C.Clock.reads c.args.clock.now) c.args.timer c.loop-tracing.timer
    c.loop-tracing.answer c.args.tracing.now c.loop-tracing.tracing c.loop-tracing.invariant.tried (search rules)

pub returns-after-loop-tracing-clause-last : goal.returns-after-loop-tracing-clause-last
returns-after-loop-tracing-clause-last g c =
    is_last (λ answer old new. ShutsDown g.T.Source.SpanSource.calls g.T.Processors.SpanProcessor.calls g.T.Exports.processors_of
    g.T.Source.Span.Span.after_end answer (g.T.Tracing.held old) (g.T.Tracing.held new))
    (λ t. g.T.Processors.SpanProcessor.calls.is_shut_down (g.T.Exports.processors_of (g.T.Tracing.held t).source))
    (g.C.Clock.reads c.args.clock.now) c.args.timer c.loop-tracing.timer
    c.loop-tracing.answer c.args.tracing.now c.loop-tracing.tracing c.loop-tracing.invariant.tried (search rules)
