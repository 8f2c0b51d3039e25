use Rattle.std.proofs.Common.{◌<◌, ap, is_some, rules, arith}
use Rattle.opentelemetry.specs.View.{builder_of}
use Rattle.otel_context.specs.Stack as stack
use Rattle.opentelemetry.proofs.LocalLemmas.{enters-span, found-built, not-open-built, starts-none}
use Rattle.opentelemetry.proofs.trace.tracing.local.LocalTracing.enter_span.Goals as goal

pub remove-requires : goal.remove-requires
remove-requires g c =
    not-open-built g.B.SpanSource.calls g.B.Span.Span.context_of _ c.in_ok-parent.parent c.in_ok-number.context c.reserve.new.self
    c.build.new.spans c.in_ok-number.number c.in_ok-number.ensures.built c.in_ok-number.ensures.number c.reserve.ensures.below

pub returns-in-Err-clause-refused : goal.returns-in-Err-clause-refused
returns-in-Err-clause-refused g c = record {
  none = starts-none g.B.SpanSource.calls g.B.Span.Span.context_of _ c.in_ok-parent.parent c.in_ok-number.context c.self.inside.spans
      c.reserve.new.self c.build.new.spans c.remove.new.self c.in_ok-number.number c.self.inside.stack.live c.push.new.self.live
      c.self.inside.unrecorded c.args.self.now c.self.view_is c.reserve.ensures.same c.in_ok-number.ensures.built
      c.in_ok-number.ensures.number c.in_ok-number.ensures.fresh c.remove.ensures
      (ap (λ (s : stack.StackState). s.live) c.in-Err.ensures.attaches.err);
  numbers = λ h. absurd (cc);
  positions = λ h. absurd (cc);
}

pub begin-requires-clause-held : goal.begin-requires-clause-held
begin-requires-clause-held g c =
    ap is_some (found-built g.B.SpanSource.calls g.B.Span.Span.context_of _ c.in_ok-parent.parent c.in_ok-number.context c.reserve.new.self
    c.build.new.spans c.in_ok-number.number c.in_ok-number.ensures.built c.in_ok-number.ensures.number)

pub returns-clause-entered : goal.returns-clause-entered
returns-clause-entered g c =
    let left : stack.newest_position c.self.inside.stack.live < stack.last_position =
    omega (arith, c.newest_position.ensures.newest, c.newest_position.ensures.lawful.within, c.if-newest_position.false) in
    let pushed = c.in-Ok.ensures.attaches.accepted left in
    enters-span g.B.SpanSource.calls g.B.Span.Span.context_of (builder_of c.args.builder) c.in_ok-parent.parent c.in_ok-number.context
    c.self.inside.spans c.reserve.new.self c.build.new.spans c.begin.new.self c.in_ok-number.number c.number_of-within.result c.in-Ok.position
    c.self.inside.stack.live c.push.new.self.live c.self.inside.unrecorded c.args.self.now c.self.view_is c.reserve.ensures.same
    (search rules) c.in_ok-number.ensures.built c.in_ok-number.ensures.number c.number_of-within.ensures pushed.0
    (ap (λ (s : stack.StackState). s.live) pushed.1) c.begin.ensures
