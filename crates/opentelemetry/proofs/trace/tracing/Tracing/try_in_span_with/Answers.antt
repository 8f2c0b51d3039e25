use Rattle.std.proofs.Common.{inl, inr, rules}
use Rattle.opentelemetry.proofs.trace.tracing.Tracing.try_in_span_with.Goals as goal

pub returns-in-Ok : goal.returns-in-Ok
returns-in-Ok g c = inl (record {
  entered = c.in-Ok.entered;
  lent = c.enter_with.new.self;
  left = c.work-out.new.arg2;
  enters = c.in-Ok.ensures.entered;
  ran = search rules;
  exits = c.exit_with.ensures;
})

pub returns-in-Err : goal.returns-in-Err
returns-in-Err g c = inr (record {
  lent = c.count_unrecorded.new.self;
  none = g.Self.Tracing.held c.enter_with.new.self;
  refused = c.in-Err.ensures.refused.none;
  counted = c.count_unrecorded.ensures;
  ran = search rules;
})
