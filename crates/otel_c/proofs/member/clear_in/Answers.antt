use Rattle.otel_c.proofs.member.clear_in.Goals as goal

pub returns-clause-context : goal.returns-clause-context
returns-clause-context c = record {
  context = c.in_ok-context.context;
  from = c.in_ok-context.ensures.copy;
  is = c.in_ok-with_cleared_baggage.ensures.cleared;
}
