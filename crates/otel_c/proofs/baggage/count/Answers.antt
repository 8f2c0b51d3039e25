use Rattle.otel_c.proofs.baggage.count.Goals as goal

pub returns-clause-number : goal.returns-clause-number
returns-clause-number c = record {
  context = c.in_ok-context.context;
  from = c.in_ok-context.ensures.copy;
  number = c.len_of.ensures;
}
