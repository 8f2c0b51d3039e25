use Rattle.std.proofs.Common.{IfErr, Result, rules, subst, sym}
use Rattle.opentelemetry.specs.Tracing.{Fails}
use Rattle.opentelemetry.proofs.trace.tracing.Tracing.exit_with.Goals as goal

pub returns-in-Ok : goal.returns-in-Ok
returns-in-Ok g c = record {
  recorded = g.Self.Tracing.held c.args.self.now;
  done = search rules;
  failed = search rules;
  exits = c.exit.ensures;
}

pub returns-in-Err : goal.returns-in-Err
returns-in-Err g c = record {
  recorded = g.Self.Tracing.held c.fail.new.self;
  done = search rules;
  failed =
      subst (λ (r : Result g.row.O.Denot g.row.X.Denot). IfErr r (λ error. Fails g.Self.Source.SpanSource.calls
      g.Self.Source.Span.Span.records g.Self.Source.Span.Span.after_event g.Self.Source.Span.Span.after_status
      (g.X.Display.output error) c.args.entered.number (g.Self.Tracing.held c.args.self.now) (g.Self.Tracing.held c.fail.new.self)))
      (sym c.in-Err.is) c.fail.ensures;
  exits = c.exit-in-Err.ensures;
}
