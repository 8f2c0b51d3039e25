use Rattle.std.proofs.Common.{rules}
use Rattle.otel_context.specs.Stack.{current}
use Rattle.otel_examples.proofs.Sending.{run_sends}
use denote.Param.Object.{read_made}
use Rattle.otel_examples.proofs.api.composite.run_and_send.OwnLists as own
use Rattle.otel_examples.proofs.api.composite.run_and_send.Goals as goal

pub returns-clause-sent : goal.returns-clause-sent
returns-clause-sent c =
    run_sends _ _ c.in_ok-composite.composite.members.items c.into_dyn_box.result c.into_dyn_box-in_ok-new-4.result c.run.result (λ report. current report.stack.live) (λ report. report.injected) _ _
    c.run.ensures.injected (search rules) (λ report. read_made own.own-1 own.entry-1-1 own.at-1-1 own.same-1-1 _ (λ j y. j.1.pairs y (current report.stack.live)) _ _ _ c.into_dyn_box.ensures.1) (λ report. read_made own.own-1 own.entry-1-2 own.at-1-2 own.same-1-2 _ (λ j y. j.1.pairs y (current report.stack.live)) _ _ _ c.into_dyn_box-in_ok-new-4.ensures.1)
