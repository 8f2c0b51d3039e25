use Rattle.std.proofs.Common.{◌∙◌, sym}
use Rattle.otel_propagators.proofs.Parents.{parent_of_none, parent_of_numbers}
use Rattle.otel_propagators.proofs.trace_context.traceparent.read.Goals as goal

pub returns-in_err-trace_id : goal.returns-in_err-trace_id
returns-in_err-trace_id c = rw c.from_residual.ensures
    (sym (parent_of_none c.args.text.now (λ p r. c.in_err-trace_id.ensures p (c.as_bytes.ensures.value ∙ c.cut_blanks.ensures ∙ r.spelled))))

pub returns : goal.returns
returns c = parent_of_numbers c.args.text.now c.as_bytes.result.now c.in_ok-trace_id.trace_id c.in_ok-trace_id.span_id c.in_ok-trace_id.flags c.parent_from.result (c.as_bytes.ensures.value ∙ c.cut_blanks.ensures) c.in_ok-trace_id.ensures c.parent_from.ensures
