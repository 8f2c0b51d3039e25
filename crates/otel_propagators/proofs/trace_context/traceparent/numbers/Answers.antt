use Rattle.std.proofs.Common.{◌∙◌, []}
use Rattle.otel_ids.specs.Ids.{id_text}
use Rattle.otel_propagators.proofs.Parents.{from_trace, past_trace, from_span, past_span, version_first, left_version, left_trace, left_dash, left_span, left_flags, flags_last, made_of, empty_is, not_empty}
use Rattle.otel_propagators.proofs.trace_context.traceparent.numbers.Goals as goal

pub returns-in_err-rest : goal.returns-in_err-rest
returns-in_err-rest c = rw c.from_residual.ensures (λ p e. c.in_err-rest.ensures (from_trace p) (e ∙ version_first p))

pub returns-in_err-trace_id : goal.returns-in_err-trace_id
returns-in_err-trace_id c = rw c.from_residual-in_err-trace_id.ensures
    (λ p e. c.in_err-trace_id.ensures p.trace_id (past_trace p) (left_version p c.in_ok-rest.ensures e))

pub returns-in_err-rest-2 : goal.returns-in_err-rest-2
returns-in_err-rest-2 c = rw c.from_residual-in_err-rest-2.ensures
    (λ p e. c.in_err-rest-2.ensures (from_span p) (left_trace c.in_ok-trace_id.trace_id p c.in_ok-rest.ensures c.in_ok-trace_id.ensures.0 e))

pub returns-in_err-span_id : goal.returns-in_err-span_id
returns-in_err-span_id c = rw c.from_residual-in_err-span_id.ensures
    (λ p e. c.in_err-span_id.ensures p.span_id (past_span p) (left_dash (from_span p) c.in_ok-rest-2.ensures (left_trace c.in_ok-trace_id.trace_id p c.in_ok-rest.ensures c.in_ok-trace_id.ensures.0 e)))

pub returns-in_err-rest-3 : goal.returns-in_err-rest-3
returns-in_err-rest-3 c = rw c.from_residual-in_err-rest-3.ensures
    (λ p e. c.in_err-rest-3.ensures (id_text 2 p.flags) (left_span c.in_ok-trace_id.trace_id c.in_ok-span_id.span_id p c.in_ok-rest.ensures c.in_ok-trace_id.ensures.0 c.in_ok-rest-2.ensures c.in_ok-span_id.ensures.0 e))

pub returns-in_err-flags : goal.returns-in_err-flags
returns-in_err-flags c = rw c.from_residual-in_err-flags.ensures
    (λ p e. c.in_err-flags.ensures p.flags []
    (flags_last p (left_dash (id_text 2 p.flags) c.in_ok-rest-3.ensures
    (left_span c.in_ok-trace_id.trace_id c.in_ok-span_id.span_id p c.in_ok-rest.ensures c.in_ok-trace_id.ensures.0 c.in_ok-rest-2.ensures c.in_ok-span_id.ensures.0 e))))

pub returns-then-not-is_empty : goal.returns-then-not-is_empty
returns-then-not-is_empty c = λ p e.
    let none = left_flags c.in_ok-flags.flags p c.in_ok-flags.ensures.0 (left_dash (id_text 2 p.flags) c.in_ok-rest-3.ensures
    (left_span c.in_ok-trace_id.trace_id c.in_ok-span_id.span_id p c.in_ok-rest.ensures c.in_ok-trace_id.ensures.0 c.in_ok-rest-2.ensures c.in_ok-span_id.ensures.0 e)) in
    not_empty c.in_ok-flags.rest.now c.is_empty.result c.is_empty.ensures c.if-not-is_empty.true none

pub returns : goal.returns
returns c = (
  made_of c.in_ok-trace_id.trace_id c.in_ok-span_id.span_id c.in_ok-flags.flags c.in_ok-rest.ensures c.in_ok-trace_id.ensures.0 c.in_ok-rest-2.ensures c.in_ok-span_id.ensures.0 c.in_ok-rest-3.ensures c.in_ok-flags.ensures.0 (empty_is c.in_ok-flags.rest.now c.is_empty.result c.is_empty.ensures c.if-not-is_empty.false),
  c.in_ok-trace_id.ensures.1,
  c.in_ok-span_id.ensures.1,
  c.in_ok-flags.ensures.1,
)
