use Rattle.otel_propagators.proofs.Parents.{too_short, not_before}
use Rattle.otel_propagators.proofs.trace_context.digits.number_before.Goals as goal

pub returns-in_err-digits : goal.returns-in_err-digits
returns-in_err-digits c = rw c.from_residual.ensures (too_short c.args.bytes.now c.args.count c.in_err-digits.ensures.cases)

pub returns-in_err-number : goal.returns-in_err-number
returns-in_err-number c = rw c.from_residual-in_err-number.ensures (not_before c.args.bytes.now c.in_ok-digits.digits.now c.in_ok-digits.rest.now c.args.count c.in_ok-digits.ensures.cases c.in_err-number.ensures)
