use Rattle.std.proofs.Common.{ap, sym, ◌∙◌, option_copied}
use Rattle.otel_propagators.specs.TraceContext.{state_of}
use Rattle.otel_propagators.proofs.Injecting.{state_read}
use Rattle.otel_propagators.proofs.trace_context.read_state.Goals as goal

pub returns-in-Ok : goal.returns-in-Ok
returns-in-Ok c = state_read c.in-Some.text.now c.in-Ok.state c.in-Ok.ensures.read ∙ sym (ap (λ v. state_of (option_copied v)) c.in-Some.is)
