use Rattle.std.proofs.Common.{◌≡◌}
use Rattle.otel_c.specs.Span.{state_header}
use Rattle.otel_c.proofs.Shown.{shows_state, state_long}
use Rattle.otel_c.proofs.span.trace_state.Goals as goal

pub returns-clause-header : goal.returns-clause-header
returns-clause-header c =
    let same : c.as_str.result.now ≡ state_header c.in_ok-context.context =
    cc (c.in_ok-text.ensures.text) in
    shows_state _ _ c.in_ok-context.ensures.copy c.write.result _ _ _ _ same
    c.write.ensures.needed c.write.ensures.text

pub returns-clause-refused : goal.returns-clause-refused
returns-clause-refused c =
    let same : c.as_str.result.now ≡ state_header c.in_ok-context.context =
    cc (c.in_ok-text.ensures.text) in
    state_long _ _ c.in_ok-context.ensures.copy c.write.result _ _ _ same
    c.write.ensures.needed c.write.ensures.refused
