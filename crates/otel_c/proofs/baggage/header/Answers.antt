use Rattle.std.proofs.Common.{Some, ap, ◌∙◌}
use Rattle.otel_c.specs.Baggage.{header_of}
use Rattle.otel_c.proofs.Shown.{shows, shows_none}
use Rattle.otel_c.proofs.baggage.header.Goals as goal

pub returns-clause-header : goal.returns-clause-header
returns-clause-header c = shows _ _ c.in_ok-context.ensures.copy c.write_found.result header_of _ _ _ _
    (ap Some (c.as_str.ensures.value ∙ c.in_ok-text.ensures)) c.write_found.ensures.text

pub returns-clause-refused : goal.returns-clause-refused
returns-clause-refused c = shows_none _ _ c.in_ok-context.ensures.copy c.write_found.result header_of _ _ _
    (ap Some (c.as_str.ensures.value ∙ c.in_ok-text.ensures)) c.write_found.ensures.refused
