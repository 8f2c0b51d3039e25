use Rattle.std.proofs.Common.{Some, ap}
use Rattle.otel_c.specs.declared.object.Object.{Object}
use Rattle.otel_c.specs.Object.{context_of}
use Rattle.otel_c.proofs.Carried.{extracts}
use Rattle.otel_c.proofs.context.extract_in.Goals as goal

pub returns-in_ok-context-in-Context-clause-context :
    goal.returns-in_ok-context-in-Context-clause-context
returns-in_ok-context-in-Context-clause-context c =
    extracts _ _ _ _ _ c.in_ok-injector.ensures.headers
    (ap (λ (o : Object). context_of (Some o)) c.in-Context.is)
    (ap Some c.in_ok-context-in-Context.ensures.read)
