use Rattle.otel_c.proofs.Members.{copied_members}
use Rattle.otel_c.proofs.member.baggage_of.Goals as goal

pub returns-in-Some : goal.returns-in-Some
returns-in-Some c = copied_members c.copied.result c.args.context.now _ _
    c.baggage.ensures c.in-Some.is c.copied.ensures
