use Rattle.otel_sdk.proofs.EnvHeaderLemmas.{first_is}
use Rattle.otel_sdk.proofs.env.headers.first_of.Goals as goal

pub returns : goal.returns
returns c = first_is c.next.result c.attributes.result c.next.new.self _ c.next.ensures.steps c.attributes.ensures
