use Rattle.otel_sdk_logs.proofs.Lists.{put_found}
use Rattle.otel_sdk_logs.proofs.attributes.put.Goals as goal

pub returns-in-Some-clause-put : goal.returns-in-Some-clause-put
returns-in-Some-clause-put c =
    put_found c.args.held.now.items c.deref.result.now c.args.key c.as_str.result.now c.args.value c.in-Some.place
    c.deref.ensures.value c.as_str.ensures c.in-Some.ensures
