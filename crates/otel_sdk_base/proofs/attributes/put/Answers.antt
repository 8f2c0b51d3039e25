use Rattle.otel_sdk_base.proofs.Lists.{put_at}
use Rattle.otel_sdk_base.proofs.attributes.put.Goals as goal

pub returns-in-Some-clause-ok : goal.returns-in-Some-clause-ok
returns-in-Some-clause-ok c = put_at c.args.attributes.now.items c.args.attribute c.in-Some.place (cc)
