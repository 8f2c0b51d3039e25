use Rattle.indexmap.specs.IndexMap.{spare}
use Rattle.otel_context.specs.Names.{entries_of}
use Rattle.otel_context.proofs.BaggageStores.{filled_more, on_ok}
use Rattle.otel_context.proofs.baggage.members.many.fill.Goals as goal

pub loop-key-preserved : goal.loop-key-preserved
loop-key-preserved c =
    filled_more (entries_of c.args.map.now.entries) c.loop-key.map.entries c.insert.new.self.entries c.loop-key.yielded c.loop-key.key-iterator.rest.items c.next.new.self.rest.items c.in-Some.key c.in-Some.pair
    (spare c.loop-key.map) (spare c.insert.new.self) c.loop-key.invariant c.in-Some.ensures.steps.0 (on_ok _ _ _ c.unwrap.ensures c.insert.ensures.entries) c.insert.ensures.spare
