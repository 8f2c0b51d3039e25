use Rattle.indexmap.specs.IndexMap.{spare}
use Rattle.otel_context.specs.Names.{entries_of}
use Rattle.otel_context.proofs.BaggageStores.{Filled}
use Rattle.otel_context.proofs.baggage.members.many.fill.Given as goal

abbrev pub invariant-loop-key : goal.invariant-loop-key
invariant-loop-key l = Filled (entries_of l.fn.map.entries) l.map.entries l.yielded l.key-iterator.rest.items (spare l.map)
