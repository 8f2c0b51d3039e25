use Rattle.std.proofs.Common.{map, take}
use Rattle.std.specs.List.{AllZip}
use Rattle.serde_json.specs.View.{view}
use Rattle.otel_otlp.proofs.read.messages.read_each.Given as goal

abbrev pub invariant-loop-index : goal.invariant-loop-index
invariant-loop-index g l =
    AllZip g.M.Message.says (map view (take l.index l.values)) (map g.M.Message.seen l.read.items)
