use Rattle.std.proofs.Common.{◌≡◌, map, take}
use Rattle.std.specs.List.{All, AllZip}
use Rattle.std.specs.Rc.{rc_value}
use Rattle.serde_json.specs.View.{view}
use Rattle.otel_otlp.proofs.read.groups.each_item.Given as goal

abbrev pub invariant-loop-index : goal.invariant-loop-index
invariant-loop-index g l =
    AllZip g.I.Item.says (map view (take l.index l.values)) l.read.items
    × All (λ item. g.I.Grouped.form.scope_of item ≡ rc_value l.fn.scope) l.read.items
