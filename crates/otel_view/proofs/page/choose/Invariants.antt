-- The traces of the records so far are chosen.
use Rattle.std.proofs.Common.{◌≡◌, take}
use Rattle.indexmap.specs.IndexMap.{keys}
use Rattle.otel_view.specs.Chosen as spec
use Rattle.otel_view.proofs.page.choose.Given as goal

abbrev pub invariant-loop-record : goal.invariant-loop-record
invariant-loop-record l = keys l.chosen.traces ≡ spec.ids_of (take l.record-index l.records)
