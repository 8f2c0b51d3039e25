-- The marks so far are appended.
use Rattle.std.proofs.Common.{◌≡◌, ◌++◌, map, take}
use Rattle.std.specs.String.{string_bytes}
use Rattle.opentelemetry.specs.View.{event_of}
use Rattle.otel_waterfall.specs.PageRow as spec
use Rattle.otel_waterfall.proofs.page.row.push_marks.Given as goal

abbrev pub invariant-loop-event : goal.invariant-loop-event
invariant-loop-event l =
    string_bytes l.text
    ≡ string_bytes l.initial.text
    ++ spec.marks l.scale.cells l.scale.from l.scale.to (map event_of (take l.event-index l.events))
