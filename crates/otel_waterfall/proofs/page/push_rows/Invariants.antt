-- The rows so far are appended.
use Rattle.std.proofs.Common.{◌≡◌, ◌++◌, take}
use Rattle.std.specs.String.{string_bytes}
use Rattle.otel_waterfall.specs.Page as spec
use Rattle.otel_waterfall.proofs.page.push_rows.Given as goal

abbrev pub invariant-loop-row : goal.invariant-loop-row
invariant-loop-row l =
    string_bytes l.text
    ≡ string_bytes l.initial.text
    ++ spec.rows l.scale.cells l.scale.from l.scale.to l.spans (take l.row-index l.rows)
