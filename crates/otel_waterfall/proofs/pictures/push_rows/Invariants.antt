-- With the lines of the later rows, the text is that of all rows.
use Rattle.std.proofs.Common.{◌≡◌, ◌++◌, [], drop, map}
use Rattle.std.specs.String.{string_bytes}
use Rattle.otel_waterfall.specs.Drawn.{look}
use Rattle.otel_waterfall.specs.Picture.{rows_text}
use Rattle.otel_waterfall.proofs.pictures.push_rows.Given as goal

abbrev pub invariant-loop-row : goal.invariant-loop-row
invariant-loop-row l =
    string_bytes l.text
    ++ rows_text l.style.is_ascii l.style.width l.scale.from l.scale.to (map look l.batch) l.follows.items (drop l.row-index l.rows)
    ≡ string_bytes l.initial.text
    ++ rows_text l.style.is_ascii l.style.width l.scale.from l.scale.to (map look l.batch) [] l.rows
