-- The pictures of the traces so far.
use Rattle.std.proofs.Common.{[], map, take}
use Rattle.std.specs.String.{string_bytes}
use Rattle.otel_waterfall.specs.Drawn.{look}
use Rattle.otel_waterfall.specs.Picture.{ArePictures, first_traces}
use Rattle.otel_waterfall.proofs.pictures.picture.Given as goal

abbrev pub invariant-loop-place : goal.invariant-loop-place
invariant-loop-place l =
    ArePictures l.style.is_ascii l.style.width (map look l.batch) (first_traces [] (map look (take l.place l.batch))) (string_bytes l.text)
