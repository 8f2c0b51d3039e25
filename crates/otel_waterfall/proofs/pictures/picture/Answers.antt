use Rattle.std.proofs.Common.{ℕ, List, [], map, take, subst, string_bytes}
use Rattle.otel_waterfall.specs.Drawn.{look}
use Rattle.otel_waterfall.specs.Picture.{ArePictures, first_traces}
use Rattle.otel_waterfall.proofs.Traces.{traces_turn}
use Rattle.otel_waterfall.proofs.pictures.picture.Goals as goal

pub loop-place-preserved : goal.loop-place-preserved
loop-place-preserved c =
    let batch = c.args.batch.now in
    let place = c.loop-place.place in
    let span = c.index-batch-place.result in
    subst (λ (ts : List ℕ). ArePictures c.args.style.is_ascii c.args.style.width (map look batch) ts (string_bytes c.add_trace.new.text))
    (traces_turn batch place span c.loop-place-test.true c.index-batch-place.is)
    (c.in_ok-add_trace.ensures (first_traces [] (map look (take place batch))) c.loop-place.invariant)
