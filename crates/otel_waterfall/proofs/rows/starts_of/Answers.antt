use Rattle.std.proofs.Common.{◌≡◌, ap, ◌∙◌, sym, true, false}
use Rattle.std.specs.Prelude.{◌==◌}
use Rattle.otel_waterfall.specs.Rows.{in_order}
use Rattle.otel_waterfall.proofs.Order.{sorted_is}
use Rattle.otel_waterfall.proofs.Starts.{starts_own, starts_other, starts_all, place_own, place_other}
use Rattle.otel_waterfall.proofs.rows.starts_of.Goals as goal
use Rattle.otel_waterfall.proofs.rows.starts_of.Goals.{then-eq+in_ok-push+in_ok-add_place, else-eq}

pub returns-clause-starts : goal.returns-clause-starts
returns-clause-starts c =
    sorted_is _ _ c.sort.ensures.permutation c.in_ok-sort.ensures.sorted
    ∙ ap in_order (starts_all c.args.trace c.args.batch.now c.loop-place.place c.loop-place.starts.items _ c.loop-place-test.false c.loop-place.invariant.starts)

pub loop-place-preserved : goal.loop-place-preserved
loop-place-preserved c =
    let trace = c.args.trace in
    let batch = c.args.batch.now in
    let i = c.loop-place.place in
    let span = c.index-batch-place.result in
    let below = c.loop-place-test.true in
    let at = c.index-batch-place.is in
    let invariant = c.loop-place.invariant in
    elim c.if-eq.branch [
      | then-eq+in_ok-push+in_ok-add_place w ↦
          let own : (span.trace_id == trace) ≡ true = sym c.eq.ensures.value ∙ w.if-eq.true in
          record {
            starts = rw (w.starts-is, w.in_ok-push.ensures.items) (starts_own trace batch i span c.loop-place.starts.items _ below at own invariant.starts);
            places = λ id.
                rw (w.places-is, w.in_ok-add_place.ensures id, invariant.places id, w.number_of.ensures)
                (sym (place_own trace id batch i span below at own));
          }
      | else-eq w ↦
          let other : (span.trace_id == trace) ≡ false = sym c.eq.ensures.value ∙ w.if-eq.false in
          record {
            starts = rw w.starts-is (starts_other trace batch i span c.loop-place.starts.items _ below at other invariant.starts);
            places = λ id. rw (w.places-is, invariant.places id) (sym (place_other trace id batch i span below at other));
          }
    ]
