use Rattle.std.proofs.Common.{◌≡◌, ◌≤◌, length, reverse, take}
use Rattle.opentelemetry.specs.Tracing as spec
use Rattle.opentelemetry.proofs.trace.tracing.open_spans.is_inside.Given as goal

abbrev pub invariant-loop-index : goal.invariant-loop-index
invariant-loop-index l = record {
  within : l.index ≤ length l.places;
  same : spec.is_inside l.outer (reverse l.places) l.fn.number
      ≡ spec.is_inside l.outer (reverse (take l.index l.places)) l.wanted;
}

abbrev pub decreases-loop-index : goal.decreases-loop-index
decreases-loop-index l = l.index
