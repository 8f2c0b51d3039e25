use Rattle.std.proofs.Common.{◌≡◌, ◌<◌, drop}
use Rattle.otel_base.specs.View.{pairs_view}
use Rattle.otel_sdk_base.specs.Attributes.{up_by}
use Rattle.otel_proto_batches.specs.Cuts.{cut_parts_of_attributes}
use Rattle.otel_proto_batches.proofs.cuts.add_cut_parts_of.Given as goal

abbrev pub invariant-loop-attribute : goal.invariant-loop-attribute
invariant-loop-attribute l =
    (l.counted < 4294967296)
    × (up_by l.counted (cut_parts_of_attributes (pairs_view (drop l.attribute-index l.attributes)))
    ≡ up_by l.count (cut_parts_of_attributes (pairs_view l.attributes)))
