use Rattle.std.proofs.Common.{None}
use Rattle.std.proofs.lemmas.List.{get_or_default}
use Rattle.std.specs.Prelude.{slice_index_or}
use Rattle.otel_context.proofs.SpanPlaces.{has-slot}
use Rattle.otel_context.proofs.span.spans.places.slot_of.Goals as goal

pub returns : goal.returns
returns c =
    let ss = c.args.places.now in
    let i = c.in_ok-index.index in
    let s = slice_index_or ss i (record { number = 0; slot = None }) in
    has-slot c.args.number i ss s c.in_ok-index.ensures (get_or_default ss i _ s c.in_ok-index.ensures.0)
