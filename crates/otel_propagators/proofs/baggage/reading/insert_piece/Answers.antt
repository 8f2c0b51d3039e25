use Rattle.std.proofs.Common.{◌≡◌, true, List, refl, subst}
use Rattle.std.specs.Prelude.{OnOk}
use Rattle.std.specs.List.{list_any}
use Rattle.otel_ids.specs.Text.{is_equals}
use Rattle.otel_context.specs.Baggage.{max_len_of_all_pairs}
use Rattle.otel_context.specs.BaggageMember.{Member}
use Rattle.otel_propagators.specs.BaggageReading.{key_and_value, key_in, written_value, metadata_in}
use Rattle.otel_propagators.proofs.PieceReads.{metadata_trimmed, piece_decoded, room_enough}
use Rattle.otel_propagators.proofs.baggage.reading.insert_piece.Goals as goal

pub insert_value-requires : goal.insert_value-requires
insert_value-requires c = metadata_trimmed c.args.piece.now _ c.utf8.piece c.in-Some.ensures.3

pub insert_short-requires : goal.insert_short-requires
insert_short-requires c = metadata_trimmed c.args.piece.now _ c.utf8.piece c.in-Some.ensures.3

pub insert_long-requires : goal.insert_long-requires
insert_long-requires c = metadata_trimmed c.args.piece.now _ c.utf8.piece c.in-Some.ensures.3

pub returns-then-value-le-SHORT_LEN : goal.returns-then-value-le-SHORT_LEN
returns-then-value-le-SHORT_LEN c =
    let parts : (list_any is_equals (key_and_value c.args.piece.now) ≡ true) × (c.in-Some.key.now ≡ key_in c.args.piece.now) × (c.in-Some.value.now ≡ written_value c.args.piece.now) × (c.in-Some.metadata.now ≡ metadata_in c.args.piece.now) = c.in-Some.ensures in
    let is = piece_decoded c.args.baggage.now c.args.piece.now _ _ _ parts.0 parts.1 parts.2 parts.3 1024 _ (room_enough 1024 _ c.if-value-le-SHORT_LEN.true) refl in
    subst (λ (l : List Member). OnOk c.insert_short.result (c.insert_short.new.baggage ≡ l)) is c.insert_short.ensures

pub returns-else-value-le-SHORT_LEN : goal.returns-else-value-le-SHORT_LEN
returns-else-value-le-SHORT_LEN c =
    let parts : (list_any is_equals (key_and_value c.args.piece.now) ≡ true) × (c.in-Some.key.now ≡ key_in c.args.piece.now) × (c.in-Some.value.now ≡ written_value c.args.piece.now) × (c.in-Some.metadata.now ≡ metadata_in c.args.piece.now) = c.in-Some.ensures in
    let is = piece_decoded c.args.baggage.now c.args.piece.now _ _ _ parts.0 parts.1 parts.2 parts.3 max_len_of_all_pairs _ (λ long. long) refl in
    subst (λ (l : List Member). OnOk c.insert_long.result (c.insert_long.new.baggage ≡ l)) is c.insert_long.ensures
