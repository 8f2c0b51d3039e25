use Rattle.std.proofs.Common.{◌≡◌, ◌<◌, [], length, None, refl, sym, ◌∙◌, arith}
use Rattle.otel_proto.specs.Wire.{read}
use Rattle.otel_proto_answers.specs.Parts.{item_of, field_of}
use Rattle.otel_proto_answers.proofs.Shorter.{item_shortens}
use Rattle.otel_proto_answers.proofs.Steps.{known, field_outside, started, none_before}
use Rattle.otel_proto_answers.proofs.parts.first_part.Goals as goal

pub returns-in_err-rest-in-GroupStart : goal.returns-in_err-rest-in-GroupStart
returns-in_err-rest-in-GroupStart c =
    let bs = c.args.bytes.now in
    let after = c.in_ok-item.rest.now in
    let none : read bs ≡ None =
    started [] bs after c.in-GroupStart.number (known bs after _ _ c.in_ok-item.ensures c.in-GroupStart.is) (omega arith)
    ∙ c.in_err-rest-in-GroupStart.ensures.after [] refl in
    rw c.from_residual-in_err-rest-in-GroupStart.ensures none

pub returns-in-Field : goal.returns-in-Field
returns-in-Field c =
    let bs = c.args.bytes.now in
    let after = c.in_ok-item.rest.now in (
      field_outside bs after (field_of c.in-Field.field) (known bs after _ _ c.in_ok-item.ensures c.in-Field.is),
      item_shortens bs after (item_of c.in_ok-item.item) (sym c.in_ok-item.ensures),
    )

pub returns-in_ok-rest-in-GroupStart : goal.returns-in_ok-rest-in-GroupStart
returns-in_ok-rest-in-GroupStart c =
    let bs = c.args.bytes.now in
    let after = c.in_ok-item.rest.now in
    let rest = c.in_ok-rest-in-GroupStart.rest.now in
    let less : length after < length bs = item_shortens bs after (item_of c.in_ok-item.item) (sym c.in_ok-item.ensures) in
    let again : length rest < length after = c.in_ok-rest-in-GroupStart.ensures.shorter in (
      started [] bs after c.in-GroupStart.number (known bs after _ _ c.in_ok-item.ensures c.in-GroupStart.is) (omega arith)
          ∙ c.in_ok-rest-in-GroupStart.ensures.after [] refl ∙ sym (none_before (read rest)),
      omega arith,
    )
