use Rattle.std.proofs.Common.{◌≡◌, ◌<◌, ◌≤◌, ◌+◌, ℕ, List, ◌∷◌, length, sym, ap, ◌∙◌, arith}
use Rattle.std.specs.Prelude.{option_and_then}
use Rattle.std.proofs.lemmas.Bool.{ne_eqb}
use Rattle.std.specs.Borrow.{Bor}
use Rattle.otel_proto_answers.specs.Parts.{item_of, field_of, read_within}
use Rattle.otel_proto_answers.proofs.Shorter.{item_shortens}
use Rattle.otel_proto_answers.proofs.Steps.{known, field_inside, started, too_deep, ended, ended_other}
use Rattle.otel_proto_answers.proofs.parts.+after_group.Goals as goal

pub loop-rest-smaller-in-Field : goal.loop-rest-smaller-in-Field
loop-rest-smaller-in-Field t c =
    item_shortens c.loop-rest.rest.now c.in_ok-item.after.now (item_of c.in_ok-item.item) (sym c.in_ok-item.ensures)

pub loop-rest-preserved-in-Field : goal.loop-rest-preserved-in-Field
loop-rest-preserved-in-Field t c =
    let bs = c.loop-rest.rest.now in
    let after = c.in_ok-item.after.now in
    let less : length after < length bs = item_shortens bs after (item_of c.in_ok-item.item) (sym c.in_ok-item.ensures) in
    record {
      bound = omega arith;
      same = λ opened e. c.loop-rest.invariant.same opened e
          ∙ field_inside c.args.number opened bs after (field_of c.in-Field.field-0) (known bs after _ _ c.in_ok-item.ensures c.in-Field.is);
    }

pub returns-then-depth-eq-MAX_GROUPS-clause-after : goal.returns-then-depth-eq-MAX_GROUPS-clause-after
returns-then-depth-eq-MAX_GROUPS-clause-after t c opened e =
    let deep : 100 ≤ length (c.args.number ∷ opened) = omega arith in
    c.loop-rest.invariant.same opened e
    ∙ too_deep (c.args.number ∷ opened) c.loop-rest.rest.now c.in_ok-item.after.now c.in-GroupStart.inner (known c.loop-rest.rest.now c.in_ok-item.after.now _ _ c.in_ok-item.ensures c.in-GroupStart.is) deep

pub after_group-requires : goal.after_group-requires
after_group-requires t c =
    let less : length c.in_ok-item.after.now < length c.loop-rest.rest.now = item_shortens c.loop-rest.rest.now c.in_ok-item.after.now (item_of c.in_ok-item.item) (sym c.in_ok-item.ensures) in
    (omega arith, omega arith)

pub returns-in_err-rest-in-GroupStart-clause-after : goal.returns-in_err-rest-in-GroupStart-clause-after
returns-in_err-rest-in-GroupStart-clause-after t c opened e =
    let bs = c.loop-rest.rest.now in
    let after = c.in_ok-item.after.now in
    let few : length (c.args.number ∷ opened) < 100 = omega arith in
    let deeper : length (c.args.number ∷ opened) ≡ c.args.depth + 1 = omega arith in
    c.loop-rest.invariant.same opened e
    ∙ started (c.args.number ∷ opened) bs after c.in-GroupStart.inner (known bs after _ _ c.in_ok-item.ensures c.in-GroupStart.is) few
    ∙ c.in_err-rest-in-GroupStart.ensures.after (c.args.number ∷ opened) deeper
    ∙ sym (ap (option_and_then (λ (r : Bor (List ℕ)). read_within opened r.now)) c.from_residual-in_err-rest-in-GroupStart.ensures)

pub loop-rest-smaller : goal.loop-rest-smaller
loop-rest-smaller t c =
    let less : length c.in_ok-item.after.now < length c.loop-rest.rest.now = item_shortens c.loop-rest.rest.now c.in_ok-item.after.now (item_of c.in_ok-item.item) (sym c.in_ok-item.ensures) in
    let again : length c.in_ok-rest-in-GroupStart.rest.now < length c.in_ok-item.after.now = c.in_ok-rest-in-GroupStart.ensures.shorter in
    omega arith

pub loop-rest-preserved : goal.loop-rest-preserved
loop-rest-preserved t c =
    let bs = c.loop-rest.rest.now in
    let after = c.in_ok-item.after.now in
    let less : length after < length bs = item_shortens bs after (item_of c.in_ok-item.item) (sym c.in_ok-item.ensures) in
    let again : length c.in_ok-rest-in-GroupStart.rest.now < length after = c.in_ok-rest-in-GroupStart.ensures.shorter in
    record {
      bound = omega arith;
      same = λ opened e.
          let few : length (c.args.number ∷ opened) < 100 = omega arith in
          let deeper : length (c.args.number ∷ opened) ≡ c.args.depth + 1 = omega arith in
          c.loop-rest.invariant.same opened e
          ∙ started (c.args.number ∷ opened) bs after c.in-GroupStart.inner (known bs after _ _ c.in_ok-item.ensures c.in-GroupStart.is) few
          ∙ c.in_ok-rest-in-GroupStart.ensures.after (c.args.number ∷ opened) deeper;
    }

pub returns-then-ended-number-clause-after : goal.returns-then-ended-number-clause-after
returns-then-ended-number-clause-after t c opened e =
    c.loop-rest.invariant.same opened e
    ∙ ended c.args.number opened c.loop-rest.rest.now c.in_ok-item.after.now c.in-GroupEnd.ended (known c.loop-rest.rest.now c.in_ok-item.after.now _ _ c.in_ok-item.ensures c.in-GroupEnd.is) c.if-ended-number.true

pub returns-then-ended-number-clause-shorter : goal.returns-then-ended-number-clause-shorter
returns-then-ended-number-clause-shorter t c =
    let less : length c.in_ok-item.after.now < length c.loop-rest.rest.now = item_shortens c.loop-rest.rest.now c.in_ok-item.after.now (item_of c.in_ok-item.item) (sym c.in_ok-item.ensures) in
    omega arith

pub returns-else-ended-number-clause-after : goal.returns-else-ended-number-clause-after
returns-else-ended-number-clause-after t c opened e =
    c.loop-rest.invariant.same opened e
    ∙ ended_other c.args.number opened c.loop-rest.rest.now c.in_ok-item.after.now c.in-GroupEnd.ended (known c.loop-rest.rest.now c.in_ok-item.after.now _ _ c.in_ok-item.ensures c.in-GroupEnd.is) (ne_eqb _ _ c.if-ended-number.false)
