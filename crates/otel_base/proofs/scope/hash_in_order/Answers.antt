use Rattle.std.proofs.Common.{map, length, arith, rules, ap, ◌∙◌, ◌<◌, get_or, take_all}
use Rattle.std.specs.List.{flat_map}
use Rattle.std.proofs.Common.{fold}
use Rattle.otel_base.specs.KeyValue as attribute
use Rattle.otel_base.specs.View.{attribute_of}
use Rattle.otel_base.specs.KeyOrder.{in_key_order}
use Rattle.otel_base.proofs.Walk.{in_order_below, in_order_length, in_order_at, hashed_more}
use Rattle.otel_base.proofs.scope.hash_in_order.Goals as goal

pub offset_bounds-attributes-position : goal.offset_bounds-attributes-position
offset_bounds-attributes-position g c =
    let below : get_or c.args.positions.now c.loop-position.position-index 0 < length
    c.args.attributes.now =
    in_order_below c.args.attributes.now c.args.positions.now c.requires
    c.loop-position.position-index c.loop-position-test.true in
    search rules

pub bounds-attributes-position : goal.bounds-attributes-position
bounds-attributes-position g c =
    in_order_below c.args.attributes.now c.args.positions.now c.requires
    c.loop-position.position-index c.loop-position-test.true

pub loop-position-preserved : goal.loop-position-preserved
loop-position-preserved g c =
    let cs = in_key_order (map attribute_of c.args.attributes.now) in
    let a = c.index-attributes-position.result in
    let i = c.loop-position.position-index in
    hashed_more _ _ _ _ cs i (attribute_of a)
    (omega (
      arith,
      in_order_length (map attribute_of c.args.attributes.now) c.args.positions.now c.requires,
    ))
    (in_order_at c.args.attributes.now c.args.positions.now c.requires i c.loop-position-test.true
    a c.index-attributes-position.is) c.loop-position.invariant c.hash.ensures

pub returns : goal.returns
returns g c =
    let cs = in_key_order (map attribute_of c.args.attributes.now) in
    c.loop-position.invariant
    ∙ ap (λ xs. fold g.H.Hasher.write c.args.state.now (flat_map attribute.hash xs))
    (take_all c.loop-position.position-index cs
    (omega (
      arith,
      in_order_length (map attribute_of c.args.attributes.now) c.args.positions.now c.requires,
    )))
