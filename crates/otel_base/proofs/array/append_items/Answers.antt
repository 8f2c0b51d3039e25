use Rattle.std.proofs.Common.{◌+◌, ◌<◌, ◌∷◌, [], ◌++◌, map, take, length, string_bytes}
use Rattle.std.proofs.Common.{string_len, string_capacity, ap, ◌∙◌, append_assoc}
use Rattle.std.proofs.Common.{length-append, arith, rules}
use Rattle.std.specs.List.{join_with_byte}
use Rattle.otel_base.specs.Array.{bracketed}
use Rattle.otel_base.proofs.shared.Joined.{joined_more, joined_room}
use Rattle.otel_base.proofs.array.append_items.Goals as goal

-- the separator didn't fit into the capacity
pub returns-in_err-push_str-2 : goal.returns-in_err-push_str-2
returns-in_err-push_str-2 g c =
    let xs = c.args.items.now in
    let text = g.I.Item.text in
    let room = joined_room text xs c.loop-i.i c.index-items-i.result c.loop-i-test.true in
    let so_far =
    length-append (string_bytes c.args.out.now)
    (91 ∷ join_with_byte 44 (map text (take c.loop-i.i xs))) in
    let total = length-append (join_with_byte 44 (map text xs)) (93 ∷ []) in
    let short : string_capacity c.args.out.now < string_len c.args.out.now + length
    (bracketed (map text xs)) =
    omega (
      arith,
      room,
      so_far,
      total,
      ap length c.loop-i.invariant.0,
      ap length c.separator.ensures,
      c.loop-i.invariant.1,
      c.in_err-push_str-2.ensures.full,
      c.loop-i.out.bytes.ok.0,
      c.args.out.now.bytes.ok.0,
    ) in
    record {
      ok = search rules;
      full = search (rules, short);
      capacity =
          omega (arith, c.loop-i.invariant.1, c.push_str-in-loop-i.ensures.capacity);
    }

-- the item didn't fit into the capacity
pub returns-in_err-append_item : goal.returns-in_err-append_item
returns-in_err-append_item g c =
    let xs = c.args.items.now in
    let text = g.I.Item.text in
    let room = joined_room text xs c.loop-i.i c.index-items-i.result c.loop-i-test.true in
    let so_far =
    length-append (string_bytes c.args.out.now)
    (91 ∷ join_with_byte 44 (map text (take c.loop-i.i xs))) in
    let total = length-append (join_with_byte 44 (map text xs)) (93 ∷ []) in
    let item = ap (λ x. length (text x)) c.index-items-i.is in
    let short : string_capacity c.args.out.now < string_len c.args.out.now + length
    (bracketed (map text xs)) =
    omega (
      arith,
      room,
      so_far,
      total,
      item,
      ap length c.loop-i.invariant.0,
      ap length c.separator.ensures,
      c.loop-i.invariant.1,
      c.in_ok-push_str-2.ensures.capacity,
      c.in_ok-push_str-2.ensures.len,
      c.in_err-append_item.ensures.full,
      c.loop-i.out.bytes.ok.0,
      c.args.out.now.bytes.ok.0,
    ) in
    record {
      ok = search rules;
      full = search (rules, short);
      capacity =
          omega (
            arith,
            c.loop-i.invariant.1,
            c.push_str-in-loop-i.ensures.capacity,
            c.append_item.ensures.capacity,
          );
    }

pub loop-i-preserved : goal.loop-i-preserved
loop-i-preserved g c =
    let xs = c.args.items.now in
    let text = g.I.Item.text in
    let old = string_bytes c.args.out.now in
    let joined = join_with_byte 44 (map text (take c.loop-i.i xs)) in (
      c.in_ok-append_item.ensures.ok
          ∙ ap (λ s. s ++ text c.index-items-i.result) c.in_ok-push_str-2.ensures.bytes
          ∙ append_assoc (string_bytes c.loop-i.out) c.separator.result.now
          (text c.index-items-i.result)
          ∙ (λ at. c.loop-i.invariant.0 at
          ++ (c.separator.ensures at ++ text (c.index-items-i.is at)))
          ∙ append_assoc old (91 ∷ joined) _
          ∙ ap (λ s. old
          ++ 91 ∷ s) (joined_more text xs c.loop-i.i c.index-items-i.result c.loop-i-test.true),
      omega (
        arith,
        c.loop-i.invariant.1,
        c.in_ok-push_str-2.ensures.capacity,
        c.append_item.ensures.capacity,
      ),
    )
