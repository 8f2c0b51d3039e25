use Rattle.std.proofs.Common.{refl, ap, ◌++◌}
use Rattle.std.proofs.Output.{has_written_append, has_written_of_eq}
use Rattle.otel_base.proofs.shared.Joined.{written_more}
use Rattle.otel_base.proofs.array.write_items.Goals as goal

pub loop-i-preserved : goal.loop-i-preserved
loop-i-preserved g c = λ p.
    let before = c.loop-i.invariant p in
    let comma = c.in_ok-write_str-2.ensures.writes before.plain refl in
    written_more _ _ _ _ g.I.Item.text c.args.items.now c.loop-i.i c.index-items-i.result _
    c.loop-i-test.true c.separator.ensures before
    (has_written_of_eq _ _ _ _ _
    (ap (λ s. c.separator.result.now ++ g.I.Item.text s) c.index-items-i.is)
    (has_written_append _ _ _ _ _ _ comma (c.in_ok-write_item.ensures comma.plain refl)))
