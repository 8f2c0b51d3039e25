use Rattle.std.proofs.Common.{All, subst}
use Rattle.std.proofs.lemmas.List.{take_all}
use Rattle.std.proofs.lemmas.List.Elements.{All-nil, All-more}
use Rattle.otel_sdk.proofs.env.read.tell_each.Goals as goal

pub loop-warning-init : goal.loop-warning-init
loop-warning-init g c = All-nil g.S.WarningSink.is_told

pub loop-warning-preserved : goal.loop-warning-preserved
loop-warning-preserved g c =
    All-more g.S.WarningSink.is_told c.args.warnings.now c.loop-warning.warning-index c.warning-item.result c.loop-warning-test.true
    c.loop-warning.invariant (subst g.S.WarningSink.is_told c.warning-item.is c.tell.ensures)

pub returns : goal.returns
returns g c =
    subst (All g.S.WarningSink.is_told) (take_all c.loop-warning.warning-index c.args.warnings.now c.loop-warning-test.false) c.loop-warning.invariant
