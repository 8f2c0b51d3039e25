use Rattle.std.proofs.Common.{Ok}
use Rattle.otel_propagators.proofs.B3Setting.{ids_set, one_set}
use Rattle.otel_propagators.proofs.b3.multi.inject_ids.Goals as goal

pub returns : goal.returns
returns g c =
    ids_set c.set-2.result _ _ _ c.args.span _ _ c.in_ok-set.field-0 c.in_ok-trace_id.ensures c.in_ok-span_id.ensures
    (one_set (Ok c.in_ok-set.field-0) _ _ _ c.in_ok-set.ensures.0 c.in_ok-set.ensures.1.0 c.in_ok-set.ensures.1.1)
    (one_set c.set-2.result _ _ _ c.set-2.ensures.0 c.set-2.ensures.1.0 c.set-2.ensures.1.1)
