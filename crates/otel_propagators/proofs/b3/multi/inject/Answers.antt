use Rattle.std.proofs.lemmas.Result.{err_from_is_err_and}
use Rattle.otel_propagators.proofs.B3Setting.{ends, one_set, stops}
use Rattle.otel_propagators.proofs.b3.multi.inject.Goals as goal

pub returns-in_err-inject_ids : goal.returns-in_err-inject_ids
returns-in_err-inject_ids g c =
    let p = err_from_is_err_and c.from_residual-in_err-inject_ids.result c.from_residual-in_err-inject_ids.ensures.1 in
    rw (p.1, p.2) (stops _ _ c.args.span _ c.in_err-inject_ids.ensures)

pub returns : goal.returns
returns g c =
    ends c.set.result _ _ _ c.args.span _ _ _ c.in_ok-inject_ids.field-0 c.in_ok-value.ensures.ok c.in-Some.ensures c.in_ok-inject_ids.ensures
    (one_set c.set.result _ _ _ c.set.ensures.0 c.set.ensures.1.0 c.set.ensures.1.1)
