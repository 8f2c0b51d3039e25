use Rattle.std.proofs.Common.{◌≡◌, sym, ◌∙◌, rules}
use Rattle.otel_ids.specs.TraceState.{pair_with}
use Rattle.otel_ids.proofs.Keys.{with_new_key-present, with_new_key-new}
use Rattle.otel_ids.proofs.reading.add_pair.Goals as goal
use Rattle.otel_ids.proofs.reading.add_pair.Goals.{then-len-eq0+in_ok-reserve, else-len-eq0}

pub returns-then-has_key-clause-ok : goal.returns-then-has_key-clause-ok
returns-then-has_key-clause-ok c = with_new_key-present c.args.pairs.now (pair_with c.args.key.now c.args.value.now) (sym c.has_key.ensures ∙ c.if-has_key.true)

pub returns-clause-ok : goal.returns-clause-ok
returns-clause-ok c =
    let same : c.if-len-eq0.pairs ≡ c.args.pairs.now = elim c.if-len-eq0.branch [ then-len-eq0+in_ok-reserve w ↦ search rules | else-len-eq0 w ↦ search rules ] in
    rw (c.in_ok-push.ensures, same) (with_new_key-new c.args.pairs.now (pair_with c.args.key.now c.args.value.now) (sym c.has_key.ensures ∙ c.if-has_key.false))
