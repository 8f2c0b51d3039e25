use Rattle.std.proofs.Common.{◌≡◌, arith}
use Rattle.serde_json.specs.View.{view}
use Rattle.otel_otlp.proofs.ReadErrors.{one_wide}
use Rattle.otel_otlp.proofs.read.members.narrow.Goals as goal

pub returns-then-number-clause-err : goal.returns-then-number-clause-err
returns-then-number-clause-err c = λ refused n is.
    let same : n ≡ c.in_ok-number.number =
    one_wide c.args.name.now (view c.args.object.now) n c.in_ok-number.number is.0 c.in_ok-number.ensures.ok in
    omega arith

pub returns-then-number-clause-wide : goal.returns-then-number-clause-wide
returns-then-number-clause-wide c = λ none. absurd (none c.in_ok-number.number c.in_ok-number.ensures.ok)
