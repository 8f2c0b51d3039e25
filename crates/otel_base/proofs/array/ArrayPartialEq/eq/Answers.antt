use Rattle.std.proofs.Common.{◌≡◌, rules}
use Rattle.otel_base.specs.KeyValueLaws.{array_eq-Decides}
use Rattle.otel_base.specs.Array as spec
use Rattle.otel_base.specs.View.{array_of}
use Rattle.otel_base.proofs.Decided.{decided}
use Rattle.otel_base.proofs.array.ArrayPartialEq.eq.Goals as goal

pub returns-in-Bool-Bool-clause-same : goal.returns-in-Bool-Bool-clause-same
returns-in-Bool-Bool-clause-same c =
    let a = array_of c.args.self.now in
    let b = array_of c.args.other.now in
    let value : spec.eq (array_of c.args.self.now) (array_of c.args.other.now) ≡ c.eq.result =
    search rules in
    decided (a ≡ b) (spec.eq a b) c.eq.result value (array_eq-Decides a b)

pub returns-in-I64-I64-clause-same : goal.returns-in-I64-I64-clause-same
returns-in-I64-I64-clause-same c =
    let a = array_of c.args.self.now in
    let b = array_of c.args.other.now in
    let value : spec.eq (array_of c.args.self.now) (array_of c.args.other.now)
    ≡ c.eq-in-I64-I64.result = search rules in
    decided (a ≡ b) (spec.eq a b) c.eq-in-I64-I64.result value (array_eq-Decides a b)

pub returns-in-String-String-clause-same : goal.returns-in-String-String-clause-same
returns-in-String-String-clause-same c =
    let a = array_of c.args.self.now in
    let b = array_of c.args.other.now in
    let value : spec.eq (array_of c.args.self.now) (array_of c.args.other.now)
    ≡ c.eq-in-String-String.result = search rules in
    decided (a ≡ b) (spec.eq a b) c.eq-in-String-String.result value (array_eq-Decides a b)
