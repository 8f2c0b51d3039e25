use Rattle.std.proofs.Common.{◌≡◌, Bool, rules, subst}
use Rattle.std.specs.Bool.{Decides}
use Rattle.otel_base.specs.KeyValueLaws.{attribute_eq-Decides}
use Rattle.otel_base.specs.KeyValue as attribute
use Rattle.otel_base.specs.View.{attribute_of}
use Rattle.otel_base.proofs.key_value.KeyValuePartialEq.eq.Goals as goal

pub returns-then-eq-clause-same : goal.returns-then-eq-clause-same
returns-then-eq-clause-same c =
    let p = attribute_of c.args.self.now in
    let q = attribute_of c.args.other.now in
    let P : Bool → Type 0 =
    λ r. Decides r (attribute_of c.args.self.now ≡ attribute_of c.args.other.now) in
    let value : attribute.eq (attribute_of c.args.self.now) (attribute_of c.args.other.now)
    ≡ c.eq-then-eq.result = search rules in
    subst P value (attribute_eq-Decides p q)
