use Rattle.std.proofs.Common.{[], ◌∷◌, codes, arith, subst}
use Rattle.json.specs.Token as token_of
use Rattle.json.specs.Token.{key, begin_object}
use Rattle.otel_base.specs.View.{tree}
use Rattle.otel_otlp.specs.Logs.{attribute}
use Rattle.otel_otlp.specs.Tokens.{Appended}
use Rattle.otel_otlp.proofs.Tokens.{token, next_mapped, whole_pair}
use Rattle.otel_otlp.proofs.logs.pairs.Goals as goal

pub loop-attribute-preserved : goal.loop-attribute-preserved
loop-attribute-preserved c =
    let l = c.loop-attribute in
    let x = c.attribute-item.result in
    let begins : Appended l.out c.begin_pair.new.out (begin_object ∷ key (codes "key") ∷ token_of.string x.0 ∷ key (codes "value") ∷ []) =
    subst (λ k. Appended l.out c.begin_pair.new.out (begin_object ∷ key (codes "key") ∷ token_of.string k ∷ key (codes "value") ∷ [])) c.as_str.ensures c.in_ok-begin_pair.ensures in
    next_mapped attribute (λ e. (e.0, tree e.1)) c.args.attributes.now l.attribute-index x
    (omega (arith, c.loop-attribute-test.true)) c.attribute-item.is l.invariant
    (whole_pair begins c.in_ok-tree_value.ensures (token c.in_ok-end_object.was c.end_object.ensures))
