use Rattle.std.proofs.Common.{◌≡◌, Bool, ◌++◌, subst}
use Rattle.otel_sdk.specs.EnvPropagators as spec
use Rattle.otel_sdk.specs.EnvTexts.{warned}
use Rattle.otel_sdk.specs.declared.env.warning.Instead.{Instead}
use Rattle.otel_sdk.specs.declared.env.warning.Instead.TheVariants.{W3cPropagators}
use Rattle.otel_sdk.proofs.EnvLemmas.{then_more}
use Rattle.otel_sdk.proofs.env.propagators.warn_of_list.Goals as goal

pub returns : goal.returns
returns c =
    let text = c.args.text.now in
    let old = c.args.warnings.now.items in
    let some = c.warn_of_pieces.new.warnings.items in
    let all = c.warn.new.warnings.items in
    let pieces = subst (λ (i : Instead). some ≡ old ++ spec.pieces_warnings c.args.others i text) c.instead_of.ensures c.in_ok-warn_of_pieces.ensures in
    let last = subst (λ (b : Bool). all ≡ some ++ warned b spec.variable text W3cPropagators) c.has_given-given.ensures c.in_ok-warn.ensures in
    then_more old (spec.pieces_warnings c.args.others (spec.instead_of c.args.counts) text)
    (warned (spec.has_given text) spec.variable text W3cPropagators) some all pieces last
