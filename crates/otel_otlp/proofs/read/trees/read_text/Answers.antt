use Rattle.std.proofs.Common.{MatchOption, sym, subst, codes}
use Rattle.serde_json.specs.View.{view}
use Rattle.otel_otlp.specs.ReadMembers.{member_of}
use Rattle.otel_otlp.specs.ReadTrees.{AreBytes, IsFloat, IsText}
use Rattle.otel_otlp.proofs.ReadErrors.{weaker}
use Rattle.otel_otlp.proofs.read.trees.read_text.Goals as goal

pub returns-in-Some-clause-err : goal.returns-in-Some-clause-err
returns-in-Some-clause-err c =
    let d = view c.args.value.now in
    weaker c.read_bytes.result _ _
    (λ e h no t k. h no t
    (subst (λ o. MatchOption o
    (MatchOption (member_of (codes "doubleValue") d) (IsText d t) (λ float. IsFloat float t))
    (λ bytes. AreBytes bytes t)) (sym c.in-Some.ensures) k))
    c.read_bytes.ensures.err
