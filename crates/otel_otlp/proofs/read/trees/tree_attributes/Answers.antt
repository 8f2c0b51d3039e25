use Rattle.std.proofs.Common.{List, codes, subst, IfErr}
use Rattle.serde_json.specs.View.{view}
use Rattle.otel_sdk_logs.specs.Attributes.{Attribute}
use Rattle.otel_otlp.specs.ReadMembers.{IsRefused, AreIn}
use Rattle.otel_otlp.specs.ReadTrees.{IsPair}
use Rattle.otel_otlp.proofs.read.trees.tree_attributes.Goals as goal

pub returns-clause-err : goal.returns-clause-err
returns-clause-err c =
    subst (λ n. IfErr c.pairs_in.result (λ e. IsRefused e → (ps : List Attribute)
    → ¬ AreIn (IsPair n) (codes "attributes") (view c.args.object.now) ps))
    c.levels.ensures c.pairs_in.ensures.err
