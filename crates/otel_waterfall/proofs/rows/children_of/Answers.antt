use Rattle.std.proofs.Common.{List, ◌∙◌, ap, rules}
use Rattle.otel_waterfall.specs.Rows.{children_in}
use Rattle.std.proofs.lemmas.List.Sorted.{answers_always}
use Rattle.otel_waterfall.specs.declared.rows.Node.{Node}
use Rattle.otel_waterfall.proofs.Parents.{same_children}
use Rattle.otel_waterfall.proofs.rows.children_of.Goals as goal

pub returns-clause-sorted : goal.returns-clause-sorted
returns-clause-sorted c = c.in_ok-sort_by_key.ensures.sorted (λ (n : Node). n.parent) (answers_always _ _ _ (λ f a r f' called. search rules))

pub returns-clause-same : goal.returns-clause-same
returns-clause-same c = λ above.
    same_children c.in_ok-children.children.items c.sort_by_key.new.self.items above (c.sort_by_key.ensures.stable (λ (n : Node). n.parent) (answers_always _ _ _ (λ f a r f' called. search rules)))
    ∙ ap (λ (xs : List Node). children_in xs above) c.in_ok-children.ensures.items
