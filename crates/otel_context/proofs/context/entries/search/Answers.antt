use Rattle.std.proofs.Common.{◌∷◌, rules}
use Rattle.std.proofs.lemmas.Fn.{always_returns_same}
use Rattle.otel_context.specs.View.{by_key}
use Rattle.otel_context.proofs.context.entries.search.Goals as goal

pub returns-clause-position : goal.returns-clause-position
returns-clause-position c =
    c.binary_search_by.ensures.position (by_key (c.args.slot ∷ c.args.key.now)) (always_returns_same _ _ _ (λ a r g called. search rules))
