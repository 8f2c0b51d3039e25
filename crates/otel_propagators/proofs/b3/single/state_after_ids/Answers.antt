use Rattle.std.proofs.Common.{ap, sym, ◌∙◌, [], ◌∷◌, option_copied}
use Rattle.std.specs.Option.{option_map_or}
use Rattle.otel_propagators.specs.B3.{dashed, state_after_ids}
use Rattle.otel_propagators.proofs.B3Reads.{fifth_part}
use Rattle.otel_propagators.proofs.b3.single.state_after_ids.Goals as goal

pub returns-then-is_some : goal.returns-then-is_some
returns-then-is_some c =
    sym
    (ap (λ o. state_after_ids (option_map_or dashed (option_copied o) [])) c.in-Some.is
    ∙ ap state_after_ids c.split_dash.ensures
    ∙ ap (λ o. state_after_ids (c.split_dash.result.0.now ∷ option_map_or dashed (option_copied o) [])) c.in-Some-rest.is
    ∙ ap (λ ps. state_after_ids (c.split_dash.result.0.now ∷ ps)) c.split_dash-in-Some-rest.ensures
    ∙ fifth_part c.split_dash.result.0.now c.split_dash-in-Some-rest.result.0.now _ c.is_some.result c.is_some.ensures c.if-is_some.true)
