use Rattle.std.proofs.Common.{rules, tests, sym, ◌∙◌}
use Rattle.std.proofs.lemmas.Iterator.{YieldsList-from_slice}
use Rattle.std.proofs.lemmas.Iterator.Search.{position_from_yields_List}
use Rattle.std.specs.Str.{bytes_eq}
use Rattle.otel_base.specs.View.{tree}
use Rattle.otel_sdk_base.proofs.shared.Places.{position_map}
use Rattle.otel_sdk_logs.proofs.attributes.place.Goals as goal

pub returns : goal.returns
returns c =
    position_from_yields_List (λ a. bytes_eq a.0 c.args.key.now) _ _ _ c.position.ensures.ran
    (YieldsList-from_slice c.args.held.now c.iter.ensures.rest)
    (λ x b q k. search (rules, tests))
    ∙ sym (position_map (λ a. bytes_eq a.0 c.args.key.now) (λ e. (e.0, tree e.1)) c.args.held.now)
