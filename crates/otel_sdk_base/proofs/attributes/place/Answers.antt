use Rattle.std.proofs.Common.{rules, tests, sym, ◌∙◌}
use Rattle.std.proofs.lemmas.Iterator.{YieldsList-from_slice}
use Rattle.std.proofs.lemmas.Iterator.Search.{position_from_yields_List}
use Rattle.otel_base.specs.KeyValue.{has_key}
use Rattle.otel_base.specs.View.{attribute_of}
use Rattle.otel_sdk_base.proofs.shared.Places.{position_map}
use Rattle.otel_sdk_base.proofs.attributes.place.Goals as goal

pub returns : goal.returns
returns c =
    position_from_yields_List (λ a. has_key c.args.key.now (attribute_of a)) _ _ _ c.position.ensures.ran
    (YieldsList-from_slice c.args.attributes.now c.iter.ensures.rest)
    (λ x b q k. search (rules, tests))
    ∙ sym (position_map (has_key c.args.key.now) attribute_of c.args.attributes.now)
