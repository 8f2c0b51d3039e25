use Rattle.std.proofs.Common.{rules, tests, sym, ◌∙◌}
use Rattle.std.proofs.lemmas.Iterator.{YieldsList-from_slice}
use Rattle.std.proofs.lemmas.Iterator.Search.{any_from_yields_List}
use Rattle.std.specs.Str.{bytes_eq}
use Rattle.otel_base.specs.View.{tree}
use Rattle.otel_base.proofs.shared.MappedLists.{list_any-map}
use Rattle.otel_appender_log.proofs.attributes.has_key.Goals as goal

pub returns : goal.returns
returns c =
    any_from_yields_List (λ a. bytes_eq a.0 c.args.key.now) _ _ _ c.any.ensures.ran
    (YieldsList-from_slice c.args.pairs.now.items (c.iter.ensures.rest ∙ c.deref.ensures.value))
    (λ x b q k. search (rules, tests))
    ∙ sym (list_any-map (λ a. bytes_eq a.0 c.args.key.now) (λ e. (e.0, tree e.1)) c.args.pairs.now.items)
