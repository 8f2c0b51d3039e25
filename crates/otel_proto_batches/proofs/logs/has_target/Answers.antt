use Rattle.std.proofs.Common.{rules, tests, sym, ◌∙◌}
use Rattle.std.proofs.lemmas.Iterator.{YieldsList-from_slice}
use Rattle.std.proofs.lemmas.Iterator.Search.{any_from_yields_List}
use Rattle.otel_base.specs.View.{tree}
use Rattle.otel_base.proofs.shared.MappedLists.{list_any-map}
use Rattle.otel_proto_batches.specs.Logs.{is_target}
use Rattle.otel_proto_batches.proofs.logs.has_target.Goals as goal

pub returns : goal.returns
returns c =
    any_from_yields_List (λ a. is_target (a.0, tree a.1)) _ _ _ c.any.ensures.ran
    (YieldsList-from_slice c.args.attributes.now c.iter.ensures.rest)
    (λ x b q k. search (rules, tests))
    ∙ sym (list_any-map is_target (λ e. (e.0, tree e.1)) c.args.attributes.now)
