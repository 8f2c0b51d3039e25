use Rattle.std.proofs.Common.{◌∙◌, ap, map, sym, rules}
use Rattle.std.proofs.lemmas.Fn.{filter_same}
use Rattle.otel_base.proofs.shared.MappedLists.{filter_views}
use Rattle.opentelemetry.specs.SpanBuilder.{is_valid_link}
use Rattle.opentelemetry.specs.View.{link_of}
use Rattle.opentelemetry.proofs.trace.span_builder.valid_links.Goals as goal

pub returns : goal.returns
returns c =
    let kept = filter_same _ (λ l. is_valid_link (link_of l)) _ (λ l b f' called. search rules) _ _ c.retain.ensures.filtered in
    ap (map link_of) kept ∙ sym (filter_views link_of is_valid_link c.args.links.items)
