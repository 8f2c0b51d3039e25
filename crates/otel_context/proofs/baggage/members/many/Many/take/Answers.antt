use Rattle.std.proofs.Common.{◌≡◌, [], ap, ◌∙◌}
use Rattle.std.specs.Str.{bytes_eq}
use Rattle.indexmap.specs.IndexMap.{insert_all}
use Rattle.otel_context.specs.Names.{entries_of}
use Rattle.otel_context.proofs.BaggageStores.{all_inserted}
use Rattle.otel_context.proofs.baggage.members.many.Many.take.Goals as goal

pub returns-clause-taken : goal.returns-clause-taken
returns-clause-taken c =
    let empty : entries_of c.reserve.new.self.entries ≡ [] = ap entries_of c.reserve.ensures.entries ∙ c.self.view_is ∙ c.requires in
    c.fill.ensures.entries
    ∙ ap (λ l. insert_all bytes_eq l c.take.result.items) empty
    ∙ ap (λ l. insert_all bytes_eq [] l) c.take.ensures.entries
    ∙ all_inserted c.args.few.now c.take.ensures.distinct
