use Rattle.std.proofs.Common.{◌≡◌, length, sym, ◌∙◌, rules}
use Rattle.std.specs.Prelude.{IsTrue, ◌↔◌}
use Rattle.otel_context.proofs.EntryLemmas.{seen_none, none_seen}
use Rattle.otel_context.proofs.context.entries.Entries.is_empty.Goals as goal

pub returns : goal.returns
returns c =
    let empty : IsTrue c.is_empty.result ↔ (length c.self.inside.table.items.items ≡ 0) = search rules in (
      λ yes. sym c.self.view_is ∙ seen_none c.self.inside.table.items.items (empty.0 yes),
      λ none. empty.1 (none_seen c.self.inside.table.items.items (c.self.view_is ∙ none)),
    )
