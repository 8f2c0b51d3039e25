use Rattle.std.proofs.Common.{T, ◌≡◌, sym, ap, subst, ◌∙◌}
use Rattle.std.specs.FinMap.{from_entries, is_sorted}
use Rattle.otel_context.specs.View.{text_cmp, slot_number}
use Rattle.otel_context.proofs.EntryLemmas.{All-shared, AreLasts-AllZip, pairs-AllZip, rows-AllZip}
use Rattle.otel_context.proofs.context.entries.EntriesClone.clone.Goals as goal

pub invariant_of-result : goal.invariant_of-result
invariant_of-result c =
    let same = c.in_ok-clone.ensures.cases.0 in (
      subst (λ ps. T (is_sorted text_cmp ps)) (sym (rows-AllZip _ _ same)) c.self.invariant.0,
      All-shared (λ e. e.slot ≡ slot_number e.key) _ _ same c.self.invariant.1,
      AreLasts-AllZip _ _ _ same c.self.invariant.2,
    )

pub returns : goal.returns
returns c = record { cases = ap from_entries (pairs-AllZip _ _ c.in_ok-clone.ensures.cases.0) ∙ c.self.view_is }
