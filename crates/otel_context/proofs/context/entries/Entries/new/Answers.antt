use Rattle.std.proofs.Common.{[], replicate, sym, subst}
use Rattle.std.proofs.lemmas.List.Elements.{All-nil}
use Rattle.otel_context.specs.View.{IsRising, AreInSlots, AreLasts}
use Rattle.otel_context.proofs.EntryLemmas.{InSlot, lasts_none}
use Rattle.otel_context.proofs.context.entries.Entries.new.Goals as goal

pub invariant_of-result : goal.invariant_of-result
invariant_of-result c = (
  subst IsRising (sym c.new.ensures.items) tt,
  subst AreInSlots (sym c.new.ensures.items) (All-nil InSlot),
  subst (AreLasts (replicate 128 255)) (sym c.new.ensures.items) (lasts_none []),
)
