use Rattle.std.proofs.Common.{Some, sym, ap, subst, ◌∙◌, slice_get}
use Rattle.std.specs.Prelude.{remove}
use Rattle.std.specs.Option.{option_map}
use Rattle.std.proofs.lemmas.Option.{slice_get-map}
use Rattle.indexmap.proofs.SetLemmas.{map-remove}
use Rattle.otel_context.specs.Names.{text_of, IsHeld, entry_of, entries_of, AreHeld}
use Rattle.otel_context.proofs.NameLemmas.{distinct_is, held_remove, held_at}
use Rattle.otel_context.proofs.baggage.members.many.Many.remove_at.Goals as goal

pub returns-in_err-name-clause-distinct : goal.returns-in_err-name-clause-distinct
returns-in_err-name-clause-distinct c = distinct_is c.shift_remove_index.new.self.entries c.shift_remove_index.ensures.unique

pub unreachable-requires : goal.unreachable-requires
unreachable-requires c =
    let at = sym c.shift_remove_index.ensures.entry ∙ c.in_ok-name.was in
    subst IsHeld c.in-Asked.is (held_at c.self.inside.map.entries c.args.index (c.in_ok-name.name, c.in_ok-name.pair) c.self.invariant at)

pub invariant_of-self-2 : goal.invariant_of-self-2
invariant_of-self-2 c = subst AreHeld (sym c.shift_remove_index.ensures.entries) (held_remove c.self.inside.map.entries c.args.index c.self.invariant)

pub returns-clause-entry : goal.returns-clause-entry
returns-clause-entry c =
    let es = c.self.inside.map.entries in
    let at = sym c.shift_remove_index.ensures.entry ∙ c.in_ok-name.was in
    ap (λ n. Some (text_of n, c.in_ok-name.pair)) (sym c.in-Held.is)
    ∙ ap (option_map entry_of) (sym at)
    ∙ sym (slice_get-map entry_of es c.args.index)
    ∙ ap (λ l. slice_get l c.args.index) c.self.view_is

pub returns-clause-entries : goal.returns-clause-entries
returns-clause-entries c =
    ap entries_of c.shift_remove_index.ensures.entries
    ∙ map-remove entry_of c.self.inside.map.entries c.args.index
    ∙ ap (λ l. remove l c.args.index) c.self.view_is

pub returns-clause-distinct : goal.returns-clause-distinct
returns-clause-distinct c = distinct_is c.shift_remove_index.new.self.entries c.shift_remove_index.ensures.unique
