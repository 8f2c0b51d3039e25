use Rattle.std.proofs.Common.{◌≡◌, None, rules, sym, ap, subst, ◌∙◌}
use Rattle.std.specs.Map.{lookup}
use Rattle.std.specs.Str.{bytes_eq}
use Rattle.indexmap.specs.IndexMap.{insert_entry}
use Rattle.otel_context.specs.declared.names.Name.TheVariants.{Held}
use Rattle.otel_context.specs.Names.{entries_of, AreHeld}
use Rattle.otel_context.proofs.NameLemmas.{lookup_is, distinct_is, insert_is, held_insert}
use Rattle.otel_context.proofs.baggage.members.many.Many.insert.Goals as goal

pub returns-in_err-old-clause-absent : goal.returns-in_err-old-clause-absent
returns-in_err-old-clause-absent c =
    let k = c.args.key in
    let none : lookup (bytes_eq k) c.args.self.now ≡ None = sym (ap (lookup (bytes_eq k)) c.self.view_is) ∙ sym (lookup_is (Held k) c.self.inside.map.entries) ∙ c.in_err-old.ensures.absent in
    search (rules, none)

pub returns-in_err-old-clause-distinct : goal.returns-in_err-old-clause-distinct
returns-in_err-old-clause-distinct c = distinct_is c.insert.new.self.entries c.insert.ensures.unique

pub invariant_of-self-2 : goal.invariant_of-self-2
invariant_of-self-2 c = subst AreHeld (sym c.in_ok-old.ensures.entries) (held_insert c.self.inside.map.entries (Held c.args.key) c.args.pair tt c.self.invariant)

pub returns-clause-old : goal.returns-clause-old
returns-clause-old c = c.in_ok-old.ensures.old ∙ lookup_is (Held c.args.key) c.self.inside.map.entries ∙ ap (lookup (bytes_eq c.args.key)) c.self.view_is

pub returns-clause-entries : goal.returns-clause-entries
returns-clause-entries c =
    ap entries_of c.in_ok-old.ensures.entries
    ∙ insert_is c.self.inside.map.entries (Held c.args.key) c.args.pair
    ∙ ap (λ l. insert_entry bytes_eq l c.args.key c.args.pair) c.self.view_is

pub returns-clause-distinct : goal.returns-clause-distinct
returns-clause-distinct c = distinct_is c.insert.new.self.entries c.insert.ensures.unique
