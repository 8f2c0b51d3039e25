use Rattle.std.proofs.Common.{rules, refl, []}
use Rattle.std.proofs.lemmas.List.Elements.{All-nil}
use Rattle.otel_context.specs.Context.{empty_context}
use Rattle.otel_propagators.specs.Laws.{IsOther}
use Rattle.otel_examples.proofs.Joined.{after_others, any_two}
use Rattle.otel_examples.proofs.api.joined.by_both.Goals as goal

pub returns-clause-back : goal.returns-clause-back
returns-clause-back g c = λ has.
    c.send_and_receive.ensures.back empty_context
    (after_others _ _ _ _ _ _ c.in_ok-both.both.members.items [] c.args.first c.args.second [] (search rules) refl refl (All-nil IsOther) has)

pub returns-clause-refused : goal.returns-clause-refused
returns-clause-refused g c = any_two _ c.in_ok-both.both.members.items c.args.first c.args.second _ (search rules) c.send_and_receive.ensures.refused
