use Rattle.std.proofs.Common.{rules, ◌≡◌, ◌∙◌}
use Rattle.otel_examples.proofs.Overlap.{newer_is_current, both_removed}
use Rattle.otel_examples.proofs.api.overlap.current_between.Goals as goal

pub returns-clause-restored : goal.returns-clause-restored
returns-clause-restored c =
    both_removed c.args.stack.now c.attach.new.self c.attach-2.new.self c.detach-2.new.self c.detach-3.new.self
    c.args.first c.args.second c.in_ok-older.older c.in-Ok.newer _ _
    c.newest_position.ensures.lawful c.stack_calls.ensures.restores
    c.in_ok-older.ensures.attaches c.in-Ok.ensures.attaches c.detach-2.ensures c.detach-3.ensures

pub returns-clause-second : goal.returns-clause-second
returns-clause-second c = λ room.
    let seen : c.current.result.now ≡ c.args.second =
    c.current.ensures
    ∙ newer_is_current c.args.stack.now c.attach.new.self c.attach-2.new.self c.detach-2.new.self c.detach-3.new.self
    c.args.first c.args.second c.in_ok-older.older c.in-Ok.newer _ _
    c.newest_position.ensures.lawful c.stack_calls.ensures.restores
    c.in_ok-older.ensures.attaches c.in-Ok.ensures.attaches c.detach-2.ensures c.detach-3.ensures room in
    rw (← seen) (search rules)
