use Rattle.std.proofs.Common.{rules, refl}
use Rattle.otel_view.proofs.logs.Logs.add.Goals as goal

pub returns-in_ok-push-in-Some-clause-kept : goal.returns-in_ok-push-in-Some-clause-kept
returns-in_ok-push-in-Some-clause-kept c =
    let written = c.get_mut.follows.holds c.push.new.self in
    rw (← c.in-Some.ensures.value) record {
      kept = c.push.new.self;
      adds = search rules;
      updates = written.3 (search rules);
      others = refl;
      trace = refl;
    }
