use Rattle.std.proofs.Common.{rules, refl}
use Rattle.otel_waterfall.specs.declared.page.PageTrace.{PageTrace}
use Rattle.otel_view.proofs.chosen.Chosen.add.Goals as goal

pub returns-in_ok-push-clause-kept : goal.returns-in_ok-push-clause-kept
returns-in_ok-push-clause-kept c =
    let kept : PageTrace = record { trace_id = c.in-Some.trace.now.trace_id; start = c.in-Some.trace.now.start; spans = c.push.new.self } in
    let written = c.get_mut.follows.holds kept in
    rw (← c.in-Some.ensures.value) record {
      kept = kept;
      adds = record { trace_id = refl; start = refl; spans = search rules };
      updates = written.3 (search rules);
      order = written.1;
    }
