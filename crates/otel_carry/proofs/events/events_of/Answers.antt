use Rattle.std.proofs.Common.{◌≡◌, ◌+◌, ◌≤◌, length, lit<, arith, sym, ap, ◌∙◌, of_calls, if◌then◌else◌}
use Rattle.std.specs.Prelude.{not}
use Rattle.std.proofs.lemmas.List.{length_push}
use Rattle.std.proofs.lemmas.List.FromFn.{length-enumerate_from}
use Rattle.std.proofs.lemmas.Result.{err_from_is_err_and}
use Rattle.std.proofs.lemmas.Iterator.Splits.{YieldsList-from_str_split}
use Rattle.std.proofs.lemmas.Iterator.Consumers.{YieldsList-at, YieldsList-turn, YieldsList-end, YieldsList-from_enumerate}
use Rattle.opentelemetry.specs.Run.{is_attach}
use Rattle.otel_carry.specs.Events.{lines_of}
use Rattle.otel_carry.proofs.EventLemmas.{passes_by, goes_on, fails, ends, line_at, counted}
use Rattle.otel_carry.proofs.events.events_of.Goals as goal
use Rattle.otel_carry.proofs.events.events_of.Goals.{in-Attach, in_default, then-matches, else-matches}

pub loop-index-preserved-then-is_empty : goal.loop-index-preserved-then-is_empty
loop-index-preserved-then-is_empty c =
    let road = YieldsList-at c.into_iter-index-iterator.ensures.into_iter_gives (YieldsList-from_enumerate (YieldsList-at c.enumerate-index-items.ensures.source (YieldsList-from_str_split 10 c.args.text.now (lit< tt) c.split.ensures.text c.split.ensures.has_more c.split.ensures.pattern)) c.enumerate-index-items.ensures.count) in
    let t = line_at (lines_of c.args.text.now) (length c.loop-index.yielded) c.in-Some.index c.in-Some.line.now (YieldsList-turn road c.loop-index.yielded _ c.loop-index.yielded_by _ _ (c.in-Some.index, c.in-Some.line) c.in-Some.is c.next.ensures.steps) in (
      search of_calls,
      search of_calls,
      passes_by (lines_of c.args.text.now) (length c.loop-index.yielded) _ c.in-Some.line.now c.loop-index.events.items (length_push c.loop-index.yielded (c.in-Some.index, c.in-Some.line)) t.1 (ap not (sym c.is_empty.ensures ∙ c.if-is_empty.true)) c.loop-index.invariant.2,
      c.loop-index.invariant.3,
      omega (arith, length_push c.loop-index.yielded (c.in-Some.index, c.in-Some.line), c.loop-index.invariant.4),
    )

pub returns-in_err-event-clause-failure : goal.returns-in_err-event-clause-failure
returns-in_err-event-clause-failure c =
    let road = YieldsList-at c.into_iter-index-iterator.ensures.into_iter_gives (YieldsList-from_enumerate (YieldsList-at c.enumerate-index-items.ensures.source (YieldsList-from_str_split 10 c.args.text.now (lit< tt) c.split.ensures.text c.split.ensures.has_more c.split.ensures.pattern)) c.enumerate-index-items.ensures.count) in
    let t = line_at (lines_of c.args.text.now) (length c.loop-index.yielded) c.in-Some.index c.in-Some.line.now (YieldsList-turn road c.loop-index.yielded _ c.loop-index.yielded_by _ _ (c.in-Some.index, c.in-Some.line) c.in-Some.is c.next.ensures.steps) in
    let p = err_from_is_err_and c.from_residual.result c.from_residual.ensures.1 in
    rw (p.1, p.2) (fails (lines_of c.args.text.now) (length c.loop-index.yielded) _ c.in-Some.line.now c.loop-index.events.items _ (ap (λ n. n + 1) t.0) t.1 (ap not (sym c.is_empty.ensures ∙ c.if-is_empty.false)) c.loop-index.invariant.2 c.in_err-event.ensures.failure)

pub loop-index-preserved : goal.loop-index-preserved
loop-index-preserved c =
    let road = YieldsList-at c.into_iter-index-iterator.ensures.into_iter_gives (YieldsList-from_enumerate (YieldsList-at c.enumerate-index-items.ensures.source (YieldsList-from_str_split 10 c.args.text.now (lit< tt) c.split.ensures.text c.split.ensures.has_more c.split.ensures.pattern)) c.enumerate-index-items.ensures.count) in
    let t = line_at (lines_of c.args.text.now) (length c.loop-index.yielded) c.in-Some.index c.in-Some.line.now (YieldsList-turn road c.loop-index.yielded _ c.loop-index.yielded_by _ _ (c.in-Some.index, c.in-Some.line) c.in-Some.is c.next.ensures.steps) in
    let matches : c.match-matches.matches ≡ is_attach c.in_ok-event.event =
    elim c.match-matches.branch [ in-Attach w ↦ rw (w.in-Attach.is) w.matches-is | in_default w ↦ rw (w.in_default.is) w.matches-is ] in
    let after : c.if-matches.attaches ≡ (if is_attach c.in_ok-event.event then c.loop-index.attaches + 1 else c.loop-index.attaches) =
    elim c.if-matches.branch [ then-matches w ↦ rw (← matches, w.if-matches.true) w.attaches-is | else-matches w ↦ rw (← matches, w.if-matches.false) w.attaches-is ] in
    let few : c.if-matches.attaches ≤ c.loop-index.attaches + 1 = elim c.if-matches.branch [ then-matches w ↦ omega (arith, w.attaches-is) | else-matches w ↦ omega (arith, w.attaches-is) ] in (
      search of_calls,
      search of_calls,
      rw c.in_ok-push.ensures.items (goes_on (lines_of c.args.text.now) (length c.loop-index.yielded) _ c.in-Some.line.now c.loop-index.events.items c.in_ok-event.event (length_push c.loop-index.yielded (c.in-Some.index, c.in-Some.line)) t.1 (ap not (sym c.is_empty.ensures ∙ c.if-is_empty.false)) c.loop-index.invariant.2 (rw c.loop-index.invariant.3 at c.in_ok-event.ensures.event)),
      rw c.in_ok-push.ensures.items (counted c.loop-index.events.items c.in_ok-event.event c.loop-index.attaches c.if-matches.attaches c.loop-index.invariant.3 after),
      omega (arith, length_push c.loop-index.yielded (c.in-Some.index, c.in-Some.line), c.loop-index.invariant.4, few),
    )

pub returns-clause-events : goal.returns-clause-events
returns-clause-events c =
    let road = YieldsList-at c.into_iter-index-iterator.ensures.into_iter_gives (YieldsList-from_enumerate (YieldsList-at c.enumerate-index-items.ensures.source (YieldsList-from_str_split 10 c.args.text.now (lit< tt) c.split.ensures.text c.split.ensures.has_more c.split.ensures.pattern)) c.enumerate-index-items.ensures.count) in
    let t = YieldsList-end road c.loop-index.yielded _ c.loop-index.yielded_by _ _ c.in-None.is c.next.ensures.steps in
    ends (lines_of c.args.text.now) (length c.loop-index.yielded) c.loop-index.events.items (omega (arith, t.1, length-enumerate_from 0 (lines_of c.args.text.now))) c.loop-index.invariant.2
