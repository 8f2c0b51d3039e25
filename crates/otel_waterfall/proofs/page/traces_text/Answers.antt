use Rattle.std.proofs.Common.{List, subst, string_bytes, arith}
use Rattle.std.proofs.lemmas.List.{take_all}
use Rattle.otel_waterfall.specs.Page as spec
use Rattle.otel_waterfall.specs.declared.page.PageTrace.{PageTrace}
use Rattle.otel_waterfall.proofs.Pages.{no_traces, traces_turn}
use Rattle.otel_waterfall.proofs.page.traces_text.Goals as goal

pub loop-trace-init : goal.loop-trace-init
loop-trace-init c = no_traces c.args.is_alone (string_bytes c.in_ok-text.text) c.in_ok-text.ensures

pub loop-trace-preserved : goal.loop-trace-preserved
loop-trace-preserved c =
    traces_turn c.args.is_alone c.args.traces.now c.loop-trace.trace-index c.trace-item.result (string_bytes c.loop-trace.text) (string_bytes c.push_trace.new.text)
    c.loop-trace-test.true c.loop-trace.invariant
    (subst (λ (t : PageTrace). spec.AddsTrace c.args.is_alone t (string_bytes c.loop-trace.text) (string_bytes c.push_trace.new.text)) c.trace-item.is c.in_ok-push_trace.ensures)

pub returns : goal.returns
returns c =
    subst (λ (ts : List PageTrace). spec.AreTraces c.args.is_alone ts (string_bytes c.loop-trace.text))
    (take_all c.loop-trace.trace-index c.args.traces.now (omega (arith, c.loop-trace-test.false))) c.loop-trace.invariant
