use Rattle.std.proofs.Common.{◌≡◌, refl, ap, ◌∙◌, rules}
use Rattle.otel_context.specs.Context.{span_context, span_number}
use Rattle.otel_context.specs.Stack.{current}
use Rattle.otel_context.specs.SpanRef.{IsSameReference}
use Rattle.otel_context.proofs.SpanRefLemmas.{OthersStay-along}
use Rattle.otel_context.proofs.span.active.get_active_span.Goals as goal

pub returns : goal.returns
returns g c =
    let before = c.span-active.result in
    let after = c.f.new.arg2 in
    let made = c.span-active.ensures in
    let number : before.number ≡ span_number (current c.args.stack.now.live) = made.number ∙ ap span_number c.current.ensures in
    let same : IsSameReference before after = c.requires.keeps _ _ _ c.f.ensures in
    record {
      before = before;
      table = made.table;
      number = number;
      span_context_is = made.context ∙ ap span_context c.current.ensures;
      after = after;
      called = record { shown = _; shows = refl; left = _; met = c.f.ensures; leaves = refl };
      left = search (rules, same);
      others = OthersStay-along _ after.number _ after.first.value _ after.spans.now (same.number ∙ number) (same.first ∙ made.first) (search (rules, same)) after.others;
    }
