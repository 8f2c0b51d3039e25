use Rattle.std.proofs.Common.{◌∙◌, List, ap, reverse, rules, tests}
use Rattle.std.specs.Prelude.{◌==◌}
use Rattle.std.proofs.lemmas.Iterator.Adapters.{YieldsList-from_rev_slice}
use Rattle.std.proofs.lemmas.Iterator.Search.{any_from_yields_List}
use Rattle.opentelemetry.specs.Tracing as spec
use Rattle.opentelemetry.specs.OpenSpans.{OpenState}
use Rattle.opentelemetry.specs.declared.trace.tracing.open_spans.OpenSpan.{OpenSpan}
use Rattle.opentelemetry.proofs.trace.tracing.open_spans.OpenSpans.is_open.Goals as goal

pub returns : goal.returns
returns g c =
    any_from_yields_List (λ e. e.number == c.args.number) _ _ _ c.any.ensures.ran
    (YieldsList-from_rev_slice c.deref.result.now (search rules))
    (λ x b q k. search (rules, tests))
    ∙ ap (λ (xs : List OpenSpan). spec.is_open c.args.number (reverse xs)) c.deref.ensures.value
    ∙ ap (λ (xs : List OpenSpan). spec.is_open c.args.number xs) (ap (λ (t : OpenState g.row.B.Denot g.row.B-Span.Denot). t.places) c.self.view_is)
