use Rattle.std.proofs.Common.{false, subst, codes}
use Rattle.serde_json.specs.View.{view}
use Rattle.otel_otlp.specs.ReadTraces.{IsContext}
use Rattle.otel_otlp.proofs.ReadErrors.{passed, one_wide}
use Rattle.otel_otlp.proofs.read.spans.identity_in.Goals as goal

pub returns-in_err-context-clause-err : goal.returns-in_err-context-clause-err
returns-in_err-context-clause-err c =
    let d = view c.args.span.now in
    passed _ _ _ c.from_residual-in_err-context.ensures.1
    (λ no s parent remote h.
    c.in_err-context.ensures.err no s
    (subst (λ n. IsContext d n false s)
    (one_wide (codes "flags") d _ _ h.has_flags.0 c.in_ok-flags.ensures.ok.0) h.context))
