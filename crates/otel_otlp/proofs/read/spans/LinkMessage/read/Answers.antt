use Rattle.std.proofs.Common.{subst, sym, codes}
use Rattle.serde_json.specs.View.{view}
use Rattle.otel_otlp.specs.ReadTraces.{IsContext, is_remote}
use Rattle.otel_otlp.proofs.ReadErrors.{passed, one_wide}
use Rattle.otel_otlp.proofs.read.spans.LinkMessage.read.Goals as goal

pub returns-in_err-linked-clause-err : goal.returns-in_err-linked-clause-err
returns-in_err-linked-clause-err c =
    let d = view c.args.value.now in
    passed _ _ _ c.from_residual-in_err-linked.ensures.1
    (λ no l h.
    c.in_err-linked.ensures.err no l.span_context
    (subst (λ remote. IsContext d c.in_ok-flags.flags remote l.span_context)
    (sym c.is_remote.ensures)
    (subst (λ n. IsContext d n (is_remote n) l.span_context)
    (one_wide (codes "flags") d _ _ h.has_flags.0 c.in_ok-flags.ensures.ok.0) h.context)))

pub returns-in_err-given-clause-err : goal.returns-in_err-given-clause-err
returns-in_err-given-clause-err c =
    passed _ _ _ c.from_residual-in_err-given.ensures.1
    (λ no l h. c.in_err-given.ensures.err no l.attributes h.attributes)

pub returns-in_err-dropped-clause-err : goal.returns-in_err-dropped-clause-err
returns-in_err-dropped-clause-err c =
    passed _ _ _ c.from_residual-in_err-dropped.ensures.1
    (λ no l h. c.in_err-dropped.ensures.err no l.dropped_attributes_count h.dropped)
