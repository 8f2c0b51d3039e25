use Rattle.std.proofs.Common.{◌≡◌, ◌∙◌, List, ℕ, ap, subst}
use Rattle.std.proofs.lemmas.Result.{err_from_is_err_and}
use Rattle.otel_c.specs.Room.{Holds}
use Rattle.otel_c.specs.Span.{parts_of, state_header}
use Rattle.otel_c.proofs.Given.{span_long}
use Rattle.otel_c.proofs.values.span_from_values.Goals as goal

pub returns-clause-span : goal.returns-clause-span
returns-clause-span c =
    let same : c.as_str.result.now ≡ state_header c.in_ok-context.context =
    cc (c.in_ok-text.ensures.text) in
    record {
      context = c.in_ok-context.context;
      given = c.in_ok-context.ensures.read;
      parts_are = c.of.ensures ∙ ap parts_of c.span_context-read.ensures;
      holds = subst (λ (t : List ℕ). Holds t c.args.room.now c.write.new.room c.write.new.written) same
          (record { room = c.in_ok-write.ensures.text; length = c.write.ensures.needed });
    }

pub returns-in_err-write-clause-refused : goal.returns-in_err-write-clause-refused
returns-in_err-write-clause-refused c =
    let same : c.as_str.result.now ≡ state_header c.in_ok-context.context =
    cc (c.in_ok-text.ensures.text) in
    let p = err_from_is_err_and c.from_residual-in_err-write.result c.from_residual-in_err-write.ensures.1 in
    rw (p.1, p.2) (span_long _ _ _ c.in_ok-context.ensures.read _ _ _ _ same c.write.ensures.needed
    c.in_err-write.ensures.refused)
