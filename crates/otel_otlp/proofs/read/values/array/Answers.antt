use Rattle.std.proofs.Common.{sym, ◌∙◌}
use Rattle.otel_otlp.proofs.ReadErrors.{passed, then_first, then_second}
use Rattle.otel_otlp.proofs.read.values.array.Goals as goal

pub returns-in_err-read_list-clause-err : goal.returns-in_err-read_list-clause-err
returns-in_err-read_list-clause-err c =
    passed _ _ _ c.from_residual.ensures.1
    (λ no xs h.
    let are = then_first _ _ _ (sym c.all_values_have.ensures ∙ c.if-all_values_have.true) h in
    c.in_err-read_list.ensures.err no are.0 are.2)

pub returns-in_err-read_list-2-clause-err : goal.returns-in_err-read_list-2-clause-err
returns-in_err-read_list-2-clause-err c =
    passed _ _ _ c.from_residual-in_err-read_list-2.ensures.1
    (λ no xs h.
    let other = then_second _ _ _ (sym c.all_values_have.ensures ∙ c.if-all_values_have.false) h in
    let are = then_first _ _ _
    (sym c.all_values_have-else-all_values_have.ensures ∙ c.if-all_values_have-2.true) other in
    c.in_err-read_list-2.ensures.err no are.0 are.2)

pub returns-in_err-read_list-3-clause-err : goal.returns-in_err-read_list-3-clause-err
returns-in_err-read_list-3-clause-err c =
    passed _ _ _ c.from_residual-in_err-read_list-3.ensures.1
    (λ no xs h.
    let other = then_second _ _ _ (sym c.all_values_have.ensures ∙ c.if-all_values_have.false) h in
    let are = then_second _ _ _
    (sym c.all_values_have-else-all_values_have.ensures ∙ c.if-all_values_have-2.false) other in
    c.in_err-read_list-3.ensures.err no are.0 are.2)
