use Rattle.std.proofs.Common.{ℕ, codes, option_map, sym, ◌∙◌, subst}
use Rattle.otel_base.specs.Severity.{number}
use Rattle.otel_otlp.specs.Json.{number_member, number_if_given}
use Rattle.otel_otlp.specs.Tokens.{WritesMembers}
use Rattle.otel_otlp.proofs.logs.put_severity.Goals as goal

pub returns-in-Some : goal.returns-in-Some
returns-in-Some c =
    subst (λ o. WritesMembers c.put_number.result c.args.out.now c.put_number.new.out (number_if_given (codes "severityNumber") (option_map number o))) (sym c.in-Some.is)
    (subst (λ (n : ℕ). WritesMembers c.put_number.result c.args.out.now c.put_number.new.out (number_member (codes "severityNumber") n))
    (c.from-number.ensures ∙ c.number.ensures) c.put_number.ensures)
