use Rattle.std.proofs.Common.{rules, refl}
use Rattle.otel_http.specs.Lines as spec
use Rattle.otel_http.proofs.LineLemmas.{stable_name, stable_value}
use Rattle.otel_http.proofs.lines.header.Goals as goal

pub returns-in-Ok-from_str-clause-is_header : goal.returns-in-Ok-from_str-clause-is_header
returns-in-Ok-from_str-clause-is_header c =
    let colon : spec.HasColon c.args.line.now = search rules in
    let name = stable_name (spec.name_part c.args.line.now) (λ n. search rules) in
    let value = stable_value (spec.value_part c.args.line.now) (λ n. search rules) in
    (λ _. (colon, name, value), λ _. refl)
