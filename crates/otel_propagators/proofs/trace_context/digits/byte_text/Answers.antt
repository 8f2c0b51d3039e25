use Rattle.std.proofs.Common.{◌≡◌, ℕ, List, ◌^◌, ◌-◌, [], false, string_bytes, IfOk, subst, ◌∙◌, rules, arith}
use Rattle.std.specs.Fmt.{padded_integral, format_spec, digits}
use Rattle.std.proofs.lemmas.Fmt.{hex_byte}
use Rattle.otel_propagators.proofs.Parents.{two_digits}
use Rattle.otel_propagators.proofs.trace_context.digits.byte_text.Goals as goal

pub returns : goal.returns
returns c =
    let piece : IfOk c.format.result (λ text. string_bytes text ≡ padded_integral (format_spec 32 0 4 2 (2 ^ 64 - 1)) false [] (digits 16 false c.args.byte)) = search rules in
    subst (λ (x : List ℕ). IfOk c.format.result (λ text. string_bytes text ≡ x)) (hex_byte false c.args.byte (omega arith) ∙ two_digits c.args.byte (omega arith)) piece
