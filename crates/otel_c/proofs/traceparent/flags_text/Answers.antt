use Rattle.std.proofs.Common.{◌≡◌, ℕ, List, ◌^◌, ◌-◌, [], false, string_bytes, IfOk, subst, ◌∙◌, rules, arith}
use Rattle.std.specs.Fmt.{padded_integral, format_spec, digits}
use Rattle.std.proofs.lemmas.Fmt.{hex_byte}
use Rattle.otel_c.proofs.Parent.{two_digits}
use Rattle.otel_c.proofs.traceparent.flags_text.Goals as goal

pub returns : goal.returns
returns c =
    let piece : IfOk c.format.result (λ text. string_bytes text ≡ padded_integral (format_spec 32 0 4 2 (2 ^ 64 - 1)) false [] (digits 16 false c.args.flags)) = search rules in
    subst (λ (x : List ℕ). IfOk c.format.result (λ text. string_bytes text ≡ x)) (hex_byte false c.args.flags (omega arith) ∙ two_digits c.args.flags (omega arith)) piece
