use Rattle.std.proofs.Common.{ℕ, ◌<◌, true, false, ap, ◌∙◌, arith}
use Rattle.std.specs.Int.{bit_at}
use Rattle.otel_ids.specs.TraceFlags.{with_sampled}
use Rattle.otel_ids.proofs.FlagBits.{set_lowest, clear_lowest, other_bits}
use Rattle.otel_ids.proofs.trace_flags.TraceFlags.with_sampled.Goals as goal

pub returns-then-sampled-clause-flags : goal.returns-then-sampled-clause-flags
returns-then-sampled-clause-flags c = rw c.if-sampled.true (set_lowest c.self.inside.0 ∙ ap (λ (n : ℕ). with_sampled n true) c.self.view_is)

pub returns-then-sampled-clause-others : goal.returns-then-sampled-clause-others
returns-then-sampled-clause-others c = λ i above.
    ap (λ (n : ℕ). bit_at n i) (set_lowest c.self.inside.0) ∙ other_bits c.self.inside.0 true i above ∙ ap (λ (n : ℕ). bit_at n i) c.self.view_is

pub returns-else-sampled-clause-others : goal.returns-else-sampled-clause-others
returns-else-sampled-clause-others c = λ i above.
    let a_byte : c.self.inside.0 < 256 = omega arith in
    ap (λ (n : ℕ). bit_at n i) (clear_lowest c.self.inside.0 a_byte) ∙ other_bits c.self.inside.0 false i above ∙ ap (λ (n : ℕ). bit_at n i) c.self.view_is
