use Rattle.std.proofs.Common.{sym, ◌∙◌, arith}
use Rattle.std.proofs.Math.Nat.{mod-eq_of_lt}
use Rattle.otel_sdk.proofs.Scaling.{scale_up, scale_down, scale_away, scale_below}
use Rattle.otel_sdk.proofs.trace.sampler.ratio.scaled.Goals as goal

pub returns-then-exponent-ge1012 : goal.returns-then-exponent-ge1012
returns-then-exponent-ge1012 c =
    mod-eq_of_lt (scale_below c.args.significand _ 53 64 c.requires.significand (omega arith))
    ∙ sym (scale_up c.args.significand c.args.exponent 1012 c.if-exponent-ge1012.true)

pub returns-then-exponent : goal.returns-then-exponent
returns-then-exponent c =
    sym (scale_down c.args.significand c.args.exponent 1012 (omega arith))

pub returns-else-exponent : goal.returns-else-exponent
returns-else-exponent c =
    sym (scale_away c.args.significand c.args.exponent 1012 53 c.requires.significand (omega arith))
