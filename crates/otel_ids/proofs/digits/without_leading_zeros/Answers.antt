use Rattle.std.proofs.Common.{◌∙◌, sym}
use Rattle.otel_ids.proofs.Cuts.{without_zeros_from_trim}
use Rattle.otel_ids.proofs.Significant.{zero_alone, digits_kept}
use Rattle.otel_ids.proofs.digits.without_leading_zeros.Goals as goal

pub returns-then-is_empty : goal.returns-then-is_empty
returns-then-is_empty c =
    let cut = c.trim_start_matches-significant in
    zero_alone _ _ (without_zeros_from_trim c.args.digits.now cut.result.now cut.ensures.matches) (sym c.is_empty.ensures ∙ c.if-is_empty.true)

pub returns-else-is_empty : goal.returns-else-is_empty
returns-else-is_empty c =
    let cut = c.trim_start_matches-significant in
    digits_kept _ _ (without_zeros_from_trim c.args.digits.now cut.result.now cut.ensures.matches) (sym c.is_empty.ensures ∙ c.if-is_empty.false)
