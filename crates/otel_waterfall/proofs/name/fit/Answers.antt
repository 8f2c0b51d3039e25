-- A name that is cut.
use Rattle.std.proofs.Common.{◌<◌, length, arith}
use Rattle.std.proofs.lemmas.Grind.{common_steps}
use Rattle.otel_waterfall.specs.Name.{count_within}
use Rattle.otel_waterfall.proofs.Widths.{fit_cuts}
use Rattle.otel_waterfall.proofs.name.fit.Goals as goal

pub returns-then-count_within-len : goal.returns-then-count_within-len
returns-then-count_within-len c =
    let less : count_within c.args.columns c.args.name.now.items < length c.args.name.now.items = grind (arith, common_steps) in
    let cuts = fit_cuts c.args.is_ascii c.args.columns c.args.name.now.items less in
    grind (arith, common_steps, cuts)
