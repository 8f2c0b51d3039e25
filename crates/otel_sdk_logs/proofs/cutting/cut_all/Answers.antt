use Rattle.otel_base.specs.View.{pairs_view}
use Rattle.otel_sdk_logs.proofs.Cuts.{cut-unless-given}
use Rattle.otel_sdk_logs.proofs.cutting.cut_all.Goals as goal

pub returns-then-is_none : goal.returns-then-is_none
returns-then-is_none c =
    cut-unless-given c.args.length c.is_none.result (pairs_view c.args.given.items) c.is_none.ensures c.if-is_none.true
