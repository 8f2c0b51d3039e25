use Rattle.std.proofs.Common.{◌≡◌, map}
use Rattle.otel_base.specs.View.{pairs_view}
use Rattle.otel_sdk_logs.specs.Cuts as spec
use Rattle.otel_sdk_logs.proofs.cutting.cut_all.Given as goal

abbrev pub invariant-loop-key : goal.invariant-loop-key
invariant-loop-key l = pairs_view l.kept.items ≡ map (spec.cut l.length) (pairs_view l.yielded)
