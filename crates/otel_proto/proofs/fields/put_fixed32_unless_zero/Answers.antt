use Rattle.std.proofs.Common.{[], ◌∷◌}
use Rattle.otel_proto.specs.Wire.{fixed32}
use Rattle.otel_proto.proofs.shared.Outputs.{put_zero}
use Rattle.otel_proto.proofs.fields.put_fixed32_unless_zero.Goals as goal

pub returns-then-value-eq0 : goal.returns-then-value-eq0
returns-then-value-eq0 c = put_zero c.args.value ((c.args.number, fixed32 c.args.value) ∷ []) c.args.out.now c.if-value-eq0.true
