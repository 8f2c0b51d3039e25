use Rattle.std.proofs.Common.{[], ◌∷◌}
use Rattle.otel_proto.specs.Wire.{varint}
use Rattle.otel_proto.proofs.shared.Outputs.{put_zero}
use Rattle.otel_proto.proofs.fields.put_number_unless_zero.Goals as goal

pub returns-then-value-eq0 : goal.returns-then-value-eq0
returns-then-value-eq0 c = put_zero c.args.value ((c.args.number, varint c.args.value) ∷ []) c.args.out.now c.if-value-eq0.true
