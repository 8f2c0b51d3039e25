use Rattle.std.proofs.Common.{sym, ◌∙◌}
use Rattle.otel_proto.proofs.shared.Outputs.{put_empty}
use Rattle.otel_proto.proofs.fields.put_bytes_unless_empty.Goals as goal

pub returns-then-is_empty : goal.returns-then-is_empty
returns-then-is_empty c = put_empty c.args.number c.args.value.now c.args.out.now (sym c.is_empty.ensures ∙ c.if-is_empty.true)
