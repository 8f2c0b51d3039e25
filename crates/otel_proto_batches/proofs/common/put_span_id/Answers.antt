use Rattle.std.proofs.Common.{[], ◌∷◌}
use Rattle.otel_proto.specs.Wire.{bytes}
use Rattle.otel_proto.proofs.shared.Outputs.{same_puts}
use Rattle.otel_proto_batches.proofs.common.put_span_id.Goals as goal

pub returns : goal.returns
returns c = same_puts (λ s. (c.args.number, bytes s) ∷ []) c.put_bytes.result c.args.out.now c.put_bytes.new.out c.to_bytes.ensures.bytes c.put_bytes.ensures
