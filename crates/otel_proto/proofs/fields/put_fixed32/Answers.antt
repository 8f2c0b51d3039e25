use Rattle.std.proofs.Common.{◌≡◌, OnOk, ap, ◌∙◌, subst}
use Rattle.otel_proto.specs.Output.{Output, put_bytes}
use Rattle.otel_proto.specs.Written.{tag}
use Rattle.otel_proto.proofs.shared.Outputs.{put_fixed32_field}
use Rattle.otel_proto.proofs.fields.put_fixed32.Goals as goal

pub returns : goal.returns
returns c =
    subst (λ (o : Output). OnOk c.put_tag.result (c.put_tag.new.out ≡ o))
    (ap (put_bytes (tag c.args.number 5)) (c.in_ok-put.ensures ∙ ap (λ s. put_bytes s c.args.out.now) c.to_le_bytes.ensures) ∙ put_fixed32_field c.args.number c.args.value c.args.out.now)
    c.put_tag.ensures
