use Rattle.std.proofs.Common.{◌≡◌, OnOk, ap, ◌∙◌, subst}
use Rattle.otel_proto.specs.Output.{Output, put_bytes}
use Rattle.otel_proto.specs.Written.{tag}
use Rattle.otel_proto.proofs.shared.Outputs.{put_varint_field}
use Rattle.otel_proto.proofs.fields.put_number.Goals as goal

pub returns : goal.returns
returns c =
    subst (λ (o : Output). OnOk c.put_tag.result (c.put_tag.new.out ≡ o))
    (ap (put_bytes (tag c.args.number 0)) c.in_ok-put_varint.ensures ∙ put_varint_field c.args.number c.args.value c.args.out.now)
    c.put_tag.ensures
