use Rattle.std.proofs.Common.{◌≡◌, OnOk, ap, ◌∙◌, subst}
use Rattle.otel_proto.specs.Output.{Output, put_head}
use Rattle.otel_proto.proofs.shared.Outputs.{put_bytes_field}
use Rattle.otel_proto.proofs.fields.put_bytes.Goals as goal

pub returns : goal.returns
returns c =
    subst (λ (o : Output). OnOk c.put_head.result (c.put_head.new.out ≡ o))
    (ap (put_head c.args.number c.count-end.result) c.in_ok-put.ensures
    ∙ put_bytes_field c.args.number c.count-end.result c.args.value.now c.args.out.now c.count-end.ensures)
    c.put_head.ensures
