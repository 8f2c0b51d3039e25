use Rattle.std.proofs.Common.{◌≡◌, OnOk, ap, ◌∙◌, subst}
use Rattle.otel_base.specs.View.{array_of}
use Rattle.otel_proto.specs.Common.{array_values}
use Rattle.otel_proto.specs.Output.{Output, put_head}
use Rattle.otel_proto.proofs.shared.Outputs.{put_message}
use Rattle.otel_proto.proofs.common.array_value.Goals as goal

pub returns : goal.returns
returns c =
    subst (λ (o : Output). OnOk c.put_head.result (c.put_head.new.out ≡ o))
    (ap (put_head 5 c.count-end.result) c.in_ok-array_values.ensures
    ∙ put_message 5 c.count-end.result (array_values (array_of c.args.array.now)) c.args.out.now c.count-end.ensures)
    c.put_head.ensures
