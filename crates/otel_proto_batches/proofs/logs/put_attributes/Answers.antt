use Rattle.std.proofs.Common.{◌≡◌, ◌++◌, ap, ◌∙◌}
use Rattle.otel_base.specs.View.{pairs_view}
use Rattle.otel_proto.specs.Written.{messages}
use Rattle.otel_proto.proofs.shared.Outputs.{puts_then, same_puts}
use Rattle.otel_proto_batches.specs.Logs.{attribute, attributes, target_attribute}
use Rattle.otel_proto_batches.proofs.LogFields.{messages_both}
use Rattle.otel_proto_batches.proofs.logs.put_attributes.Goals as goal

pub returns : goal.returns
returns c =
    let o = c.args.out.now in
    let r = c.put_pairs.result in
    let new = c.put_pairs.new.out in
    let held = pairs_view c.as_slice-held.result.now in
    let target = target_attribute held c.log.inside.target in
    let all = held ++ target in
    let same : all ≡ attributes c.args.log.now =
    ap (λ xs. pairs_view xs ++ target_attribute (pairs_view xs) c.log.inside.target) c.as_slice-held.ensures.value
    ∙ ap attributes c.log.view_is in
    same_puts (messages 6 attribute) r o new same
    (same_puts (λ fs. fs) r o new (messages_both 6 attribute held target)
    (puts_then r (messages 6 attribute held) (messages 6 attribute target) o new c.in_ok-put_target_unless_held.ensures c.put_pairs.ensures))
