use Rattle.std.proofs.Common.{◌≡◌, ◌-◌, OnOk, ap, ◌∙◌, subst}
use Rattle.otel_proto.specs.Output.{Output, put_bytes}
use Rattle.otel_proto.specs.Written.{tag}
use Rattle.otel_proto.proofs.shared.Outputs.{put_head_parts}
use Rattle.otel_proto.proofs.fields.put_head.Goals as goal

pub returns : goal.returns
returns c =
    let n = c.saturating_sub-length.result in
    subst (λ (o : Output). OnOk c.put_tag.result (c.put_tag.new.out ≡ o))
    (ap (put_bytes (tag c.args.number 2)) c.in_ok-put_varint.ensures ∙ put_head_parts c.args.number c.args.end n c.args.out.now
    (c.saturating_sub-length.ensures ∙ ap (λ k. k - c.args.end) c.count.ensures))
    c.put_tag.ensures
