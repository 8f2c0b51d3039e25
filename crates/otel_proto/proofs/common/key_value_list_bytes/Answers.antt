use Rattle.std.proofs.Common.{◌≡◌, ◌∙◌, ap}
use Rattle.std.proofs.lemmas.Result.{IfOk-weaker}
use Rattle.otel_proto.specs.Output.{put, writing}
use Rattle.otel_proto.proofs.shared.Outputs.{whole_bytes}
use Rattle.std.proofs.Common.{map, refl}
use Rattle.otel_base.specs.View.{attribute_of}
use Rattle.otel_proto.specs.Common.{key_value, key_value_list}
use Rattle.otel_proto.proofs.shared.Readable.{messages_are_fields, bytes_read, both}
use Rattle.otel_proto.proofs.common.key_value_list_bytes.Goals as goal

pub returns : goal.returns
returns c =
    let fs = key_value_list (map attribute_of c.args.attributes.now) in
    let o = c.put_attributes-2.new.out in
    let whole : o ≡ put fs writing = c.in_ok-put_attributes-2.ensures ∙ ap (put fs) c.in_ok-out.ensures in
    record {
      bytes = IfOk-weaker c.into_bytes.result _ _ (λ v h. whole_bytes fs v.items o whole h) c.into_bytes.ensures.bytes;
      reads = both c.into_bytes.result _ _ _ (λ v h short. bytes_read fs v.items (messages_are_fields 1 key_value (map attribute_of c.args.attributes.now) refl) short (whole_bytes fs v.items o whole h)) c.into_bytes.ensures.bytes c.into_bytes.ensures.short;
    }
