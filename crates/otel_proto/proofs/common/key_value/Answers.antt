use Rattle.std.proofs.Common.{◌≡◌, OnOk, [], ◌∷◌, List, ℕ, ap, ◌∙◌, subst}
use Rattle.otel_base.specs.View.{attribute_of}
use Rattle.otel_proto.specs.Common.{any_value}
use Rattle.otel_proto.specs.Output.{Output, put, put_head}
use Rattle.otel_proto.specs.Written.{message, bytes_unless_empty}
use Rattle.otel_proto.proofs.shared.Outputs.{put_message, put_both}
use Rattle.otel_proto.proofs.common.key_value.Goals as goal

pub returns : goal.returns
returns c =
    let a = attribute_of c.args.attribute.now in
    let end = c.count-end.result in
    let o = c.args.out.now in
    let value : c.put_head.new.out ≡ put (message 2 (any_value a.1) ∷ []) o =
    c.in_ok-put_head.ensures ∙ ap (put_head 2 end) c.in_ok-any_value.ensures
    ∙ put_message 2 end (any_value a.1) o c.count-end.ensures in
    let key : c.as_bytes.result.now ≡ a.0 = c.as_bytes.ensures.value ∙ c.as_str.ensures in
    subst (λ (p : Output). OnOk c.put_bytes_unless_empty.result (c.put_bytes_unless_empty.new.out ≡ p))
    (ap (λ (s : List ℕ). put (bytes_unless_empty 1 s) c.put_head.new.out) key
    ∙ ap (put (bytes_unless_empty 1 a.0)) value
    ∙ put_both (bytes_unless_empty 1 a.0) (message 2 (any_value a.1) ∷ []) o)
    c.put_bytes_unless_empty.ensures
