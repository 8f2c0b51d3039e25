use Rattle.std.proofs.Common.{◌≡◌, [], ◌∷◌, codes, ◌∙◌, ap}
use Rattle.otel_proto.specs.Common.{pair, text_value}
use Rattle.otel_proto.specs.Output.{put, put_head}
use Rattle.otel_proto.specs.Wire.{bytes}
use Rattle.otel_proto.specs.Written.{message}
use Rattle.otel_proto.proofs.shared.Outputs.{put_then, put_message, puts_message, same_put}
use Rattle.otel_proto_batches.proofs.logs.put_target.Goals as goal

pub returns : goal.returns
returns c =
    let o = c.args.out.now in
    let value = text_value c.args.target.now in
    let key = (1, bytes (codes "log.target")) ∷ [] in
    let given : c.put_bytes.new.out ≡ put value o =
    same_put (λ s. (1, bytes s) ∷ []) o c.as_bytes.ensures.value c.in_ok-put_bytes.ensures in
    let inside : c.put_head.new.out ≡ put (message 2 value ∷ []) o =
    c.in_ok-put_head.ensures ∙ ap (put_head 2 c.count-end.result) given ∙ put_message 2 c.count-end.result value o c.count-end.ensures in
    puts_message c.put_head-2.result 6 c.count-end.result (pair (codes "log.target") value) o c.put_head-2.new.out c.count-end.ensures
    (put_then key (message 2 value ∷ []) o inside c.in_ok-put_bytes-2.ensures)
    c.put_head-2.ensures
