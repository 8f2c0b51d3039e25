use Rattle.std.proofs.Common.{◌≡◌, ◌∙◌, ap}
use Rattle.std.proofs.lemmas.Result.{IfOk-weaker}
use Rattle.otel_proto.specs.Output.{put, writing}
use Rattle.otel_proto.proofs.shared.Outputs.{whole_bytes}
use Rattle.otel_base.specs.View.{tree}
use Rattle.otel_proto.specs.Trees.{cut_value}
use Rattle.otel_proto.proofs.shared.Readable.{bytes_read, both}
use Rattle.otel_proto.proofs.trees.any_value_bytes.Goals as goal

pub returns : goal.returns
returns c =
    let fs = cut_value (tree c.args.value.now) in
    let o = c.tree_value-2.new.out in
    let whole : o ≡ put fs writing = c.in_ok-tree_value-2.ensures ∙ ap (put fs) c.in_ok-out.ensures in
    record {
      bytes = IfOk-weaker c.into_bytes.result _ _ (λ v h. whole_bytes fs v.items o whole h) c.into_bytes.ensures.bytes;
      reads = both c.into_bytes.result _ _ _ (λ v h short. (λ all. bytes_read fs v.items all short (whole_bytes fs v.items o whole h))) c.into_bytes.ensures.bytes c.into_bytes.ensures.short;
    }
