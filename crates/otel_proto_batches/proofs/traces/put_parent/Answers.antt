use Rattle.std.proofs.Common.{[], ◌∷◌, Bool, if◌then◌else◌, sym, ap, ◌∙◌}
use Rattle.otel_proto.specs.Output.{put}
use Rattle.otel_proto.proofs.shared.Outputs.{put_none}
use Rattle.otel_proto_batches.specs.Common.{span_id}
use Rattle.otel_proto_batches.proofs.traces.put_parent.Goals as goal

pub returns-then-eq : goal.returns-then-eq
returns-then-eq c =
    let o = c.args.out.now in
    sym (put_none o)
    ∙ ap (λ (b : Bool). put (if b then [] else span_id 4 c.args.id ∷ []) o) (sym c.if-eq.true ∙ c.eq.ensures.value)
