use Rattle.std.proofs.Common.{ℕ, Option, sym, ap, ◌∙◌}
use Rattle.otel_proto.specs.Output.{put}
use Rattle.otel_proto.proofs.shared.Outputs.{put_none}
use Rattle.otel_proto_batches.specs.Logs.{time_if_given}
use Rattle.otel_proto_batches.proofs.logs.put_time.Goals as goal

pub returns-in-None : goal.returns-in-None
returns-in-None c =
    let o = c.args.out.now in
    sym (put_none o) ∙ ap (λ (t : Option ℕ). put (time_if_given c.args.number t) o) (sym c.in-None.is)
