use Rattle.std.proofs.Common.{sym, ap, ◌∙◌}
use Rattle.otel_proto.specs.Output.{put}
use Rattle.otel_proto.proofs.shared.Outputs.{put_none}
use Rattle.otel_proto_batches.specs.Traces.{status_fields}
use Rattle.otel_proto_batches.proofs.traces.put_status.Goals as goal

pub returns-in-Unset : goal.returns-in-Unset
returns-in-Unset c =
    let o = c.args.out.now in
    sym (put_none o) ∙ ap (λ s. put (status_fields s) o) (sym c.in-Unset.is)
