use Rattle.std.proofs.Common.{Option, sym, ap, ◌∙◌}
use Rattle.otel_proto.specs.Output.{put}
use Rattle.otel_proto.proofs.shared.Outputs.{put_none}
use Rattle.otel_sdk_logs.specs.declared.record.TraceContext.{TraceContext}
use Rattle.otel_proto_batches.specs.Logs.{trace}
use Rattle.otel_proto_batches.proofs.logs.put_trace.Goals as goal

pub returns-in-None : goal.returns-in-None
returns-in-None c =
    let o = c.args.out.now in
    sym (put_none o) ∙ ap (λ (t : Option TraceContext). put (trace t) o) (sym c.in-None.is)
