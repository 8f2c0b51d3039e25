use Rattle.std.proofs.Common.{[], ◌∷◌, ◌++◌, List, sym, ap, ◌∙◌, subst, append_assoc}
use Rattle.otel_proto.specs.Output.{Puts}
use Rattle.otel_proto.specs.Wire.{Field, fixed32}
use Rattle.otel_proto.proofs.shared.Outputs.{put_then, puts_then, same_put, same_puts}
use Rattle.otel_proto_batches.specs.Traces.{flags, context, parent, status_fields, work, records, outcome}
use Rattle.otel_proto_batches.proofs.traces.span.Goals as goal

pub returns : goal.returns
returns c =
    let o = c.args.out.now in
    let s = c.args.span.now in
    let view = c.span.view_is in
    let r = c.put_context.result in
    let new = c.put_context.new.out in
    let last = (16, fixed32 (flags s.span_context.trace_flags s.parent_span_is_remote)) ∷ [] in
    let above = parent s.parent_span_id in
    let rest = work s ++ (records s ++ outcome s) in
    subst (λ (fs : List Field). Puts r o new fs) (sym (append_assoc (context s.span_context) above rest))
    (puts_then r (context s.span_context) (above ++ rest) o new
    (put_then above rest o
    (put_then (work s) (records s ++ outcome s) o
    (put_then (records s) (outcome s) o
    (put_then (status_fields s.status) last o
    (same_put (λ n. (16, fixed32 n) ∷ []) o (c.flags.ensures ∙ ap (λ d. flags d.span_context.trace_flags d.parent_span_is_remote) view) c.in_ok-put_fixed32.ensures)
    (same_put status_fields c.put_fixed32.new.out (ap (λ d. d.status) view) c.in_ok-put_status.ensures))
    c.in_ok-put_records.ensures)
    c.in_ok-put_work.ensures)
    (same_put parent c.put_work.new.out (ap (λ d. d.parent_span_id) view) c.in_ok-put_parent.ensures))
    (same_puts context r c.put_parent.new.out new (ap (λ d. d.span_context) view) c.put_context.ensures))
