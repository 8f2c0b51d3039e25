use Rattle.std.proofs.Common.{[], ◌∷◌, ◌++◌, ap, ◌∙◌}
use Rattle.otel_proto.specs.Wire.{varint}
use Rattle.otel_proto.specs.Written.{bytes_unless_empty, fixed64_unless_zero}
use Rattle.otel_proto.proofs.shared.Outputs.{put_then, puts_then, same_put, same_puts}
use Rattle.otel_proto_batches.specs.Traces.{kind_number}
use Rattle.otel_proto_batches.proofs.traces.put_work.Goals as goal

pub returns : goal.returns
returns c =
    let o = c.args.out.now in
    let s = c.args.span.now in
    let view = c.span.view_is in
    let end = fixed64_unless_zero 8 s.end_time in
    let start = fixed64_unless_zero 7 s.start_time in
    let side = (6, varint (kind_number s.span_kind)) ∷ [] in
    puts_then c.put_text_unless_empty.result (bytes_unless_empty 5 s.name) (side ++ (start ++ end)) o c.put_text_unless_empty.new.out
    (put_then side (start ++ end) o
    (put_then start end o
    (same_put (fixed64_unless_zero 8) o (ap (λ d. d.end_time) view) c.in_ok-put_fixed64_unless_zero.ensures)
    (same_put (fixed64_unless_zero 7) c.put_fixed64_unless_zero.new.out (ap (λ d. d.start_time) view) c.in_ok-put_fixed64_unless_zero-2.ensures))
    (same_put (λ n. (6, varint n) ∷ []) c.put_fixed64_unless_zero-2.new.out (c.kind_number.ensures ∙ ap (λ d. kind_number d.span_kind) view) c.in_ok-put_number.ensures))
    (same_puts (bytes_unless_empty 5) c.put_text_unless_empty.result c.put_number.new.out c.put_text_unless_empty.new.out (c.as_str.ensures ∙ ap (λ d. d.name) view) c.put_text_unless_empty.ensures)
