use Rattle.std.proofs.Common.{◌≡◌, [], ◌∷◌, ◌++◌, map, rules}
use Rattle.otel_base.specs.View.{attribute_of}
use Rattle.opentelemetry.specs.View.{link_of}
use Rattle.otel_proto.specs.Common.{attributes}
use Rattle.otel_proto.specs.Wire.{fixed32}
use Rattle.otel_proto.specs.Written.{number_unless_zero}
use Rattle.otel_proto.proofs.shared.Outputs.{put_then, puts_then, same_put}
use Rattle.otel_proto_batches.specs.Traces.{flags, context}
use Rattle.otel_proto_batches.proofs.traces.link.Goals as goal

pub returns : goal.returns
returns c =
    let o = c.args.out.now in
    let l = link_of c.args.link.now in
    let x = l.span_context in
    let bits : c.flags.result ≡ flags x.trace_flags x.is_remote = search rules in
    let last = (6, fixed32 (flags x.trace_flags x.is_remote)) ∷ [] in
    let dropped = number_unless_zero 5 l.dropped_attributes_count in
    let given = attributes 4 l.attributes in
    puts_then c.put_context.result (context x) (given ++ (dropped ++ last)) o c.put_context.new.out
    (put_then given (dropped ++ last) o
    (put_then dropped last o (same_put (λ n. (6, fixed32 n) ∷ []) o bits c.in_ok-put_fixed32.ensures) c.in_ok-put_number_unless_zero.ensures)
    (same_put (λ xs. attributes 4 (map attribute_of xs)) c.put_number_unless_zero.new.out c.as_slice.ensures.value c.in_ok-put_attributes.ensures))
    c.put_context.ensures
