use Rattle.std.proofs.Common.{◌∙◌}
use Rattle.otel_c.proofs.Parent.{text_is, text_of_parts}
use Rattle.otel_c.proofs.traceparent.parent_text.Goals as goal

pub returns : goal.returns
returns c = text_is c.format.result _ _
    (text_of_parts _ _ _ _ _ _ c.trace_id-trace_id.ensures c.span_id-span_id.ensures
    c.in_ok-flags.ensures (c.to_u8.ensures ∙ c.trace_flags.ensures))
    c.format.ensures.ok
