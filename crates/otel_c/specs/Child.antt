-- Beginning a span below the span of a context.
use Rattle.std.specs.Prelude.{◌≡◌, ◌⊎◌, true, false, [], Option, Some, if◌then◌else◌}
use Rattle.std.specs.Int.{w64, w128, from_be_bytes}
use Rattle.otel_ids.specs.SpanContext.{SpanContextRecord}
use Rattle.otel_context.specs.Context.{ContextRecord, span_context, with_remote_span_context}
use Rattle.otel_propagators.specs.TraceContext.{is_valid}
use Rattle.otel_c.specs.declared.object.Object.{Object}
use Rattle.otel_c.specs.declared.span.SpanParts.{SpanParts}
use Rattle.otel_c.specs.declared.status.Status.{Status}
use Rattle.otel_c.specs.declared.status.Status.TheVariants as status
use Rattle.otel_c.specs.Object.{context_of}
use Rattle.otel_c.specs.Context.{CopyRefused}

-- the first span of a trace, with the given ids and flags and no trace state
abbrev pub root_of : SpanParts → SpanContextRecord
root_of given = record {
  trace_id = from_be_bytes w128 given.trace_id;
  span_id = from_be_bytes w64 given.span_id;
  trace_flags = given.flags;
  is_remote = false;
  trace_state = [];
}

-- the span with the given id in the trace of the parent, if that is valid, or else a root
abbrev pub child_of : SpanParts → SpanContextRecord → SpanContextRecord
child_of given parent =
    if is_valid parent
    then record parent { span_id = from_be_bytes w64 given.span_id; is_remote = false }
    else root_of given

-- the span that begins in the context
abbrev pub begun : SpanParts → ContextRecord → SpanContextRecord
begun given context = child_of given (span_context context)

-- the new object holds the context with the child of its span, neither of whose ids is 0
pub record StartsChild (given : SpanParts) (object new : Option Object) : Type 0 where
  pub context : ContextRecord
  pub from : context_of object ≡ Some context
  pub valid : is_valid (begun given context) ≡ true
  pub into : context_of new ≡ Some (with_remote_span_context context (begun given context))

-- the status says that an id of the child would be 0, and it would
pub record HasNoId (given : SpanParts) (object : Option Object) (s : Status) : Type 0 where
  pub context : ContextRecord
  pub from : context_of object ≡ Some context
  pub status : s ≡ status.Invalid
  pub is : is_valid (begun given context) ≡ false

-- why no child was started
abbrev pub StartRefused : SpanParts → Option Object → Status → Type 0
StartRefused given object s = CopyRefused object s ⊎ HasNoId given object s
