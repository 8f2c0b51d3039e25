-- A copy of a context that shares no memory with it.
use Rattle.std.specs.Prelude.{◌≡◌, Option, Some}
use Rattle.otel_context.specs.Context.{ContextRecord, empty_context, span_context}
use Rattle.otel_context.specs.Context.{with_baggage, with_remote_span_context}
use Rattle.otel_propagators.specs.BaggagePropagator.{members}
use Rattle.otel_c.specs.declared.object.Object.{Object}
use Rattle.otel_c.specs.Object.{context_of}

-- a context with only the span and the members of this one, which is all that a context has in C
abbrev pub only_these : ContextRecord → ContextRecord
only_these context =
    with_baggage (with_remote_span_context empty_context (span_context context)) (members context)

-- the new object holds a context with the span and the members of the other object's context
pub record CopiesApart (object new : Option Object) : Type 0 where
  pub context : ContextRecord
  pub from : context_of object ≡ Some context
  pub into : context_of new ≡ Some (only_these context)
