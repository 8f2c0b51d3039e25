-- From what the clones of a context share to its model. No public contract cites this file.
use Rattle.std.specs.Prelude.{Option, Some, None}
use Rattle.std.specs.declared.rc.Rc.{Rc}
use Rattle.std.specs.declared.alloc.Global.{Global}
use Rattle.otel_context.specs.Context.{SpanPart, ContextRecord, empty_context}
use Rattle.otel_context.specs.View.{without_span}
use Rattle.otel_context.specs.declared.context.shared.ActiveSpan.{ActiveSpan}
use Rattle.otel_context.specs.declared.context.shared.Shared.{Shared}
use Rattle.otel_context.specs.declared.context.shared.Shared.TheVariants.{Nothing, Contents, Span}

-- the context of these contents, without an active span
abbrev pub contents_of : Option (Rc ContextRecord Global) → ContextRecord
contents_of None = empty_context
contents_of (Some contents) = without_span contents.value

-- the active span, from its fields
abbrev pub span_part : ActiveSpan → SpanPart
span_part span = record { context = span.context; number = span.number }

-- the context of an active span and of the contents beside it
abbrev pub with_part : ActiveSpan → ContextRecord
with_part span = record (contents_of span.contents) { span = Some (span_part span) }

-- the context of what its clones share
abbrev pub record_of : Shared → ContextRecord
record_of Nothing = empty_context
record_of (Contents contents) = without_span contents.value
record_of (Span span) = with_part span.value
