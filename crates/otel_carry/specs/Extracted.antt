-- The output for an extraction. Not in the Rust crate.
use Rattle.std.specs.Prelude.{ℕ, List, ◌++◌, Result, Ok, Err, codes}
use Rattle.std.specs.Option.{option_map_or}
use Rattle.otel_ids.specs.Ids.{id_text}
use Rattle.otel_context.specs.Context.{ContextRecord}
use Rattle.opentelemetry.specs.declared.propagation.error.PropagationError.{PropagationError}
use Rattle.opentelemetry.specs.declared.propagation.error.PropagationError.TheVariants as errors
use Rattle.otel_carry.specs.declared.extraction.Extracted.{Extracted}
use Rattle.otel_carry.specs.declared.extraction.Extracted.TheVariants.{Span, NoSpan, Refused}
use Rattle.otel_carry.specs.declared.extraction.Extracted.TheVariants.{NoMemory}

-- for a context: the ids of its active span, if it has one
abbrev pub shown_of_context : ContextRecord → Extracted
shown_of_context context =
    option_map_or (λ span. Span span.context.trace_id span.context.span_id) context.span NoSpan

-- for the result of an extraction: the output for the context, or the reason why there is none
abbrev pub shown : Result ContextRecord PropagationError → Extracted
shown (Ok context) = shown_of_context context
shown (Err errors.Refused) = Refused
shown (Err (errors.Memory error)) = NoMemory

-- the text that is written
abbrev pub text_of : Extracted → List ℕ
text_of (Span trace_id span_id) = id_text 32 trace_id ++ codes " " ++ id_text 16 span_id
text_of NoSpan = codes "none"
text_of Refused = codes "refused"
text_of NoMemory = codes "no memory"

-- the exit status of the program: 0 if there is a context, otherwise 1
abbrev pub status_of : Extracted → ℕ
status_of (Span trace_id span_id) = 0
status_of NoSpan = 0
status_of Refused = 1
status_of NoMemory = 1
