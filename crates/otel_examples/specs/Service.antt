-- The effects of a service that forwards a request.
use Rattle.std.specs.Prelude.{◌≡◌, ℕ, codes}
use Rattle.otel_ids.specs.SpanContext.{SpanContextRecord}
use Rattle.otel_context.specs.Context.{ContextRecord, with_span}
use Rattle.otel_context.specs.Spans.{SpansState, insert}
use Rattle.otel_context.specs.Stack.{StackState, current}
use Rattle.opentelemetry.specs.Carrier.{CarrierState, Sets, TextMap}
use Rattle.opentelemetry.specs.SpanBuilder.{BuilderRecord, from_name}
use Rattle.opentelemetry.specs.declared.propagation.text_map_propagator.TextMapPropagator.{Ghosts}

module _ {P : Type 0} (format : Ghosts P) (propagator : P) (stack : StackState)
    (received : TextMap) where
  -- the current context with the values of the received headers
  abbrev pub parent : ContextRecord
  parent = format.extracted propagator (current stack.live) received

  -- a span named `forward` was started under that context and put into the table
  pub record Starts {S : Type 0} (MayBuild : BuilderRecord → ContextRecord → S → Type 0)
      (old new : SpansState S) (number : ℕ) : Type 0 where
    pub span : S
    pub built : MayBuild (from_name (codes "forward")) parent span
    pub number_is : number ≡ old.next_number
    pub table : new ≡ insert old span

  -- the headers to be sent are set for that context, with the span that was put into the table
  pub record Forwards {S : Type 0} (context_of : S → SpanContextRecord) (old new : SpansState S)
      (before after : CarrierState) (number : ℕ) : Type 0 where
    pub span : S
    pub table : new ≡ insert old span
    pub headers : Sets before.texts
        (format.pairs propagator (with_span parent (context_of span) number)) after.texts
