-- The context extracted from headers into which both propagators injected.
use Rattle.std.proofs.Common.{◌≡◌, ap, ◌∙◌, inl, Result, Ok, Err}
use Rattle.std.specs.Prelude.{IfOk}
use Rattle.otel_context.specs.Context.{ContextRecord, empty_context}
use Rattle.opentelemetry.specs.Carrier.{TextMap, Sets}
use Rattle.opentelemetry.specs.declared.propagation.error.PropagationError.{PropagationError}
use Rattle.otel_propagators.specs.BaggagePropagator.{baggage_pairs, baggage_extracted}
use Rattle.otel_propagators.specs.TraceContext.{trace_pairs, trace_extracted}
use Rattle.otel_propagators.specs.Laws.{IsContext, ComesBack, ComesBackInTurn}

pub back_from : ComesBackInTurn → (context first given : ContextRecord) (back : Result ContextRecord PropagationError) (old between new read : TextMap)
    → IsContext context → Sets old (trace_pairs context) between → Sets between (baggage_pairs context) new → read ≡ new
    → first ≡ empty_context → given ≡ trace_extracted first read → IfOk back (λ b. b ≡ baggage_extracted given read) → IfOk back (λ b. ComesBack context old empty_context b)
back_from law context first given (Ok b) old between new read i s t same e f g =
    law context empty_context b old new i (record { between = between; sets = inl (s, t) })
    (inl (g ∙ ap (λ (x : TextMap). baggage_extracted given x) same
    ∙ ap (λ (x : ContextRecord). baggage_extracted x new) (f ∙ ap (λ (x : TextMap). trace_extracted first x) same ∙ ap (λ (x : ContextRecord). trace_extracted x new) e)))
back_from law context first given (Err e) old between new read i s t same f g h = tt
