-- The context that is extracted from a map into which both propagators injected.
use Rattle.std.proofs.Common.{◌≡◌, ap, sym, ◌∙◌, ◌++◌, [], append_assoc, inl, Result, Ok, Err}
use Rattle.std.specs.Prelude.{IfOk, OnErr}
use Rattle.std.proofs.lemmas.List.{append-nil}
use Rattle.otel_context.specs.Context.{ContextRecord, empty_context}
use Rattle.opentelemetry.specs.Carrier.{Pairs, TextMap, Sets, SetsBeginning}
use Rattle.opentelemetry.specs.declared.propagation.error.PropagationError.{PropagationError}
use Rattle.opentelemetry.proofs.shared.Setting.{sets_more}
use Rattle.otel_propagators.specs.BaggagePropagator.{baggage_pairs, baggage_extracted}
use Rattle.otel_propagators.specs.TraceContext.{trace_pairs, trace_extracted}
use Rattle.otel_propagators.specs.Laws.{IsContext, ComesBack, ComesBackInTurn}

pub back_from : ComesBackInTurn → (context first given : ContextRecord) (back : Result ContextRecord PropagationError) (old between new : TextMap)
    → IsContext context → Sets old (trace_pairs context) between → Sets between (baggage_pairs context) new
    → first ≡ empty_context → given ≡ trace_extracted first new → IfOk back (λ b. b ≡ baggage_extracted given new) → IfOk back (λ b. ComesBack context old empty_context b)
back_from law context first given (Ok b) old between new i s t e f g =
    law context empty_context b old new i (record { between = between; sets = inl (s, t) })
    (inl (g ∙ ap (λ (x : ContextRecord). baggage_extracted x new) (f ∙ ap (λ (x : ContextRecord). trace_extracted x new) e)))
back_from law context first given (Err e) old between new i s t f g h = tt

-- if a fact holds for all results, it holds for an error
pub begun : {T P : Type 0} (r : Result T PropagationError) → P → OnErr r P
begun (Ok t) h = tt
begun (Err e) h = h

-- all pairs are a prefix of themselves
pub all_begun : (a b : TextMap) (ps : Pairs) → Sets a ps b → SetsBeginning a ps b
all_begun a b ps s = record { done = ps; left = []; split = sym (append-nil ps); sets = s }

-- the first pairs and a prefix of those after them are a prefix of both
pub begun_second : (a b c : TextMap) (ps qs : Pairs) → Sets a ps b → SetsBeginning b qs c → SetsBeginning a (ps ++ qs) c
begun_second a b c ps qs s t = record {
  done = ps ++ t.done;
  left = t.left;
  split = ap (λ r. ps ++ r) t.split ∙ sym (append_assoc ps t.done t.left);
  sets = sets_more a b c ps t.done s t.sets;
}
