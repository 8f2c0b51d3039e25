-- The pairs that composites set.
use Rattle.std.proofs.Common.{◌≡◌, ◌≢◌, ℕ, List, [], ◌∷◌, ◌++◌, Bool, true, false, cond, Option, Some, None, Result, Ok, Err, refl, sym, ap, subst, ◌∙◌, codes}
use Rattle.std.specs.Prelude.{IfOk, OnOk}
use Rattle.std.specs.List.{flat_map}
use Rattle.std.specs.Option.{option_or, option_map_or}
use Rattle.std.specs.Str.{bytes_eq}
use Rattle.std.proofs.lemmas.Result.{IfOk-weaker, on_ok_weaker}
use Rattle.std.proofs.lemmas.Slice.Eq.{bytes_eq-Decides}
use Rattle.otel_context.specs.BaggageHeader.{header}
use Rattle.otel_ids.specs.TraceState.{header as state_header}
use Rattle.otel_context.specs.Context.{ContextRecord, span_context}
use Rattle.opentelemetry.specs.Carrier.{CarrierState, Pairs, TextMap, Sets, at, last_value}
use Rattle.opentelemetry.specs.Injection.{Injects}
use Rattle.opentelemetry.specs.declared.propagation.error.PropagationError.{PropagationError}
use Rattle.otel_propagators.specs.BaggagePropagator.{baggage_key, members, baggage_pairs}
use Rattle.otel_propagators.specs.TraceContext.{traceparent_key, tracestate_key, parent, is_valid, trace_pairs}
use Rattle.otel_propagators.specs.TraceParent.{parent_text}
use Rattle.otel_examples.specs.Composite.{IsIdSent, IsSent}
use Rattle.otel_examples.specs.RequestId as request

-- the text isn't another one
differs : (x y : List ℕ) → y ≢ x → bytes_eq x y ≡ false
differs x y h = elim (bytes_eq x y) as (λ b. bytes_eq x y ≡ b → b ≡ false) [
  | true ↦ λ is. absurd (h (sym ((bytes_eq-Decides x y).0 is)))
  | false ↦ λ is. refl
] refl

module _ (context : ContextRecord) (old new : TextMap) where
  sent_by : (id : Option (List ℕ)) → id ≡ request.id_of context
      → Sets old (option_map_or (λ i. (codes "x-request-id", i) ∷ []) id [] ++ baggage_pairs context) new → IsSent context old new
  sent_by None is sets = record {
    request_id = sets.at_key (codes "x-request-id") ∙ ap (λ o. option_or o (at old (codes "x-request-id"))) is;
    baggage = sets.at_key (codes "baggage");
    others = λ key h b. sets.at_key key
        ∙ ap (λ x. option_or (cond x (Some (header (members context))) None) (at old key)) (differs (codes "baggage") key b);
  }
  sent_by (Some id) is sets = record {
    request_id = sets.at_key (codes "x-request-id") ∙ ap (λ o. option_or o (at old (codes "x-request-id"))) is;
    baggage = sets.at_key (codes "baggage");
    others = λ key h b. sets.at_key key
        ∙ ap (λ x. option_or (option_or (cond x (Some (header (members context))) None) (cond (bytes_eq (codes "x-request-id") key) (Some id) None)) (at old key)) (differs (codes "baggage") key b)
        ∙ ap (λ x. option_or (cond x (Some id) None) (at old key)) (differs (codes "x-request-id") key h);
  }

  pub is_sent : {M : Type 0} (pairs : M → Pairs) (ms : List M) (a b : M) → ms ≡ a ∷ b ∷ []
      → pairs a ≡ request.pairs context → pairs b ≡ baggage_pairs context
      → Sets old (flat_map pairs ms) new → IsSent context old new
  is_sent pairs ms a b are first second sets = sent_by (request.id_of context) refl
      (subst (λ (ps : Pairs). Sets old ps new)
      (ap (flat_map pairs) are ∙ ap (λ (ps : Pairs). ps ++ (pairs b ++ [])) first ∙ ap (λ (ps : Pairs). request.pairs context ++ (ps ++ [])) second)
      sets)

-- the pairs of the W3C headers have other keys than a request's id
last_id : (valid : Bool) (id : Option (List ℕ)) (traceparent tracestate baggage : List ℕ)
    → last_value (option_map_or (λ i. (codes "x-request-id", i) ∷ []) id []
    ++ (cond valid ((traceparent_key, traceparent) ∷ (tracestate_key, tracestate) ∷ []) [] ++ ((baggage_key, baggage) ∷ []))) (codes "x-request-id") ≡ id
last_id true None p s b = refl
last_id true (Some id) p s b = refl
last_id false None p s b = refl
last_id false (Some id) p s b = refl

-- the value that a composite of the request's id and both W3C headers sets at the id's key
pub id_is_sent : {M : Type 0} (pairs : M → Pairs) (context : ContextRecord) (old new : TextMap) (ms : List M) (a b c : M) → ms ≡ a ∷ b ∷ c ∷ []
    → pairs a ≡ request.pairs context → pairs b ≡ trace_pairs context → pairs c ≡ baggage_pairs context → Sets old (flat_map pairs ms) new → IsIdSent context old new
id_is_sent pairs context old new ms a b c are first second third sets =
    sets.at_key (codes "x-request-id")
    ∙ ap (λ (ps : Pairs). option_or (last_value ps (codes "x-request-id")) (at old (codes "x-request-id")))
    (ap (flat_map pairs) are ∙ ap (λ (ps : Pairs). ps ++ (pairs b ++ (pairs c ++ []))) first ∙ ap (λ (ps : Pairs). request.pairs context ++ (ps ++ (pairs c ++ []))) second
    ∙ ap (λ (ps : Pairs). request.pairs context ++ (trace_pairs context ++ (ps ++ []))) third)
    ∙ ap (λ o. option_or o (at old (codes "x-request-id")))
    (last_id (is_valid (span_context context)) (request.id_of context) (parent_text (parent (span_context context))) (state_header (span_context context).trace_state) (header (members context)))

-- the headers after an injection with two members, whose pairs for a report `r` are `pairs r`
pub run_sends : {M R T E : Type 0} (pairs : R → M → Pairs) (may : Bool) (ms : List M) (a b : M)
    (result : Result R E) (context_of : R → ContextRecord) (injected : R → Result T PropagationError) (old new : CarrierState)
    → IfOk result (λ r. Injects (flat_map (pairs r) ms) may old new (injected r))
    → ms ≡ a ∷ b ∷ [] → ((r : R) → pairs r a ≡ request.pairs (context_of r)) → ((r : R) → pairs r b ≡ baggage_pairs (context_of r))
    → IfOk result (λ r. OnOk (injected r) (IsSent (context_of r) old.texts new.texts))
run_sends pairs may ms a b result context_of injected old new does are first second =
    IfOk-weaker result _ _ (λ r injects.
    on_ok_weaker (injected r) (is_sent (context_of r) old.texts new.texts (pairs r) ms a b are (first r) (second r)) injects.ok) does

-- if a fact holds for all results, it holds for a success
pub on_each : {T E P : Type 0} (r : Result T E) → P → OnOk r P
on_each (Ok t) h = h
on_each (Err e) h = tt
