-- The two texts of a span context, set one after the other, and the state read from a text.
use Rattle.std.proofs.Common.{◌≡◌, ℕ, ◌+◌, true, false, List, [], ◌∷◌, refl, sym, ap, subst, ◌∙◌, arith, Result, Ok, Err, Some, inr, if◌then◌else◌, true≢false}
use Rattle.std.specs.Prelude.{OnOk, OnErr}
use Rattle.std.specs.Option.{option_map_or}
use Rattle.std.proofs.lemmas.Bool.Decides.{nat_tests}
use Rattle.otel_ids.specs.TraceState.{Pair, header}
use Rattle.otel_ids.specs.Reading.{Reads}
use Rattle.otel_ids.specs.SpanContext.{SpanContextRecord, IsValidSpanContext}
use Rattle.otel_ids.proofs.shared.Header.{reading_agrees}
use Rattle.opentelemetry.specs.declared.propagation.error.PropagationError.{PropagationError}
use Rattle.opentelemetry.specs.declared.propagation.error.PropagationError.TheVariants.{Memory, Refused}
use Rattle.opentelemetry.specs.Carrier.{CarrierState, Sets}
use Rattle.opentelemetry.specs.Injection.{Injects}
use Rattle.opentelemetry.specs.Refusal.{is_refused}
use Rattle.opentelemetry.proofs.shared.Setting.{sets_more}
use Rattle.otel_propagators.specs.TraceParent.{parent_text}
use Rattle.otel_propagators.specs.TraceContext.{traceparent_key, tracestate_key, parent, is_valid, span_context_pairs, state_of}

two_sets : {T : Type 0} (r : Result T PropagationError) (a b c : CarrierState) (p q : List ℕ × List ℕ) →
    Sets a.texts (p ∷ []) b.texts → b.refusals ≡ a.refusals + 0 →
    OnOk r (Sets b.texts (q ∷ []) c.texts) → OnErr r (c.texts ≡ b.texts) → c.refusals ≡ b.refusals + (if is_refused r then 1 else 0) →
    Injects (p ∷ q ∷ []) false a c r
two_sets (Ok x) a b c p q s n t e m = record {
  ok = sets_more a.texts b.texts c.texts (p ∷ []) (q ∷ []) s t;
  err = tt;
  refused = λ does. absurd (true≢false (sym does));
  count = omega arith;
}
two_sets (Err (Memory e)) a b c p q s n t same m = record {
  ok = tt;
  err = record { done = p ∷ []; left = q ∷ []; split = refl; sets = subst (λ x. Sets a.texts (p ∷ []) x) (sym same) s };
  refused = λ does. absurd (true≢false (sym does));
  count = omega arith;
}
two_sets (Err Refused) a b c p q s n t same m = record {
  ok = tt;
  err = record { done = p ∷ []; left = q ∷ []; split = refl; sets = subst (λ x. Sets a.texts (p ∷ []) x) (sym same) s };
  refused = λ does. inr (omega arith);
  count = omega arith;
}

pub valid_passes : (s : SpanContextRecord) → IsValidSpanContext s → is_valid s ≡ true
valid_passes s v = let a = v.0 in let b = v.1 in grind (arith, nat_tests)

pairs_are : (s : SpanContextRecord) (tp ts : List ℕ) → IsValidSpanContext s → tp ≡ parent_text (parent s) → ts ≡ header s.trace_state → (traceparent_key, tp) ∷ (tracestate_key, ts) ∷ [] ≡ span_context_pairs s
pairs_are s tp ts v e f =
    let t = valid_passes s v in
    rw t (ap (λ (x : List ℕ). (traceparent_key, x) ∷ (tracestate_key, ts) ∷ []) e
    ∙ ap (λ (x : List ℕ). (traceparent_key, parent_text (parent s)) ∷ (tracestate_key, x) ∷ []) f)

pub injects_parent : {T : Type 0} (r : Result T PropagationError) (a b c : CarrierState) (s s' : SpanContextRecord) (tp ts : List ℕ) →
    s ≡ s' → IsValidSpanContext s → tp ≡ parent_text (parent s) → ts ≡ header s.trace_state →
    Sets a.texts ((traceparent_key, tp) ∷ []) b.texts → b.refusals ≡ a.refusals + 0 →
    OnOk r (Sets b.texts ((tracestate_key, ts) ∷ []) c.texts) → OnErr r (c.texts ≡ b.texts) → c.refusals ≡ b.refusals + (if is_refused r then 1 else 0) →
    Injects (span_context_pairs s') false a c r
injects_parent r a b c s s' tp ts same v e f x n y z m =
    subst (λ ps. Injects ps false a c r) (pairs_are s tp ts v e f ∙ ap span_context_pairs same) (two_sets r a b c (traceparent_key, tp) (tracestate_key, ts) x n y z m)

-- ---- the state read from a text

pub state_read : (text : List ℕ) (pairs : List Pair) → Reads text pairs → pairs ≡ state_of (Some text)
state_read text pairs h = ap (λ r. option_map_or (λ x. x) r []) (sym ((reading_agrees text pairs).0 h))
