-- The texts of three values, by their names.
use Rattle.std.proofs.Common.{◌≡◌, ◌∙◌, ℕ, List, [], ◌∷◌, true, false, cond, None, Some}
use Rattle.std.proofs.Common.{Option, Result, Ok, Err, IfOk, OnOk, refl, sym, ap, is_some, ◌||◌}
use Rattle.std.proofs.Common.{length, subst, inr}
use Rattle.std.specs.FinMap as fin
use Rattle.std.specs.Cmp.Lexicographic.{nat_list_cmp_total, texts_ties}
use Rattle.std.specs.List.{list_any}
use Rattle.std.specs.List.Sorted.{IsStrictlySortedBy}
use Rattle.std.specs.Str.{bytes_eq}
use Rattle.http_header.specs.FieldValue.{is_visible_text}
use Rattle.otel_context.specs.Context.{ContextRecord, empty_context}
use Rattle.opentelemetry.specs.Carrier.{at, AreKeys}
use Rattle.otel_propagators.specs.BaggagePropagator.{baggage_key}
use Rattle.otel_propagators.specs.TraceContext.{traceparent_key, tracestate_key, trace_extracted}
use Rattle.otel_c.specs.declared.object.Object.{Object}
use Rattle.otel_c.specs.declared.status.Status.{Status}
use Rattle.otel_c.specs.Context.{extracted}
use Rattle.otel_c.specs.Object.{context_of}
use Rattle.otel_c.specs.Room.{IsLong}
use Rattle.otel_c.specs.Span.{state_header}
use Rattle.otel_c.specs.Status.{HasNoRoom}
use Rattle.otel_c.specs.Values.{texts_of, ReadsAs, Reads, ReadsSpan, WriteSpanRefused}

pub at_name : (b p s q : List ℕ) → at (texts_of b p s) q
    ≡ cond (bytes_eq q baggage_key) (Some b)
    (cond (bytes_eq q traceparent_key) (Some p) (cond (bytes_eq q tracestate_key) (Some s) None))
at_name b p s q = fin.get-from_entries nat_list_cmp_total
    ((baggage_key, b) ∷ (traceparent_key, p) ∷ (tracestate_key, s) ∷ []) q
    ∙ rw (← texts_ties q baggage_key, ← texts_ties q traceparent_key, ← texts_ties q tracestate_key)
    refl

module _ (b p s q : List ℕ) where
  pub at_baggage : bytes_eq q baggage_key ≡ true → Some b ≡ at (texts_of b p s) q
  at_baggage here = sym (at_name b p s q ∙ rw here refl)

  pub at_parent : bytes_eq q baggage_key ≡ false → bytes_eq q traceparent_key ≡ true
      → Some p ≡ at (texts_of b p s) q
  at_parent first here = sym (at_name b p s q ∙ rw (first, here) refl)

  pub at_state : bytes_eq q baggage_key ≡ false → bytes_eq q traceparent_key ≡ false
      → bytes_eq q tracestate_key ≡ true → Some s ≡ at (texts_of b p s) q
  at_state first second here = sym (at_name b p s q ∙ rw (first, second, here) refl)

  pub at_none : bytes_eq q baggage_key ≡ false → bytes_eq q traceparent_key ≡ false
      → bytes_eq q tracestate_key ≡ false → None ≡ at (texts_of b p s) q
  at_none first second third = sym (at_name b p s q ∙ rw (first, second, third) refl)

pub are_keys : (b p s : List ℕ) → AreKeys (texts_of b p s)
    (baggage_key ∷ traceparent_key ∷ tracestate_key ∷ [])
unfolding IsStrictlySortedBy
are_keys b p s = record {
  rising = ((refl, (refl, tt)), ((refl, tt), (tt, tt)));
  each = λ q.
      ap is_some (at_name b p s q)
      ∙ elim (bytes_eq q baggage_key) as (λ x. is_some (cond x (Some b) (cond (bytes_eq q traceparent_key) (Some p) (cond (bytes_eq q tracestate_key) (Some s) None))) ≡ (x || list_any (bytes_eq q) (traceparent_key ∷ tracestate_key ∷ []))) [
        | true ↦ refl
        | false ↦ elim (bytes_eq q traceparent_key) as (λ x. is_some (cond x (Some p) (cond (bytes_eq q tracestate_key) (Some s) None)) ≡ (x || list_any (bytes_eq q) (tracestate_key ∷ []))) [
          | true ↦ refl
          | false ↦ elim (bytes_eq q tracestate_key) as (λ x. is_some (cond x (Some s) None) ≡ (x || false)) [
            | true ↦ refl
            | false ↦ refl
          ]
        ]
      ];
}

-- ---- the parts of the call make up the whole

pub reads_as : {E : Type 0} (r : Result ContextRecord E) (t s b t' s' b' : List ℕ) → t' ≡ t
    → s' ≡ s → b' ≡ b → is_visible_text t ≡ true → is_visible_text s ≡ true
    → is_visible_text b ≡ true
    → IfOk r (λ context. context ≡ extracted empty_context (texts_of b' t' s'))
    → IfOk r (ReadsAs t s b)
reads_as (Ok c) t s b t' s' b' et es eb rt rs rb h = record {
  parent_readable = rt;
  state_readable = rs;
  baggage_readable = rb;
  is = h ∙ (λ i. extracted empty_context (texts_of (eb i) (et i) (es i)));
}
reads_as (Err e) t s b t' s' b' et es eb rt rs rb h = h

pub reads : {A : Type 0} (r : Result A Status) (t s b : List ℕ) (new : Option Object)
    (context : ContextRecord) → ReadsAs t s b context → OnOk r (context_of new ≡ Some context)
    → OnOk r (Reads t s b new)
reads (Ok v) t s b new context given into =
    record { context = context; given = given; into = into }
reads (Err e) t s b new context given h = h

pub reads_span : {E : Type 0} (r : Result ContextRecord E) (t s t' s' : List ℕ) → t' ≡ t → s' ≡ s
    → is_visible_text t ≡ true → is_visible_text s ≡ true
    → IfOk r (λ context. context ≡ trace_extracted empty_context (texts_of [] t' s'))
    → IfOk r (ReadsSpan t s)
reads_span (Ok c) t s t' s' et es rt rs h = record {
  parent_readable = rt;
  state_readable = rs;
  is = h ∙ (λ i. trace_extracted empty_context (texts_of [] (et i) (es i)));
}
reads_span (Err e) t s t' s' et es rt rs h = h

pub span_long : (t s : List ℕ) (context : ContextRecord) → ReadsSpan t s context
    → (text old : List ℕ) (written : ℕ) (status : Status) → text ≡ state_header context
    → written ≡ length text → HasNoRoom text old status → WriteSpanRefused t s old written status
span_long t s context given text old written status same needed short = inr (record {
  context = context;
  given = given;
  long = subst (λ (x : List ℕ). IsLong x old written status) same
      (record { short = short; length = needed });
})
