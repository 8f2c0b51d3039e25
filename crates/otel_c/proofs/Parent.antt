-- The `traceparent` of a context, from its parts.
use Rattle.std.proofs.Common.{◌≡◌, ◌∙◌, ℕ, ◌<◌, ◌/◌, ◌%◌, ◌^◌, List, [], ◌∷◌, ◌++◌, Bool, true, false}
use Rattle.std.proofs.Common.{Option, None, Some, Result, Ok, Err, IfOk, IfErr, OnOk, string_bytes}
use Rattle.std.proofs.Common.{refl, sym, ap, subst, inl, inr, arith}
use Rattle.std.specs.Fmt.{digit_glyph}
use Rattle.std.specs.declared.string.String.{String}
use Rattle.std.proofs.lemmas.Bool.{cond-true, cond-false}
use Rattle.otel_ids.specs.Ids.{id_text}
use Rattle.otel_ids.specs.SpanContext.{SpanContextRecord}
use Rattle.otel_context.specs.Context.{ContextRecord, span_context}
use Rattle.otel_propagators.specs.TraceContext.{is_valid, parent}
use Rattle.otel_propagators.specs.TraceParent.{parent_with, parent_text}
use Rattle.otel_c.specs.declared.object.Object.{Object}
use Rattle.otel_c.specs.declared.status.Status.{Status}
use Rattle.otel_c.specs.declared.status.Status.TheVariants as status
use Rattle.otel_c.specs.Baggage.{ShowRefused}
use Rattle.otel_c.specs.Object.{context_of}
use Rattle.otel_c.specs.Room.{HoldsFound, FoundRefused}
use Rattle.otel_c.specs.Span.{parent_header, traceparent_of, ParentRefused}

pub two_digits : (f : ℕ) → f < 256
    → digit_glyph false (f / 16) ∷ digit_glyph false (f % 16) ∷ [] ≡ id_text 2 f
unfolding id_text
two_digits f small =
    let a : f / 16 ≡ f / 16 ^ 1 % 16 = omega arith in
    let b : f % 16 ≡ f / 16 ^ 0 % 16 = omega arith in
    ap (λ (x : ℕ). digit_glyph false x ∷ digit_glyph false (f % 16) ∷ []) a
    ∙ ap (λ (x : ℕ). digit_glyph false (f / 16 ^ 1 % 16) ∷ digit_glyph false x ∷ []) b

pub text_is : {A E : Type 0} (r : Result (String A) E) (text same : List ℕ) → text ≡ same
    → IfOk r (λ t. string_bytes t ≡ text) → IfOk r (λ t. string_bytes t ≡ same)
text_is r text same e h = subst (λ (x : List ℕ). IfOk r (λ t. string_bytes t ≡ x)) e h

pub text_of_parts : (t s b f t' s' : ℕ) {flags : List ℕ} → t ≡ t' → s ≡ s' → flags ≡ id_text 2 b
    → b ≡ f → 48 ∷ 48 ∷ 45 ∷ (id_text 32 t ++ (45 ∷ (id_text 16 s ++ (45 ∷ flags))))
    ≡ parent_text (parent_with t' s' f)
unfolding parent_text
text_of_parts t s b f t' s' {flags} p q r u =
    ap (λ (x : ℕ). 48 ∷ 48 ∷ 45 ∷ (id_text 32 x ++ (45 ∷ (id_text 16 s ++ (45 ∷ flags))))) p
    ∙ ap (λ (x : ℕ). 48 ∷ 48 ∷ 45 ∷ (id_text 32 t' ++ (45 ∷ (id_text 16 x ++ (45 ∷ flags))))) q
    ∙ ap (λ (x : List ℕ). 48 ∷ 48 ∷ 45 ∷ (id_text 32 t' ++ (45 ∷ (id_text 16 s' ++ (45 ∷ x)))))
    (r ∙ ap (id_text 2) u)

module _ (span : SpanContextRecord) (valid : Bool) (tested : valid ≡ is_valid span) where
  pub is_there : (text : List ℕ) → valid ≡ true → text ≡ parent_text (parent span)
      → Some text ≡ parent_header span
  is_there text good is =
      ap Some is
      ∙ sym (cond-true (is_valid span) (Some (parent_text (parent span))) None
      (sym tested ∙ good))

  pub is_missing : valid ≡ false → parent_header span ≡ None
  is_missing bad = cond-false (is_valid span) (Some (parent_text (parent span))) None
      (sym tested ∙ bad)

-- ---- the parts of the call

module _ (span : SpanContextRecord) (found : Option (List ℕ)) (same : found ≡ parent_header span)
    (old : List ℕ) (written : ℕ) where
  pub holds_parent : {A : Type 0} (r : Result A Status) (new : List ℕ)
      → OnOk r (HoldsFound found old new written)
      → OnOk r (HoldsFound (parent_header span) old new written)
  holds_parent r new h =
      subst (λ (f : Option (List ℕ)). OnOk r (HoldsFound f old new written)) same h

  pub parent_refused : {A : Type 0} (r : Result A Status)
      → IfErr r (λ s. FoundRefused found old written s)
      → IfErr r (λ s. ParentRefused span old written s)
  parent_refused (Ok v) h = h
  parent_refused (Err s) h =
      inr (subst (λ (f : Option (List ℕ)). FoundRefused f old written s) same h)

pub no_parent : (span : SpanContextRecord) (old : List ℕ) (written : ℕ)
    → parent_header span ≡ None → ParentRefused span old written status.Absent
no_parent span old written none = inr (inl (record { status = refl; none = none }))

pub holds_of : (span same : SpanContextRecord) → span ≡ same → (old new : List ℕ) (written : ℕ)
    → HoldsFound (parent_header span) old new written
    → HoldsFound (parent_header same) old new written
holds_of span same is old new written h =
    subst (λ (s : SpanContextRecord). HoldsFound (parent_header s) old new written) is h

pub shows_no_parent : {A : Type 0} (r : Result A Status) (object : Option Object)
    (context : ContextRecord) → context_of object ≡ Some context → (span : SpanContextRecord)
    → span ≡ span_context context → (old : List ℕ) (written : ℕ)
    → IfErr r (λ s. ParentRefused span old written s)
    → IfErr r (λ s. ShowRefused traceparent_of object old written s)
shows_no_parent (Ok v) object context from span below old written h = h
shows_no_parent (Err s) object context from span below old written (inl memory) = inl (inl memory)
shows_no_parent (Err s) object context from span below old written (inr why) = inr (record {
  context = context;
  from = from;
  why = subst (λ (x : SpanContextRecord). FoundRefused (parent_header x) old written s) below why;
})
