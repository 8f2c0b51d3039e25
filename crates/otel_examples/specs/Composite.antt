-- The headers that composites send, and when the context that was sent is extracted again.
use Rattle.std.specs.Prelude.{◌≡◌, ◌≢◌, ◌++◌, ℕ, Bool, List, Some, Result, IfOk, IsTrue, OnOk}
use Rattle.std.specs.Prelude.{codes}
use Rattle.std.specs.HashMap.{HashMap}
use Rattle.std.specs.Option.{option_or}
use Rattle.std.specs.declared.alloc.Global.{Global}
use Rattle.std.specs.declared.dyn_box.DynBox.{DynBox}
use Rattle.std.specs.declared.string.String.{String}
use Rattle.otel_context.specs.BaggageHeader.{header}
use Rattle.otel_context.specs.Context.{ContextRecord, empty_context}
use Rattle.otel_context.specs.Stack.{Live, current}
use Rattle.opentelemetry.specs.Carrier.{Pairs, Sets, TextMap, at, map_state, text_map}
use Rattle.opentelemetry.specs.Composite.{KeepsFields, extracted_of, fields_of, may_refuse_of}
use Rattle.opentelemetry.specs.Composite.{pairs_of}
use Rattle.opentelemetry.specs.Extraction.{Extracts}
use Rattle.opentelemetry.specs.Injection.{Injects}
use Rattle.opentelemetry.specs.Refusal.{is_refused}
use Rattle.opentelemetry.specs.declared.propagation.composite.TextMapCompositePropagator.{TextMapCompositePropagator}
use Rattle.opentelemetry.specs.declared.propagation.error.PropagationError.{PropagationError}
use Rattle.otel_propagators.specs.BaggagePropagator.{members}
use Rattle.otel_propagators.specs.Laws.{ArePairsOfBoth, BothExtract, ComesBack}
use Rattle.otel_examples.specs.RequestId.{extracted as id_extracted, id_of}

-- `new` has the header of the context's request id, or that header of `old` if there is no id
abbrev pub IsIdSent : ContextRecord → TextMap → TextMap → Type 0
IsIdSent context old new =
    at new (codes "x-request-id") ≡ option_or (id_of context) (at old (codes "x-request-id"))

-- `new` is `old` with the headers of the context's request id and of its baggage.
pub record IsSent (context : ContextRecord) (old new : TextMap) : Type 0 where
  pub request_id : IsIdSent context old new
  -- the context's baggage, which is the empty text without one
  pub baggage : at new (codes "baggage") ≡ Some (header (members context))
  -- each other header stays
  pub others : (key : List ℕ) → key ≢ codes "x-request-id" → key ≢ codes "baggage"
      → at new key ≡ at old key

-- A composite has both W3C propagators: these are the pairs that it sets for the context, and the
-- context that it extracts from the texts. `given` is the context that the members before extract.
pub record CarriesBoth (context given : ContextRecord) (texts : TextMap) (pairs : Pairs)
    (extracted : ContextRecord) : Type 0 where
  pub sets : ArePairsOfBoth context pairs
  pub extracts : BothExtract given texts extracted

-- ---- the headers as a map, which was `old` and is `new`

-- if the injection of a run succeeded, the headers of the context that is then current are set
abbrev pub SendsCurrent : {A S T : Type 0} → Result T PropagationError → Live
    → HashMap (String A) (String A) S → HashMap (String A) (String A) S → Type 0
SendsCurrent injected live old new =
    OnOk injected (IsSent (current live) (text_map old.entries) (text_map new.entries))

-- both W3C headers give the context back, with the request's id in the headers
abbrev pub ComesBackWithId : {A S : Type 0} → ContextRecord → HashMap (String A) (String A) S
    → HashMap (String A) (String A) S → ContextRecord → Type 0
ComesBackWithId context old new back =
    ComesBack context (text_map old.entries)
    (id_extracted empty_context (text_map new.entries)) back

-- the composite refused only if one of its members may refuse
abbrev pub RefusesByMember : {I T : Type 0} {D : I → Type 0} → TextMapCompositePropagator I D
    → ((x : I) × D x → Bool) → Result T PropagationError → Type 0
RefusesByMember composite may_refuse result =
    IsTrue (is_refused result)
    → IsTrue (may_refuse_of (λ m. may_refuse (m.vtable, m.value)) composite)

-- the composite keeps the fields of its members; `fields` gives a member's fields
abbrev pub Keeps : {I : Type 0} {D : I → Type 0} → TextMapCompositePropagator I D
    → ((x : I) × D x → List (List ℕ)) → Type 0
Keeps composite fields = KeepsFields (λ m. fields (m.vtable, m.value)) composite

-- the names are the fields of the composite's members, each once, in order of first appearance
abbrev pub AreFields : {I : Type 0} {D : I → Type 0} → TextMapCompositePropagator I D
    → ((x : I) × D x → List (List ℕ)) → List (List ℕ) → Type 0
AreFields composite fields names =
    names ≡ fields_of (λ m. fields (m.vtable, m.value)) composite

-- The calls of a composite. `pairs`, `extracted` and `may_refuse` describe a member.
module _ {A S I : Type 0} {D : I → Type 0} where
  -- the composite injected the context with this result
  abbrev pub Sends : {T : Type 0} → TextMapCompositePropagator I D
      → ((x : I) × D x → ContextRecord → Pairs) → ((x : I) × D x → Bool) → ContextRecord
      → HashMap (String A) (String A) S → HashMap (String A) (String A) S
      → Result T PropagationError → Type 0
  Sends composite pairs may_refuse context old new result =
      Injects (pairs_of (λ m. pairs (m.vtable, m.value)) composite context)
      (may_refuse_of (λ m. may_refuse (m.vtable, m.value)) composite)
      (map_state old.entries) (map_state new.entries) result

  -- the composite extracted from the headers, starting from the context, with this result
  abbrev pub Receives : TextMapCompositePropagator I D
      → ((x : I) × D x → ContextRecord → TextMap → ContextRecord) → ((x : I) × D x → Bool)
      → ContextRecord → HashMap (String A) (String A) S
      → Result ContextRecord PropagationError → Type 0
  Receives composite extracted may_refuse context headers result =
      Extracts (extracted_of (λ m. extracted (m.vtable, m.value)) composite context
      (text_map headers.entries))
      (may_refuse_of (λ m. may_refuse (m.vtable, m.value)) composite) result

  -- the pairs of the composite's members are set
  abbrev pub SetsAll : TextMapCompositePropagator I D → ((x : I) × D x → ContextRecord → Pairs)
      → ContextRecord → HashMap (String A) (String A) S → HashMap (String A) (String A) S → Type 0
  SetsAll composite pairs context old new =
      Sets (text_map old.entries)
      (pairs_of (λ m. pairs (m.vtable, m.value)) composite context) (text_map new.entries)

  -- if the composite has both W3C propagators, it extracts the context that it sent
  abbrev pub Arrives : TextMapCompositePropagator I D → ((x : I) × D x → ContextRecord → Pairs)
      → ((x : I) × D x → ContextRecord → TextMap → ContextRecord) → ContextRecord
      → HashMap (String A) (String A) S → HashMap (String A) (String A) S
      → Result ContextRecord PropagationError → Type 0
  Arrives composite pairs extracted context old new result =
      (given : ContextRecord)
      → CarriesBoth context given (text_map new.entries)
      (pairs_of (λ m. pairs (m.vtable, m.value)) composite context)
      (extracted_of (λ m. extracted (m.vtable, m.value)) composite empty_context
      (text_map new.entries))
      → IfOk result (ComesBack context (text_map old.entries) given)

  -- if these are both W3C propagators, they extract the context that they sent in turn
  abbrev pub ArrivesBy : DynBox I Global D → DynBox I Global D
      → (DynBox I Global D → ContextRecord → Pairs)
      → (DynBox I Global D → ContextRecord → TextMap → ContextRecord) → ContextRecord
      → HashMap (String A) (String A) S → HashMap (String A) (String A) S
      → Result ContextRecord PropagationError → Type 0
  ArrivesBy first second pairs extracted context old new result =
      let texts = text_map new.entries in
      CarriesBoth context empty_context texts (pairs first context ++ pairs second context)
      (extracted second (extracted first empty_context texts) texts)
      → IfOk result (ComesBack context (text_map old.entries) empty_context)
