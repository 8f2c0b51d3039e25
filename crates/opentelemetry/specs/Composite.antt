-- The model of a composite: its members, in order.
use Rattle.std.specs.Prelude.{◌≡◌, Bool, IsTrue, ℕ, List, [], ◌∷◌, map, filter, not, Result}
use Rattle.std.specs.Prelude.{string_bytes}
use Rattle.std.specs.declared.string.String.{String}
use Rattle.std.specs.HashMap.{HashMap}
use Rattle.std.specs.List.{flat_map, fold, list_any}
use Rattle.std.specs.Str.{bytes_eq}
use Rattle.std.specs.declared.dyn_box.DynBox.{DynBox}
use Rattle.std.specs.declared.alloc.Global.{Global}
use Rattle.indexmap.specs.IndexSet.{IndexSet, insert_all}
use Rattle.otel_context.specs.Context.{ContextRecord}
use Rattle.otel_context.specs.Stack.{current}
use Rattle.opentelemetry.specs.Carrier.{CarrierState, Pairs, TextMap, map_state}
use Rattle.opentelemetry.specs.Extraction.{Extracts}
use Rattle.opentelemetry.specs.Injection.{Injects}
use Rattle.opentelemetry.specs.Refusal.{is_refused}
use Rattle.opentelemetry.specs.declared.carry.RunReport.{RunReport}
use Rattle.opentelemetry.specs.declared.propagation.error.PropagationError.{PropagationError}
use Rattle.opentelemetry.specs.declared.propagation.composite.TextMapCompositePropagator.{TextMapCompositePropagator}

-- its members, in order
abbrev pub members_of : {I : Type 0} {D : I → Type 0} → TextMapCompositePropagator I D
    → List (DynBox I Global D)
members_of c = c.members.items

-- the pairs that its members set for a context, starting with the first member's
-- (`TextMapCompositePropagator::inject_context`)
abbrev pub pairs_of : {I : Type 0} {D : I → Type 0} → (DynBox I Global D → ContextRecord → Pairs)
    → TextMapCompositePropagator I D → ContextRecord → Pairs
pairs_of pairs c context = flat_map (λ m. pairs m context) (members_of c)

-- it may refuse if one of its members may (not in the Rust crate)
abbrev pub may_refuse_of : {I : Type 0} {D : I → Type 0} → (DynBox I Global D → Bool)
    → TextMapCompositePropagator I D → Bool
may_refuse_of may_refuse c = list_any may_refuse (members_of c)

-- the result is `Refused` only if one of its members may refuse
abbrev pub RefusedByMember : {T I : Type 0} {D : I → Type 0} → (DynBox I Global D → Bool)
    → TextMapCompositePropagator I D → Result T PropagationError → Type 0
RefusedByMember may_refuse c result =
    IsTrue (is_refused result) → IsTrue (may_refuse_of may_refuse c)

-- The composite injected a context (`Injects`); `pairs` and `may_refuse` are a member's.
abbrev pub InjectsAll : {T I : Type 0} {D : I → Type 0}
    → (DynBox I Global D → ContextRecord → Pairs) → (DynBox I Global D → Bool)
    → TextMapCompositePropagator I D → ContextRecord → CarrierState → CarrierState
    → Result T PropagationError → Type 0
InjectsAll pairs may_refuse c context old new result =
    Injects (pairs_of pairs c context) (may_refuse_of may_refuse c) old new result

module _ {A S I : Type 0} {D : I → Type 0} (pairs : DynBox I Global D → ContextRecord → Pairs)
    (may_refuse : DynBox I Global D → Bool) (c : TextMapCompositePropagator I D) where
  -- it injected a context into a map of strings, which was `old` and is `new`
  abbrev pub Sends : {T : Type 0} → ContextRecord → HashMap (String A) (String A) S
      → HashMap (String A) (String A) S → Result T PropagationError → Type 0
  Sends context old new result =
      InjectsAll pairs may_refuse c context (map_state old.entries) (map_state new.entries) result

  -- a run sent the current context after its events
  abbrev pub SendsCurrent : HashMap (String A) (String A) S → HashMap (String A) (String A) S
      → RunReport → Type 0
  SendsCurrent old new report = Sends (current report.stack.live) old new report.injected

-- The context that its members extract from the texts. The first starts from the given context,
-- each other from the context of the previous one (the Rust crate's `TextMapCompositePropagator`).
abbrev pub extracted_of : {I : Type 0} {D : I → Type 0}
    → (DynBox I Global D → ContextRecord → TextMap → ContextRecord)
    → TextMapCompositePropagator I D → ContextRecord → TextMap → ContextRecord
extracted_of extracted c context texts =
    fold (λ given m. extracted m given texts) context (members_of c)

-- The composite extracted from the texts, starting from this context (`Extracts`); `extracted` and
-- `may_refuse` are a member's.
abbrev pub ExtractsAll : {I : Type 0} {D : I → Type 0}
    → (DynBox I Global D → ContextRecord → TextMap → ContextRecord) → (DynBox I Global D → Bool)
    → TextMapCompositePropagator I D → ContextRecord → TextMap
    → Result ContextRecord PropagationError → Type 0
ExtractsAll extracted may_refuse c context texts result =
    Extracts (extracted_of extracted c context texts) (may_refuse_of may_refuse c) result

-- The texts, each once, in order of first appearance: for (`b`, `a`, `a`, `c`, `b`) they are `b`,
-- `a`, `c`.
abbrev pub first_appearances : List (List ℕ) → List (List ℕ)
first_appearances [] = []
first_appearances (x ∷ xs) = x ∷ filter (λ y. not (bytes_eq x y)) (first_appearances xs)

-- the fields of its members, in order of first appearance (the Rust crate's
-- `TextMapCompositePropagator`, which doesn't specify the order)
abbrev pub fields_of : {I : Type 0} {D : I → Type 0} → (DynBox I Global D → List (List ℕ))
    → TextMapCompositePropagator I D → List (List ℕ)
fields_of fields c = first_appearances (flat_map (λ m. fields m) (members_of c))

-- the texts of a set of strings, in order
abbrev pub set_texts : {A S : Type 0} → IndexSet (String A) S → List (List ℕ)
set_texts s = map string_bytes s.keys

-- `new` is `old` followed by the texts that it lacks, in order
abbrev pub AddsTexts : {A S : Type 0} → IndexSet (String A) S → List (List ℕ)
    → IndexSet (String A) S → Type 0
AddsTexts old texts new = set_texts new ≡ insert_all bytes_eq (set_texts old) texts

-- the names of the fields that it stores, in order
abbrev pub kept_fields : {I : Type 0} {D : I → Type 0} → TextMapCompositePropagator I D
    → List (List ℕ)
kept_fields c = set_texts c.fields

-- It stores the union of its members' fields, in order of first appearance; `fields` are a
-- member's. This holds for every composite: only `new` and `join` make one, and no call changes
-- one.
abbrev pub KeepsFields : {I : Type 0} {D : I → Type 0} → (DynBox I Global D → List (List ℕ))
    → TextMapCompositePropagator I D → Type 0
KeepsFields fields c = kept_fields c ≡ fields_of fields c
