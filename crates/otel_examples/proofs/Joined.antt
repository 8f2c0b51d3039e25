-- The context that a composite extracts whose last two members are the trace context's propagator
-- and the baggage's.
use Rattle.std.proofs.Common.{◌≡◌, ◌||◌, ℕ, Bool, IsTrue, List, [], ◌∷◌, ◌++◌, Option, Some, None, Result, rules, codes, refl, sym, ap, subst, ◌∙◌, inl, inr}
use Rattle.std.specs.Prelude.{All, IfOk}
use Rattle.std.specs.List.{flat_map, fold, list_any}
use Rattle.std.specs.Option.{option_map_or}
use Rattle.std.proofs.Math.Bool.{or-false}
use Rattle.std.proofs.lemmas.List.{append-nil, append_assoc}
use Rattle.std.proofs.lemmas.List.Concat.{flat_map-append}
use Rattle.std.proofs.lemmas.List.Elements.{All-nil, All-cons, All-append}
use Rattle.std.proofs.lemmas.List.Sums.{fold-append}
use Rattle.std.proofs.lemmas.Result.{IfOk-weaker}
use Rattle.otel_context.specs.Context.{ContextRecord}
use Rattle.opentelemetry.specs.Carrier.{Pairs, TextMap, Sets}
use Rattle.opentelemetry.specs.Extraction.{Extracts}
use Rattle.opentelemetry.specs.declared.propagation.error.PropagationError.{PropagationError}
use Rattle.otel_propagators.specs.BaggagePropagator.{baggage_pairs, baggage_extracted}
use Rattle.otel_propagators.specs.TraceContext.{trace_pairs, trace_extracted}
use Rattle.otel_examples.specs.RequestId as request
use Rattle.otel_propagators.specs.Laws.{IsContext, IsOther, BothExtract, ComesBack, ComesBackTogether, CompositeSets}
use Rattle.otel_examples.specs.Composite.{CarriesBoth}

-- the pairs and the extraction of the trace context's propagator and of the baggage's, in either order
module _ (context given : ContextRecord) (texts : TextMap) (ps qs : Pairs) (first : ContextRecord) (second : ContextRecord → ContextRecord) where
  pub trace_first : ps ≡ trace_pairs context → qs ≡ baggage_pairs context → first ≡ trace_extracted given texts → ((c : ContextRecord) → second c ≡ baggage_extracted c texts) → CarriesBoth context given texts (ps ++ qs) (second first)
  trace_first trace_sets baggage_sets trace_gives baggage_gives = record {
    sets = record {
      before = [];
      one = trace_pairs context;
      between = [];
      other = baggage_pairs context;
      after = [];
      all = ap (λ (r : Pairs). r ++ qs) trace_sets ∙ ap (λ (r : Pairs). trace_pairs context ++ r) (baggage_sets ∙ sym (append-nil (baggage_pairs context)));
      both = inl (refl, refl);
      others = (All-nil IsOther, All-nil IsOther, All-nil IsOther);
    };
    extracts = inl (baggage_gives first ∙ ap (λ (c : ContextRecord). baggage_extracted c texts) trace_gives);
  }

  pub baggage_first : ps ≡ baggage_pairs context → qs ≡ trace_pairs context → first ≡ baggage_extracted given texts → ((c : ContextRecord) → second c ≡ trace_extracted c texts) → CarriesBoth context given texts (ps ++ qs) (second first)
  baggage_first baggage_sets trace_sets baggage_gives trace_gives = record {
    sets = record {
      before = [];
      one = baggage_pairs context;
      between = [];
      other = trace_pairs context;
      after = [];
      all = ap (λ (r : Pairs). r ++ qs) baggage_sets ∙ ap (λ (r : Pairs). baggage_pairs context ++ r) (trace_sets ∙ sym (append-nil (trace_pairs context)));
      both = inr (refl, refl);
      others = (All-nil IsOther, All-nil IsOther, All-nil IsOther);
    };
    extracts = inr (trace_gives first ∙ ap (λ (c : ContextRecord). trace_extracted c texts) baggage_gives);
  }

-- the last two members are both propagators, with any members before them
pub after_others : {M : Type 0} (pairs : M → Pairs) (extracted : ContextRecord → M → ContextRecord) (context given before : ContextRecord) (texts : TextMap) (ms others : List M) (a b : M) (set : Pairs)
    → ms ≡ others ++ (a ∷ b ∷ []) → fold extracted given others ≡ before → flat_map pairs others ≡ set → All IsOther set
    → CarriesBoth context before texts (pairs a ++ pairs b) (extracted (extracted before a) b) → CarriesBoth context before texts (flat_map pairs ms) (fold extracted given ms)
after_others pairs extracted context given before texts ms others a b set are begins others_set other has = record {
  sets = record {
    before = set ++ has.sets.before;
    one = has.sets.one;
    between = has.sets.between;
    other = has.sets.other;
    after = has.sets.after;
    all = ap (flat_map pairs) are ∙ flat_map-append pairs others (a ∷ b ∷ []) ∙ ap (λ (ps : Pairs). ps ++ (pairs a ++ (pairs b ++ []))) others_set
        ∙ ap (λ (ps : Pairs). set ++ (pairs a ++ ps)) (append-nil (pairs b)) ∙ ap (λ (ps : Pairs). set ++ ps) has.sets.all
        ∙ sym (append_assoc set has.sets.before (has.sets.one ++ (has.sets.between ++ (has.sets.other ++ has.sets.after))));
    both = has.sets.both;
    others = (All-append IsOther set has.sets.before other has.sets.others.0, has.sets.others.1, has.sets.others.2);
  };
  extracts = subst (λ (c : ContextRecord). BothExtract before texts c)
      (sym (ap (fold extracted given) are ∙ fold-append extracted given others (a ∷ b ∷ []) ∙ ap (λ (c : ContextRecord). extracted (extracted c a) b) begins)) has.extracts;
}

-- a composite of both extracts the context that it sent
pub arrives : ComesBackTogether → CompositeSets → (context given : ContextRecord) (back : Result ContextRecord PropagationError) (pairs : Pairs) (extracted : ContextRecord) (old new : TextMap)
    → IsContext context → Sets old pairs new → IfOk back (λ b. b ≡ extracted) → CarriesBoth context given new pairs extracted → IfOk back (ComesBack context old given)
arrives together composite context given back pairs extracted old new is sets gives has =
    IfOk-weaker back _ _ (λ b same. together context given b old new is (composite context pairs old new has.sets sets)
    (subst (λ (c : ContextRecord). BothExtract given new c) (sym same) has.extracts)) gives

-- the same for texts with another name
pub extracts_moved : (give : TextMap → ContextRecord) (may : Bool) (back : Result ContextRecord PropagationError) (a b : TextMap) → a ≡ b → Extracts (give a) may back → Extracts (give b) may back
extracts_moved give may back a b same = subst (λ (t : TextMap). Extracts (give t) may back) same

-- a request's id has another key
id_is_other : (id : Option (List ℕ)) → All IsOther (option_map_or (λ i. (codes "x-request-id", i) ∷ []) id [] ++ [])
id_is_other None = All-nil IsOther
id_is_other (Some id) = All-cons IsOther (codes "x-request-id", id) [] (search rules) (All-nil IsOther)

pub requests_are_other : (context : ContextRecord) → All IsOther (request.pairs context ++ [])
requests_are_other context = id_is_other (request.id_of context)

-- one of two members
pub any_two : {M : Type 0} (may : M → Bool) (ms : List M) (a b : M) (r : Bool) → ms ≡ a ∷ b ∷ [] → (IsTrue r → IsTrue (list_any may ms)) → IsTrue r → IsTrue (may a || may b)
any_two may ms a b r are refuses h = sym (ap (λ x. may a || x) (or-false (may b))) ∙ sym (ap (list_any may) are) ∙ refuses h
