-- The multiple headers of a span, set one after the other.
use Rattle.std.proofs.Common.{◌≡◌, ℕ, ◌+◌, false, List, [], ◌∷◌, ◌++◌, refl, sym, ap, subst, ◌∙◌, arith, Result, Ok, Err, inr, if◌then◌else◌, true≢false}
use Rattle.std.specs.Prelude.{OnOk, OnErr}
use Rattle.otel_ids.specs.Ids.{id_text}
use Rattle.opentelemetry.specs.declared.propagation.error.PropagationError.{PropagationError}
use Rattle.opentelemetry.specs.declared.propagation.error.PropagationError.TheVariants.{Memory, Refused}
use Rattle.opentelemetry.specs.Carrier.{CarrierState, Pairs, Sets, TextMap}
use Rattle.opentelemetry.specs.Injection.{Injects}
use Rattle.opentelemetry.specs.Refusal.{is_refused}
use Rattle.otel_propagators.specs.B3.{B3Span, id_pairs, span_id_key, span_pairs, state_pairs, trace_id_key}
use Rattle.otel_propagators.proofs.Both.{fails_first, goes_on}
use Rattle.otel_propagators.specs.declared.b3.form.Form.TheVariants.{Multi}

nothing_set : (m n : TextMap) → n ≡ m → Sets m [] n
nothing_set m n same = subst (λ (x : TextMap). Sets m [] x) (sym same) (record { at_key = λ k. refl })

-- one pair is set
pub one_set : {T : Type 0} (r : Result T PropagationError) (a b : CarrierState) (p : List ℕ × List ℕ) → OnOk r (Sets a.texts (p ∷ []) b.texts) → OnErr r (b.texts ≡ a.texts)
    → b.refusals ≡ a.refusals + (if is_refused r then 1 else 0) → Injects (p ∷ []) false a b r
one_set (Ok x) a b p s same m = record { ok = s; err = tt; refused = λ does. absurd (true≢false (sym does)); count = omega arith }
one_set (Err (Memory e)) a b p s same m = record {
  ok = tt;
  err = record { done = []; left = p ∷ []; split = refl; sets = nothing_set a.texts b.texts same };
  refused = λ does. absurd (true≢false (sym does));
  count = omega arith;
}
one_set (Err Refused) a b p s same m = record {
  ok = tt;
  err = record { done = []; left = p ∷ []; split = refl; sets = nothing_set a.texts b.texts same };
  refused = λ does. inr (omega arith);
  count = omega arith;
}

pairs_are : (p : B3Span) (t s : List ℕ) → t ≡ id_text 32 p.trace_id → s ≡ id_text 16 p.span_id
    → (trace_id_key, t) ∷ (span_id_key, s) ∷ [] ≡ id_pairs p
pairs_are p t s e f =
    ap (λ (x : List ℕ). (trace_id_key, x) ∷ (span_id_key, s) ∷ []) e
    ∙ ap (λ (x : List ℕ). (trace_id_key, id_text 32 p.trace_id) ∷ (span_id_key, x) ∷ []) f

-- the first id is set, and the second is set or fails
pub ids_set : {T U : Type 0} (r : Result T PropagationError) (a b c : CarrierState) (p : B3Span) (t s : List ℕ) (x : U)
    → t ≡ id_text 32 p.trace_id → s ≡ id_text 16 p.span_id
    → Injects {T = U} ((trace_id_key, t) ∷ []) false a b (Ok x) → Injects ((span_id_key, s) ∷ []) false b c r
    → Injects (id_pairs p) false a c r
ids_set {T = T} {U = U} r a b c p t s x e f g h =
    subst (λ (ps : Pairs). Injects ps false a c r) (pairs_are p t s e f)
    (goes_on {T = U} {U = T} r ((trace_id_key, t) ∷ []) ((span_id_key, s) ∷ []) a b c x g h)

-- an id fails
pub stops : {T U : Type 0} (a b : CarrierState) (p : B3Span) (e : PropagationError)
    → Injects {T = U} (id_pairs p) false a b (Err e) → Injects {T = T} (span_pairs Multi p) false a b (Err e)
stops {T = T} {U = U} a b p e h = fails_first {T = U} {U = T} (id_pairs p) (state_pairs p.sampling) a b e h

-- both ids are set, and the state is set or fails
pub ends : {T U : Type 0} (r : Result T PropagationError) (a b c : CarrierState) (p : B3Span) (key v w : List ℕ) (x : U)
    → v ≡ w → (key, w) ∷ [] ≡ state_pairs p.sampling
    → Injects {T = U} (id_pairs p) false a b (Ok x) → Injects ((key, v) ∷ []) false b c r
    → Injects (span_pairs Multi p) false a c r
ends {T = T} {U = U} r a b c p key v w x ev ek g h =
    subst (λ (ps : Pairs). Injects (id_pairs p ++ ps) false a c r) (ap (λ (z : List ℕ). (key, z) ∷ []) ev ∙ ek)
    (goes_on {T = U} {U = T} r (id_pairs p) ((key, v) ∷ []) a b c x g h)

-- both ids are all
pub ends_undecided : {T : Type 0} (r : Result T PropagationError) (a b : CarrierState) (p : B3Span)
    → [] ≡ state_pairs p.sampling → Injects (id_pairs p) false a b r → Injects (span_pairs Multi p) false a b r
ends_undecided r a b p e h = subst (λ (ps : Pairs). Injects (id_pairs p ++ ps) false a b r) e h
