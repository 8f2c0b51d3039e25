-- Two injections, one after the other.
use Rattle.std.proofs.Common.{◌++◌, false, Result, Ok, Err, sym, ap, append_assoc, ◌∙◌, inl, inr, IsTrue, ◌⊎◌, ◌<◌, ℕ, ◌≤◌, arith, true≢false}
use Rattle.opentelemetry.specs.Carrier.{CarrierState, Pairs}
use Rattle.opentelemetry.specs.Injection.{Injects}
use Rattle.opentelemetry.specs.declared.propagation.error.PropagationError.{PropagationError}
use Rattle.opentelemetry.proofs.shared.Setting.{sets_more}

rose : (a b c : ℕ) → a ≤ b → IsTrue false ⊎ (b < c) → IsTrue false ⊎ (a < c)
rose a b c le (inl may) = inl may
rose a b c le (inr more) = inr (omega arith)

-- the first injection fails
pub fails_first : {T U : Type 0} (ps qs : Pairs) (a b : CarrierState) (e : PropagationError) → Injects {T = T} ps false a b (Err e) → Injects {T = U} (ps ++ qs) false a b (Err e)
fails_first ps qs a b e h = record {
  ok = tt;
  err = record { done = h.err.done; left = h.err.left ++ qs; split = ap (λ r. r ++ qs) h.err.split ∙ append_assoc h.err.done h.err.left qs; sets = h.err.sets };
  refused = h.refused;
  count = h.count;
}

-- the first succeeds
pub goes_on : {T U : Type 0} (r : Result U PropagationError) (ps qs : Pairs) (a b c : CarrierState) (t : T) → Injects ps false a b (Ok t) → Injects qs false b c r → Injects (ps ++ qs) false a c r
goes_on (Ok u) ps qs a b c t g h = record {
  ok = sets_more a.texts b.texts c.texts ps qs g.ok h.ok;
  err = tt;
  refused = λ does. absurd (true≢false (sym does));
  count = omega (arith, g.count, h.count);
}
goes_on (Err e) ps qs a b c t g h = record {
  ok = tt;
  err = record {
    done = ps ++ h.err.done;
    left = h.err.left;
    split = ap (λ r. ps ++ r) h.err.split ∙ sym (append_assoc ps h.err.done h.err.left);
    sets = sets_more a.texts b.texts c.texts ps h.err.done g.ok h.err.sets;
  };
  refused = λ does. rose a.refusals b.refusals c.refusals g.count (h.refused does);
  count = omega (arith, g.count, h.count);
}
