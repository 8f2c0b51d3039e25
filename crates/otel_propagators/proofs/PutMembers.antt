-- The effect of an insert on the members of a baggage.
use Rattle.std.proofs.Common.{◌≡◌, ℕ, ◌<◌, ◌≤◌, true, false, List, [], ◌∷◌, ◌++◌, length, sym, ap, subst, ◌∙◌, ⊎_elim, arith}
use Rattle.std.specs.Prelude.{◌&&◌, ◌||◌, nat_le, nat_lt, map, if◌then◌else◌}
use Rattle.std.specs.List.{IsDistinct, list_any}
use Rattle.std.specs.Str.{bytes_eq, is_utf8}
use Rattle.std.proofs.lemmas.Bool.Decides.{nat_tests}
use Rattle.std.proofs.lemmas.Bool.{cases_Bool, cond-true, cond_both}
use Rattle.std.proofs.lemmas.Map.Keys.{IsDistinct-head}
use Rattle.std.proofs.lemmas.List.Sums.{sum_by-append, sum_by-cons}
use Rattle.otel_base.proofs.shared.Bytes.{turned}
use Rattle.otel_context.specs.BaggageText.{is_key, IsTrimmed}
use Rattle.otel_context.specs.BaggageMember.{Member, has_key, weight_of}
use Rattle.otel_context.specs.Baggage.{max_key_value_pairs, max_len_of_all_pairs, weight, put, accepts, insert, IsBaggage}
use Rattle.otel_context.proofs.shared.BaggageLists.{keys, AreDistinct, HasNone, none_after}
use Rattle.otel_context.proofs.shared.BaggageLists.{put_here, put_later, tail}
use Rattle.otel_context.proofs.shared.BaggagePuts.{put_baggage}

distinct_cons : (o : Member) (ms : List Member) → HasNone o.key ms → AreDistinct ms → AreDistinct (o ∷ ms)
unfolding IsDistinct
distinct_cons o ms h d = (h, d)

pub distinct_nil : AreDistinct []
unfolding IsDistinct
distinct_nil = tt

-- ---- a baggage remains one

none_put : (key : List ℕ) (ms : List Member) (m : Member) → AreDistinct ms → HasNone key ms → bytes_eq key m.key ≡ false → HasNone key (put ms m)
none_put key [] m d h e = (e, tt)
none_put key (o ∷ ms) m d h e =
    ⊎_elim
    (λ t. subst (HasNone key) (sym (put_here m o ms d t)) (e, h.1))
    (λ f. subst (HasNone key) (sym (put_later m o ms f)) (h.0, none_put key ms m (tail o ms d) h.1 e))
    (cases_Bool (has_key m.key o))

distinct_put : (ms : List Member) (m : Member) → AreDistinct ms → AreDistinct (put ms m)
distinct_put [] m d = distinct_cons m [] tt distinct_nil
distinct_put (o ∷ ms) m d =
    ⊎_elim
    (λ t. subst AreDistinct (sym (put_here m o ms d t)) (distinct_cons m ms (none_after m.key o ms t d) (tail o ms d)))
    (λ f.
    subst AreDistinct (sym (put_later m o ms f))
    (distinct_cons o (put ms m) (none_put o.key ms m (tail o ms d) (IsDistinct-head bytes_eq o.key (keys ms) d) (turned m.key o.key f)) (distinct_put ms m (tail o ms d))))
    (cases_Bool (has_key m.key o))

pub insert_baggage : (ms : List Member) (m : Member) → IsBaggage ms → is_utf8 m.value ≡ true → IsTrimmed m.metadata → IsBaggage (insert ms m)
insert_baggage ms m held text cut =
    cond_both (accepts ms m) (put ms m) ms IsBaggage (λ t. put_baggage ms m held text cut (distinct_put ms m held.distinct) t) (λ f. held)

-- ---- a member that is too long isn't accepted

not_le : (n : ℕ) → max_len_of_all_pairs < n → nat_le n max_len_of_all_pairs ≡ false
not_le n h = grind (arith, nat_tests)

module _ (m : Member) where
  weight_in : (ms : List Member) → list_any (has_key m.key) ms ≡ true → weight_of m ≤ weight (map (λ other. if has_key m.key other then m else other) ms)
  weight_in [] h = absurd (cc)
  weight_in (o ∷ ms) h =
      let cons = sum_by-cons weight_of (if has_key m.key o then m else o) (map (λ other. if has_key m.key other then m else other) ms) in
      ⊎_elim
      (λ t. omega (arith, cons, ap weight_of (cond-true (has_key m.key o) m o t)))
      (λ f. let rest = weight_in ms (sym (ap (λ b. b || list_any (has_key m.key) ms) f) ∙ h) in omega (arith, cons, rest))
      (cases_Bool (has_key m.key o))

  weight_last : (ms : List Member) → weight_of m ≤ weight (ms ++ m ∷ [])
  weight_last ms = omega (arith, sum_by-append weight_of ms (m ∷ []), sum_by-cons weight_of m [])

  weight_of_put : (ms : List Member) → weight_of m ≤ weight (put ms m)
  weight_of_put ms =
      cond_both (list_any (has_key m.key) ms) (map (λ other. if has_key m.key other then m else other) ms) (ms ++ m ∷ []) (λ l. weight_of m ≤ weight l) (weight_in ms) (λ f. weight_last ms)

  pub too_long : (ms : List Member) → max_len_of_all_pairs < length m.value → accepts ms m ≡ false
  too_long ms long =
      let w = weight_of_put ms in
      let e : nat_le (weight (put ms m)) max_len_of_all_pairs ≡ false = not_le (weight (put ms m)) (omega (arith, w, long)) in
      ap (λ b. b && (list_any (has_key m.key) ms || (is_key m.key && nat_lt (length ms) max_key_value_pairs))) e
