-- A write through a reference to a span is an effect on it, and leaves the other spans unchanged.
use Rattle.std.proofs.Common.{◌≡◌, ℕ, Option, Some, None, Bool, cond, true, false, Result, Ok, Err, refl, sym, ap, ◌∙◌}
use Rattle.std.specs.Result.{IsOk, OnOk, OnErr}
use Rattle.std.specs.Option.{option_map_or}
use Rattle.std.specs.Ordering.{nat_cmp, eq_by_cmp}
use Rattle.std.specs.Cmp.{nat_cmp_total}
use Rattle.std.specs.FinMap as map
use Rattle.otel_context.specs.Spans.{SpansState, get, find, replace, replace_found}
use Rattle.otel_context.specs.SpanCalls.{after_effect, BecomesOne, OthersStay}
use Rattle.otel_context.proofs.shared.SpansLemmas.{same_by_cmp}

module _ {S : Type 0} where
  kept : (b : Bool) (o v : Option S) → (b ≡ true → o ≡ v) → cond b v o ≡ o
  kept true o v h = sym (h refl)
  kept false o v h = refl

  -- replacing a span with itself changes nothing
  replace-same : (t : SpansState S) (k : ℕ) (s : S) → get t k ≡ Some s → replace t k s ≡ t
  replace-same t k s there =
      let m = t.spans in
      ap (λ spans. record { spans = spans; next_number = t.next_number }) (map.same_map nat_cmp_total map.nat_cmp-IsAntisymmetric (map.insert m k s) m (λ q.
      map.get-insert nat_cmp_total m k s q
      ∙ kept (eq_by_cmp nat_cmp q k) (map.get m q) (Some s) (λ e. ap (map.get m) (same_by_cmp q k e) ∙ there)))

  replace_found-same : (t : SpansState S) (number : Option ℕ) (s : S) → find t number ≡ Some s → replace_found t number s ≡ t
  replace_found-same t (Some k) s there = replace-same t k s there
  replace_found-same t None s there = refl

  -- a write is an effect on the span that was found
  pub changed : (effect : S → S) (t : SpansState S) (number : Option ℕ) (s w : S) (after : SpansState S)
      → Some s ≡ find t number → after ≡ replace_found t number w → w ≡ effect s → after ≡ after_effect effect t number
  changed effect t number s w after there written is = rw (← there) (written ∙ ap (replace_found t number) is)

  -- the same for a call that may return an error
  pub changed-ok : {A E : Type 0} (r : Result A E) (effect : S → S) (t : SpansState S) (number : Option ℕ) (s w : S) (after : SpansState S)
      → Some s ≡ find t number → after ≡ replace_found t number w → OnOk r (w ≡ effect s) → OnOk r (after ≡ after_effect effect t number)
  changed-ok (Ok x) effect t number s w after there written is = changed effect t number s w after there written is
  changed-ok (Err e) effect t number s w after there written is = tt

  pub changed-err : {A E : Type 0} (r : Result A E) (t : SpansState S) (number : Option ℕ) (s w : S) (after : SpansState S)
      → Some s ≡ find t number → after ≡ replace_found t number w → OnErr r (w ≡ s) → OnErr r (after ≡ t)
  changed-err (Ok x) t number s w after there written is = tt
  changed-err (Err e) t number s w after there written is = written ∙ ap (replace_found t number) is ∙ replace_found-same t number s (sym there)

  becomes : (R : S → S → Type 0) (t : SpansState S) (number : Option ℕ) (s w : S) (after : SpansState S)
      → Some s ≡ find t number → after ≡ replace_found t number w → R s w → BecomesOne R t number after
  becomes R t number s w after there written h = rw (← there) (w, h, written)

  pub becomes-ok : {A E : Type 0} (r : Result A E) (R : S → S → Type 0) (t : SpansState S) (number : Option ℕ) (s w : S) (after : SpansState S)
      → Some s ≡ find t number → after ≡ replace_found t number w → OnOk r (R s w) → OnOk r (BecomesOne R t number after)
  becomes-ok (Ok x) R t number s w after there written h = becomes R t number s w after there written h
  becomes-ok (Err e) R t number s w after there written h = tt

  pub becomes-err : {A E : Type 0} (r : Result A E) (R : S → S → Type 0) (t : SpansState S) (number : Option ℕ) (s w : S) (after : SpansState S)
      → Some s ≡ find t number → after ≡ replace_found t number w → OnErr r (R s w) → OnErr r (BecomesOne R t number after)
  becomes-err (Ok x) R t number s w after there written h = tt
  becomes-err (Err e) R t number s w after there written h = becomes R t number s w after there written h

  -- a call that leaves a span unchanged if it doesn't record leaves the table unchanged too
  pub idle-found : {A E : Type 0} (r : Result A E) (records : S → Bool) (t : SpansState S) (number : Option ℕ) (s w : S) (after : SpansState S)
      → Some s ≡ find t number → after ≡ replace_found t number w → (records s ≡ false → IsOk r × (w ≡ s))
      → option_map_or records (find t number) false ≡ false → IsOk r × (after ≡ t)
  idle-found r records t number s w after there written idle off =
      let same = idle (rw (← there) at off) in
      (same.0, written ∙ ap (replace_found t number) same.1 ∙ replace_found-same t number s (sym there))

  passed_over : (b : Bool) (o v : Option S) → (b ≡ true → ⊥) → cond b v o ≡ o
  passed_over true o v h = absurd (h refl)
  passed_over false o v h = refl

  -- writing the span with the number leaves the others unchanged
  pub OthersStay-replaced : (number : Option ℕ) (first t : SpansState S) (w : S) → OthersStay number first t → OthersStay number first (replace_found t number w)
  OthersStay-replaced None first t w h = h
  OthersStay-replaced (Some k) first t w h = (
    h.0,
    λ q apart.
        map.get-insert nat_cmp_total t.spans k w q
        ∙ passed_over (eq_by_cmp nat_cmp q k) (map.get t.spans q) (Some w) (λ e. apart (ap Some (sym (same_by_cmp q k e))))
        ∙ h.1 q apart,
  )

  pub OthersStay-along : (n n' : Option ℕ) (t t' u u' : SpansState S) → n' ≡ n → t' ≡ t → u ≡ u' → OthersStay n' t' u' → OthersStay n t u
  OthersStay-along n n' t t' u u' a b d h = rw (← a, ← b, d) h
