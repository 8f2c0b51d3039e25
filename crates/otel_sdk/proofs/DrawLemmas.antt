-- One draw before others.
use Rattle.std.proofs.Common.{◌≡◌, ◌≢◌, ℕ, suc, ◌-◌, ◌+◌, ◌<◌, ◌≤◌, refl, subst, inl, inr, arith, Option, Some, None, Result, Ok, Err}
use Rattle.otel_sdk.specs.IdGenerator.{FirstValid}
use Rattle.otel_sdk.specs.declared.trace.id_generator.IdError.{IdError}
use Rattle.otel_sdk.specs.declared.trace.id_generator.IdError.TheVariants.{Zero, Source}

pub left_over : (n i : ℕ) → i < n → suc (n - (i + 1)) ≡ n - i
left_over n i h = omega arith

pub again : {S I : Type 0} (draw : S → Option I → S → Type 0) (number : I → ℕ) (n i : ℕ) (s : S)
    (id : I) (next : S) (r : Result I IdError) (t : S) → i < n → draw s (Some id) next → number id ≡ 0
    → FirstValid draw number (n - (i + 1)) next r t → FirstValid draw number (n - i) s r t
unfolding FirstValid
again draw number n i s id next r t h d z rest =
    subst (λ (k : ℕ). FirstValid draw number k s r t) (left_over n i h)
    (Some id, next, d, inr (z, rest))

pub found : {S I : Type 0} (draw : S → Option I → S → Type 0) (number : I → ℕ) (n i : ℕ) (s : S)
    (id : I) (next : S) → i < n → draw s (Some id) next → number id ≢ 0
    → FirstValid draw number (n - i) s (Ok id) next
unfolding FirstValid
found draw number n i s id next h d z =
    subst (λ (k : ℕ). FirstValid draw number k s (Ok id) next) (left_over n i h)
    (Some id, next, d, inl (z, refl, refl))

pub failed : {S I : Type 0} (draw : S → Option I → S → Type 0) (number : I → ℕ) (n i : ℕ) (s : S)
    (next : S) → i < n → draw s None next
    → FirstValid draw number (n - i) s (Err Source) next
unfolding FirstValid
failed draw number n i s next h d =
    subst (λ (k : ℕ). FirstValid draw number k s (Err Source) next) (left_over n i h)
    (None, next, d, (refl, refl))

none_left : (n i : ℕ) → n ≤ i → 0 ≡ n - i
none_left n i h = omega arith

pub used_up : {S I : Type 0} (draw : S → Option I → S → Type 0) (number : I → ℕ) (n i : ℕ) (s : S)
    → n ≤ i → FirstValid draw number (n - i) s (Err Zero) s
unfolding FirstValid
used_up draw number n i s h =
    subst (λ (k : ℕ). FirstValid draw number k s (Err Zero) s) (none_left n i h) (refl, refl)
