-- The number that C gets for an outcome: 0 means that the promise of `Ok` holds, any other number
-- has its reason.
use Rattle.std.proofs.Common.{◌≡◌, ℕ, Result, Ok, Err, IfErr, OnOk, arith, sym, ◌∙◌}
use Rattle.otel_c.specs.declared.status.Status.TheVariants as status
use Rattle.otel_c.specs.declared.status.Status.{Status}
use Rattle.otel_c.specs.Status.{Refuses, code_of, number}

pub refuses : {A : Type 0} (Why : Status → Type 0) (outcome : Result A Status) (n : ℕ)
    → n ≡ code_of outcome → IfErr outcome Why → (n ≡ 0 → ⊥) → Refuses Why n
refuses Why (Ok done) n is why not = absurd (not is)
refuses Why (Err s) n is why not = record { status = s; is = is; why = why }

not_zero : (s : Status) → number s ≡ 0 → ⊥
not_zero status.NoMemory e = omega (arith, e)
not_zero status.NotText e = omega (arith, e)
not_zero status.NoRoom e = omega (arith, e)
not_zero status.Absent e = omega (arith, e)
not_zero status.Key e = omega (arith, e)
not_zero status.Value e = omega (arith, e)
not_zero status.List e = omega (arith, e)
not_zero status.Invalid e = omega (arith, e)
not_zero status.Refused e = omega (arith, e)
not_zero status.Unsendable e = omega (arith, e)

pub succeeds : {A : Type 0} (P : Type 0) (outcome : Result A Status) (n : ℕ)
    → n ≡ code_of outcome → OnOk outcome P → n ≡ 0 → P
succeeds P (Ok done) n is ok zero = ok
succeeds P (Err s) n is ok zero = absurd (not_zero s (sym is ∙ zero))
