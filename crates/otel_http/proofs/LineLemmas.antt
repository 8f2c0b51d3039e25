-- Tests of bytes hold if they don't fail to hold.
use Rattle.std.proofs.Common.{arith, true, false, ℕ, ◌<◌, length, nat_lt, Bool, IsTrue, List, refl, sym}
use Rattle.std.proofs.Common.{true≢false}
use Rattle.std.proofs.lemmas.Bool.Decides.{nat_tests}
use Rattle.http_header.specs.FieldName.{IsFieldName}
use Rattle.http_header.specs.FieldValue.{IsFieldValue}
use Rattle.http_header.specs.Token.{AllPass, is_token_byte, is_value_byte}

stable_true : (b : Bool) → ¬ (¬ (IsTrue b)) → IsTrue b
stable_true true n = refl
stable_true false n = absurd (n (λ h. true≢false (sym h)))

stable_lt : (a b : ℕ) → ¬ (¬ (a < b)) → a < b
stable_lt a b n =
    let test : IsTrue (nat_lt a b) = stable_true _ (λ m. n (λ h. m (grind (arith, nat_tests)))) in
    grind (arith, nat_tests)

stable_pass : (test : ℕ → Bool) (bytes : List ℕ) → ¬ (¬ (AllPass test bytes)) → AllPass test bytes
stable_pass test bytes n = λ k d h. stable_true _ (λ m. n (λ all. m (all k d h)))

pub stable_name : (bytes : List ℕ) → ¬ (¬ (IsFieldName bytes)) → IsFieldName bytes
stable_name bytes n = (
  (stable_lt 0 _ (λ m. n (λ h. m h.0.0)), stable_pass is_token_byte bytes (λ m. n (λ h. m h.0.1))),
  let bound = stable_lt (length bytes) 65536 (λ m. n (λ h. m (omega (arith, h.1)))) in omega arith,
)

pub stable_value : (bytes : List ℕ) → ¬ (¬ (IsFieldValue bytes)) → IsFieldValue bytes
stable_value bytes n = stable_pass is_value_byte bytes n
