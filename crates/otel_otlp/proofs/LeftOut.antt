-- Members that may be left out determine the value for which they are left out, and flags determine
-- their parts.
use Rattle.std.proofs.Common.{length, [], ◌∷◌, if◌then◌else◌, ◌≡◌, ℕ, ◌<◌, ◌==◌, List, Bool, true, false, refl, sym, ap, arith}
use Rattle.std.proofs.lemmas.Grind.{common_steps}
use Rattle.std.specs.Str.{bytes_eq}
use Rattle.serde_json.specs.Data.{string, number, unsigned}
use Rattle.otel_otlp.specs.Json.{text_member, number_member}
use Rattle.otel_otlp.specs.Traces.{flags}
use Rattle.otel_otlp.proofs.Found.{if_so, found, text_in, number_in}

-- a list without items
pub empty_is : {A : Type 0} (t : List A) → (length t == 0) ≡ true → t ≡ []
empty_is [] e = refl
empty_is (x ∷ t) e = absurd (grind (arith, common_steps))

-- a text that is left out if it is empty
pub text_again : (q t : List ℕ) (b : Bool) → (length t == 0) ≡ b → bytes_eq q q ≡ true → text_in (found q (if b then [] else text_member q t)) ≡ t
text_again q t true e r = sym (empty_is t e)
text_again q t false e r = ap (λ c. text_in (if_so c (string t))) r

pub zero_is : (n : ℕ) → (n == 0) ≡ true → n ≡ 0
zero_is n e = grind (arith, common_steps)

-- a number that is left out if it is 0
pub number_again : (q : List ℕ) (k : ℕ) (b : Bool) → (k == 0) ≡ b → bytes_eq q q ≡ true → number_in (found q (if b then [] else number_member q k)) ≡ k
number_again q k true e r = sym (zero_is k e)
number_again q k false e r = ap (λ c. number_in (if_so c (number (unsigned k)))) r

-- the flags of 8 bits, and whether it is remote
pub same_flags : (a b : ℕ) (r q : Bool) → a < 256 → b < 256 → flags a r ≡ flags b q → (a ≡ b) × (r ≡ q)
same_flags a b true true h k e = (omega (arith, e), refl)
same_flags a b false false h k e = (omega (arith, e), refl)
same_flags a b true false h k e = absurd (omega (arith, e, h, k))
same_flags a b false true h k e = absurd (omega (arith, e, h, k))
