-- Errors that are passed up, and the numbers that members say.
use Rattle.std.proofs.Common.{◌≡◌, sym, subst, ◌∙◌, ap, ℕ, List, Option, Some, None}
use Rattle.std.proofs.Common.{Result, Ok, Err, IfErr, MatchOption, unwrap_or}
use Rattle.std.proofs.Common.{Bool, true, false}
use Rattle.std.specs.Bool.{MatchBool}
use Rattle.std.specs.Result.{IsErrAnd}
use Rattle.serde_json.specs.Data.{Data, null, boolean, number, string, array, object}
use Rattle.otel_otlp.specs.HttpResponse.{IsCount}
use Rattle.otel_otlp.specs.ReadMembers.{IsWideIn, member_of}

-- the error that a `?` passes is the same
pub passed : {T E : Type 0} (P : E → Type 0) (r : Result T E) (e : E)
    → IsErrAnd r (λ f. f ≡ e) → P e → IfErr r P
passed P (Ok x) e is h = tt
passed P (Err f) e is h = subst P (sym is) h

pub some_same : {A : Type 0} (a b : A) → Some a ≡ Some b → a ≡ b
some_same {A = A} a b e = ap (λ (o : Option A). unwrap_or o a) e

-- the alternative that the test chooses
pub then_first : (b : Bool) (P Q : Type 0) → b ≡ true → MatchBool b P Q → P
then_first b P Q e h = subst (λ c. MatchBool c P Q) e h

pub then_second : (b : Bool) (P Q : Type 0) → b ≡ false → MatchBool b P Q → Q
then_second b P Q e h = subst (λ c. MatchBool c P Q) e h

-- a value says one number only
pub one_count : (d : Data) (n m : ℕ) → IsCount d (Some n) → IsCount d (Some m) → n ≡ m
one_count null n m h k = search
one_count (boolean b) n m h k = search
one_count (number x) n m h k = some_same n m (h ∙ sym k)
one_count (string t) n m h k = h.1 ∙ sym k.1
one_count (array ds) n m h k = search
one_count (object ms) n m h k = search

one_wide_of : (o : Option Data) (n m : ℕ)
    → MatchOption o (n ≡ 0) (λ d. IsCount d (Some n))
    → MatchOption o (m ≡ 0) (λ d. IsCount d (Some m)) → n ≡ m
one_wide_of None n m h k = h ∙ sym k
one_wide_of (Some d) n m h k = one_count d n m h k

-- a member says one number only
pub one_wide : (name : List ℕ) (d : Data) (n m : ℕ)
    → IsWideIn name d n → IsWideIn name d m → n ≡ m
one_wide name d n m h k = one_wide_of (member_of name d) n m h k

-- a weaker fact about the same error
pub weaker : {T E : Type 0} (r : Result T E) (P Q : E → Type 0)
    → ((e : E) → P e → Q e) → IfErr r P → IfErr r Q
weaker (Ok x) P Q f h = tt
weaker (Err e) P Q f h = f e h
