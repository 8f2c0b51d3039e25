-- Bytes in a buffer, read.
use Rattle.std.proofs.Common.{◌≡◌, ◌<◌, ◌^◌, ℕ, List, [], ◌∷◌, length, Some, Result, Ok, Err, IfOk, true, ap, ◌∙◌, subst, arith}
use Rattle.std.specs.List.{All}
use Rattle.std.proofs.lemmas.List.Elements.{All-cons}
use Rattle.otel_proto.specs.Laws.{IsField}
use Rattle.otel_proto.specs.Wire.{Field, is_number, read}
use Rattle.otel_proto.specs.Written.{messages, bytes_of}
use Rattle.otel_proto.proofs.shared.ReadBack.{fields_read_back}

none : All IsField []
none k d h = absurd (omega arith)

-- messages are fields of any number
pub messages_are_fields : {A : Type 0} (number : ℕ) (value : A → List Field) (xs : List A) → is_number number ≡ true → All IsField (messages number value xs)
messages_are_fields number value [] known = none
messages_are_fields number value (x ∷ xs) known =
    All-cons IsField _ (messages number value xs) (record { number = known; content = tt }) (messages_are_fields number value xs known)

-- bytes in a buffer are read as the fields that were written
pub bytes_read : (fs : List Field) (bs : List ℕ) → All IsField fs → length bs < 2 ^ 64 → bs ≡ bytes_of fs → read bs ≡ Some fs
bytes_read fs bs h short same =
    ap read same ∙ fields_read_back fs h (subst (λ (cs : List ℕ). length cs < 2 ^ 64) same short)

-- two facts about a value that is there
pub both : {T E : Type 0} (r : Result T E) (P Q R : T → Type 0) → ((x : T) → P x → Q x → R x) → IfOk r P → IfOk r Q → IfOk r R
both (Ok x) P Q R f p q = f x p q
both (Err e) P Q R f p q = tt
