-- What bytes say, from the values that were read.
use Rattle.std.proofs.Common.{◌≡◌, ◌<◌, ◌%◌, ◌^◌, ℕ, ℤ, List, length, Option, Some, None, Bool, if◌then◌else◌, refl, sym, ap, ◌∙◌, subst, arith}
use Rattle.std.specs.Prelude.{option_map, option_and_then, IsSome}
use Rattle.std.specs.Int.{w32, w64, cast_signed}
use Rattle.std.specs.Option.{IsSomeAnd}
use Rattle.std.proofs.lemmas.Bool.{ne_eqb}
use Rattle.otel_proto.specs.Wire.{Field, read}
use Rattle.otel_proto_answers.specs.Answers.{Scalars, scalars, unwritten, unless_empty, message_of, PartialSuccess, StatusMessage, response, status, partial_success}
use Rattle.otel_proto_answers.specs.Seen.{response_after}

abbrev partial : Scalars → PartialSuccess
partial s = record { rejected = cast_signed w64 s.integer; message = unless_empty s.string }

abbrev status_message : Scalars → StatusMessage
status_message s = record { code = cast_signed w32 (s.integer % 2 ^ 32); message = unless_empty s.string }

one_map : (o : Option (List Field)) → option_and_then partial_success (option_and_then (message_of 1) o) ≡ option_map partial (option_and_then (response_after unwritten) o)
one_map None = refl
one_map (Some fs) = within (message_of 1 fs)
  where
    within : (o : Option (List Field)) → option_and_then partial_success o ≡ option_map partial (option_and_then (scalars unwritten) o)
    within None = refl
    within (Some gs) = refl

-- ---- a response
pub response_said : (bs : List ℕ) (o : Option Scalars) → o ≡ option_and_then (response_after unwritten) (read bs) → response bs ≡ option_map partial o
response_said bs o h = one_map (read bs) ∙ ap (option_map partial) (sym h)

pub response_tells : (bs : List ℕ) (s : Scalars) (z : ℤ) (m : Option (List ℕ)) → Some s ≡ option_and_then (response_after unwritten) (read bs) → z ≡ cast_signed w64 s.integer → m ≡ unless_empty s.string → response bs ≡ Some (record { rejected = z; message = m })
response_tells bs s z m h number text = response_said bs (Some s) h ∙ sym (λ i. Some (record { rejected = number i; message = text i }))

has_text : (s : List ℕ) → 0 < length s → IsSome (unless_empty s)
has_text s some = subst (λ (b : Bool). IsSome (if b then None else Some s)) (sym (ne_eqb (length s) 0 (λ none. omega arith))) refl

pub response_has_message : (bs : List ℕ) (s : Scalars) → Some s ≡ option_and_then (response_after unwritten) (read bs) → 0 < length s.string → IsSomeAnd (response bs) (λ p. IsSome p.message)
response_has_message bs s h some = subst (λ (o : Option PartialSuccess). IsSomeAnd o (λ p. IsSome p.message)) (sym (response_said bs (Some s) h)) (has_text s.string some)

-- ---- a status
pub status_tells : (bs : List ℕ) (s : Scalars) (z : ℤ) (m : Option (List ℕ)) → Some s ≡ option_and_then (scalars unwritten) (read bs) → z ≡ cast_signed w32 (s.integer % 2 ^ 32) → m ≡ unless_empty s.string → status bs ≡ Some (record { code = z; message = m })
status_tells bs s z m h number text = ap (option_map status_message) (sym h) ∙ sym (λ i. Some (record { code = number i; message = text i }))
