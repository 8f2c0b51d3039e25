-- The ids that a generator returns.
use Rattle.std.specs.Prelude.{◌≡◌, ◌≢◌, ◌⊎◌, ◌<◌, ◌^◌, ◌+◌, ◌-◌, ℕ, zero, suc, List, length}
use Rattle.std.specs.Prelude.{Option, Some, None, Result, Ok, Err, MatchOption}
use Rattle.std.specs.Int.{Width, byte_len, from_be_bytes}
use Rattle.otel_sdk_base.specs.Queue.{one_more}
use Rattle.otel_sdk.specs.declared.trace.id_generator.IdError.{IdError}
use Rattle.otel_sdk.specs.declared.trace.id_generator.IdError.TheVariants.{Zero, Source}

-- the maximum number of draws for one id (not in the Rust crate)
abbrev pub max_draws : ℕ
max_draws = 8

-- The result after at most n draws, and the rest of their source: the first id that isn't 0;
-- `Source` if a draw fails before; `Zero` if all n are 0. The draws 0, 0, 5 give 5 and leave the
-- draws after them.
unfoldable pub FirstValid : {S I : Type 0} → (S → Option I → S → Type 0) → (I → ℕ)
    → ℕ → S → Result I IdError → S → Type 0
FirstValid draw number zero source result left = (result ≡ Err Zero) × (left ≡ source)
FirstValid {S} {I} draw number (suc n) source result left =
    (drawn : Option I) × (next : S) × draw source drawn next
    × MatchOption drawn ((result ≡ Err Source) × (left ≡ next)) (λ id.
    ((number id ≢ 0) × (result ≡ Ok id) × (left ≡ next))
    ⊎ ((number id ≡ 0) × FirstValid draw number n next result left))

-- The drawn id is the number that this many bytes from the source spell, the most significant
-- first. A failed draw is a source that failed.
abbrev pub IsDraw : (Option (List ℕ) → Type 0) → Width → Option ℕ → Type 0
IsDraw may_fill width None = may_fill None
IsDraw may_fill width (Some id) = (bytes : List ℕ) × may_fill (Some bytes)
    × (length bytes ≡ byte_len width) × (id ≡ from_be_bytes width bytes)

-- the result is a random id: the first that is drawn and isn't 0
abbrev pub IsRandomId : (Option (List ℕ) → Type 0) → Width → Result ℕ IdError → Type 0
IsRandomId may_fill width result =
    FirstValid {S = Unit {0}} {I = ℕ} (λ _ drawn _. IsDraw may_fill width drawn) (λ id. id)
    max_draws tt result tt

-- The result is the count that a counter had, plus one, and was given to it; or the count was the
-- greatest with 64 bits. Only the counter's calls show `may_have` and `is_given`.
abbrev pub CountsUp : (ℕ → Type 0) → (ℕ → Type 0) → Result ℕ IdError → Type 0
CountsUp may_have is_given (Ok id) =
    (count : ℕ) × may_have count × is_given id × (id ≡ count + 1) × (id < 2 ^ 64)
CountsUp may_have is_given (Err error) = may_have (2 ^ 64 - 1) × (error ≡ Zero)

-- one more than the count that a counter had was given to it, up to the greatest `u64`
abbrev pub CountsOne : (ℕ → Type 0) → (ℕ → Type 0) → Type 0
CountsOne may_have is_given = (count : ℕ) × may_have count × is_given (one_more count)
