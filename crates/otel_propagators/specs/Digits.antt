-- The parts read from a `traceparent`, one after the other. No public clause cites this file.
use Rattle.std.specs.Prelude.{◌≡◌, ◌≢◌, ℕ, ◌<◌, ◌^◌, nat_le, Bool, ◌||◌, ◌&&◌, false}
use Rattle.std.specs.Prelude.{◌⊎◌, List, ◌++◌, Option, Some, None, MatchOption}
use Rattle.std.specs.Fmt.{digit_glyph}
use denote.Ref.{Bor}
use Rattle.otel_ids.specs.Ids.{id_text}
use Rattle.otel_propagators.specs.TraceParent.{parent_text, parent_with, Parent}

-- 0-9 or a-f [W3C trace-context-2, "version": HEXDIGLC]
abbrev pub is_digit : ℕ → Bool
is_digit b = (nat_le 48 b && nat_le b 57) || (nat_le 97 b && nat_le b 102)

-- the value of a digit, or None for any other byte
abbrev pub IsDigitOf : ℕ → Option ℕ → Type 0
IsDigitOf b None = is_digit b ≡ false
IsDigitOf b (Some d) = (d < 16) × (b ≡ digit_glyph false d)

-- the number with these digits, or None if the bytes aren't all digits
abbrev pub IsNumberOf : ℕ → List ℕ → Option ℕ → Type 0
IsNumberOf count bytes None = (n : ℕ) → bytes ≢ id_text count n
IsNumberOf count bytes (Some n) = (bytes ≡ id_text count n) × (n < 16 ^ count)

-- the number of the first `count` digits with the bytes after them, or None if the bytes don't
-- start with that many digits
abbrev pub IsNumberBefore : ℕ → List ℕ → Option (ℕ × Bor (List ℕ)) → Type 0
IsNumberBefore count bytes result =
    MatchOption result ((n : ℕ) (rest : List ℕ) → bytes ≢ id_text count n ++ rest)
    (λ x. (bytes ≡ id_text count x.0 ++ x.1.now) × (x.0 < 16 ^ count))

-- the bytes after the given front, or None if the bytes don't start with it
abbrev pub IsAfter : List ℕ → List ℕ → Option (Bor (List ℕ)) → Type 0
IsAfter front bytes result =
    MatchOption result ((rest : List ℕ) → bytes ≢ front ++ rest) (λ rest. bytes ≡ front ++ rest.now)

-- the numbers with this text, or None if it is the text of no numbers
abbrev pub AreNumbersOf : List ℕ → Option (ℕ × ℕ × ℕ) → Type 0
AreNumbersOf text None = (p : Parent) → text ≢ parent_text p
AreNumbersOf text (Some x) =
    (text ≡ parent_text (parent_with x.0 x.1 x.2))
    × (x.0 < 16 ^ 32) × (x.1 < 16 ^ 16) × (x.2 < 16 ^ 2)

-- the ids and flags of the numbers, or None if an id is 0
abbrev pub IsParentFrom : ℕ → ℕ → ℕ → Option Parent → Type 0
IsParentFrom trace_id span_id flags result =
    MatchOption result ((trace_id ≡ 0) ⊎ (span_id ≡ 0))
    (λ p. (trace_id ≢ 0) × (span_id ≢ 0) × (p ≡ parent_with trace_id span_id flags))
