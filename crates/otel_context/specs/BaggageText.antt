-- The texts of a baggage: valid keys, valid metadata, and escaped values.
use Rattle.std.specs.Prelude.{◌≡◌, ℕ, ◌/◌, ◌%◌, Bool, true, false, not, ◌&&◌, ◌||◌, ◌==◌, nat_le}
use Rattle.std.specs.Prelude.{nat_lt, List, [], ◌∷◌, length, codes, if◌then◌else◌, refl}
use Rattle.std.specs.List.{list_all, list_any, flat_map}
use Rattle.std.specs.Fmt.{digit_glyph}
use Rattle.std.specs.Str.{trim}

-- A delimiter: one of the visible ASCII characters that can't be in a token (RFC 7230, section
-- 3.2.6).
abbrev pub is_delimiter : ℕ → Bool
is_delimiter b = list_any (λ d. d == b) (codes "(),/:;<=>?@[\\]{}\"")

-- A byte of a token: `!` (33) to `~` (126), except delimiters (RFC 7230, section 3.2.6, `tchar`).
abbrev pub is_key_byte : ℕ → Bool
is_key_byte b = nat_le 33 b && (nat_le b 126 && not (is_delimiter b))

-- A key is a token: one or more such bytes (W3C baggage, `key`; the Rust crate's `is_key_valid`).
abbrev pub is_key : List ℕ → Bool
is_key bs = nat_lt 0 (length bs) && list_all is_key_byte bs

key_example : is_key (codes "user-id") ≡ true
key_example = refl

no_key_example : is_key (codes "user id") ≡ false
no_key_example = refl

-- No Unicode white space at either end (the Rust crate's `From<&str>` of `BaggageMetadata`). `a=1;
-- b` and the empty text are trimmed; ` a` and `a ` aren't.
abbrev pub IsTrimmed : List ℕ → Type 0
IsTrimmed bs = trim bs ≡ bs

-- A byte that isn't escaped: A-Z, a-z, 0-9 and . - _ ~ (RFC 3986, section 2.3, `unreserved`).
abbrev pub is_unreserved : ℕ → Bool
is_unreserved b =
    (nat_le 65 b && nat_le b 90) || ((nat_le 97 b && nat_le b 122) || ((nat_le 48 b && nat_le b 57)
    || ((b == 46 || b == 45) || (b == 95 || b == 126))))

-- `%` (37) and the two hexadecimal digits of a byte, in upper case (RFC 3986, section 2.1).
abbrev pub escape : ℕ → List ℕ
escape b = 37 ∷ digit_glyph true (b / 16) ∷ digit_glyph true (b % 16) ∷ []

-- A byte as it is, or its escape.
abbrev pub escaped_byte : ℕ → List ℕ
escaped_byte b = if is_unreserved b then b ∷ [] else escape b

-- A value with each byte escaped separately (the Rust crate's `encode`).
abbrev pub escaped : List ℕ → List ℕ
escaped bs = flat_map escaped_byte bs

escaped_example : escaped (codes "1, a/b") ≡ codes "1%2C%20a%2Fb"
escaped_example = refl
