-- An escaped value contains only unreserved bytes and `%`, and decodes to the value.
use Rattle.std.proofs.Common.{◌≡◌, ℕ, ◌/◌, ◌%◌, ◌<◌, Bool, true, List, [], ◌∷◌, ◌++◌, refl, ap, subst, ◌∙◌, arith, inl, inr}
use Rattle.std.specs.Prelude.{◌&&◌, ◌||◌, ◌==◌, nat_lt, IsUtf8}
use Rattle.std.specs.List.{list_all}
use Rattle.std.specs.Fmt.{digit_glyph}
use Rattle.std.proofs.lemmas.Bool.{cases_Bool, and_parts, and_from, ltb-true, cond_both, cond-true, cond-false, agree_below_at}
use Rattle.std.proofs.lemmas.Bool.Decides.{nat_tests}
use lib.Utf8.{scalar, scalars, encode, encodes, scalar_cases}
use Rattle.percent_encoding.specs.Percent.{percent_encode_byte, percent_decode}
use Rattle.percent_encoding.proofs.PercentLemmas.{percent_decode-nil, percent_decode-percent_encode_byte, percent_decode_not_percent}
use Rattle.otel_context.proofs.shared.BaggageEscapes.{no_percent}
use Rattle.otel_context.specs.BaggageText.{is_unreserved, escape, escaped_byte, escaped}
use Rattle.otel_base.proofs.shared.Searches.{list_all-both}

abbrev is_byte : ℕ → Bool
is_byte b = nat_lt b 256

-- ---- UTF-8 is bytes

one_char : (c : ℕ) → scalar c ≡ true → list_all is_byte (encode c) ≡ true
unfolding encode
one_char c h = elim (scalar_cases c h) [
  | inl low ↦ grind (arith, nat_tests)
  | inr high ↦ grind (arith, nat_tests)
]

all_chars : (cs : List ℕ) → scalars cs ≡ true → list_all is_byte (encodes cs) ≡ true
all_chars [] h = refl
all_chars (c ∷ cs) h =
    let a = and_parts (scalar c) (scalars cs) h in
    list_all-both is_byte (encode c) (encodes cs) (one_char c a.0) (all_chars cs a.1)

utf8_bytes : (bs : List ℕ) → IsUtf8 bs → list_all is_byte bs ≡ true
utf8_bytes bs u = subst (λ (x : List ℕ). list_all is_byte x ≡ true) u.1.1 (all_chars u.0 u.1.0)

-- ---- the bytes of an escaped value

abbrev pub is_written : ℕ → Bool
is_written b = is_unreserved b || b == 37

glyph_written : (d : ℕ) → d < 16 → is_written (digit_glyph true d) ≡ true
glyph_written d h = agree_below_at (λ (x : ℕ). is_written (digit_glyph true x)) (λ (x : ℕ). true) 16 d refl h

escape_written : (b : ℕ) → b < 256 → list_all is_written (escape b) ≡ true
escape_written b h =
    and_from (is_written (digit_glyph true (b / 16))) (is_written (digit_glyph true (b % 16)) && true)
    (glyph_written (b / 16) (omega arith))
    (and_from (is_written (digit_glyph true (b % 16))) true (glyph_written (b % 16) (omega arith)) refl)

plain_written : (b : ℕ) → is_unreserved b ≡ true → list_all is_written (b ∷ []) ≡ true
plain_written b t = rw t refl

byte_written : (b : ℕ) → b < 256 → list_all is_written (escaped_byte b) ≡ true
byte_written b h = cond_both (is_unreserved b) (b ∷ []) (escape b) (λ (x : List ℕ). list_all is_written x ≡ true) (λ t. plain_written b t) (λ f. escape_written b h)

bytes_written : (bs : List ℕ) → list_all is_byte bs ≡ true → list_all is_written (escaped bs) ≡ true
bytes_written [] h = refl
bytes_written (b ∷ bs) h =
    let a = and_parts (is_byte b) (list_all is_byte bs) h in
    list_all-both is_written (escaped_byte b) (escaped bs) (byte_written b (ltb-true b 256 a.0)) (bytes_written bs a.1)

pub all_written : (bs : List ℕ) → IsUtf8 bs → list_all is_written (escaped bs) ≡ true
all_written bs u = bytes_written bs (utf8_bytes bs u)

-- ---- decoding

escape_is : (b : ℕ) → b < 256 → escape b ≡ percent_encode_byte b
unfolding percent_encode_byte
escape_is b h =
    let e : b / 16 ≡ b / 16 % 16 = omega arith in
    ap (λ (d : ℕ). 37 ∷ digit_glyph true d ∷ digit_glyph true (b % 16) ∷ []) e

bytes_decoded : (bs : List ℕ) → list_all is_byte bs ≡ true → percent_decode (escaped bs) ≡ bs
bytes_decoded [] h = percent_decode-nil
bytes_decoded (b ∷ bs) h =
    let a = and_parts (is_byte b) (list_all is_byte bs) h in
    let small = ltb-true b 256 a.0 in
    let rest = ap (λ (x : List ℕ). b ∷ x) (bytes_decoded bs a.1) in
    elim (cases_Bool (is_unreserved b)) [
      | inl t ↦ ap (λ (x : List ℕ). percent_decode (x ++ escaped bs)) (cond-true (is_unreserved b) (b ∷ []) (escape b) t)
          ∙ percent_decode_not_percent b (escaped bs) (no_percent b t) ∙ rest
      | inr f ↦ ap (λ (x : List ℕ). percent_decode (x ++ escaped bs)) (cond-false (is_unreserved b) (b ∷ []) (escape b) f ∙ escape_is b small)
          ∙ percent_decode-percent_encode_byte b (escaped bs) small ∙ rest
    ]

pub decoded : (bs : List ℕ) → IsUtf8 bs → percent_decode (escaped bs) ≡ bs
decoded bs u = bytes_decoded bs (utf8_bytes bs u)
