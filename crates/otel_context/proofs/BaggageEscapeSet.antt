-- The escapes of `percent_encoding` with this set are the ones of `specs`.
use Rattle.std.proofs.Common.{◌≡◌, ℕ, ◌/◌, ◌%◌, ◌<◌, true, List, [], ◌∷◌, ◌++◌, All, refl, sym, ap}
use Rattle.std.proofs.Common.{◌∙◌, ⊎_elim, arith}
use Rattle.std.specs.Prelude.{not}
use Rattle.std.proofs.lemmas.Bool.{cases_Bool, agree_below_at, not_from_true, not_from_false}
use Rattle.std.proofs.lemmas.List.Elements.{All-head, All-tail}
use Rattle.percent_encoding.proofs.PercentLemmas.{IsByte, percent_encode-nil}
use Rattle.percent_encoding.proofs.PercentLemmas.{percent_encode_escaped, percent_encode_kept}
use Rattle.percent_encoding.proofs.OnLiterals.{percent_encoding_on_literals}
use Rattle.percent_encoding.specs.AsciiSet.{should_percent_encode}
use Rattle.percent_encoding.specs.Percent.{percent_encode, percent_encode_byte}
use Rattle.std.specs.Fmt.{digit_glyph}
use Rattle.otel_context.specs.declared.baggage.header.TheConstants.{ESCAPED}
use Rattle.otel_context.specs.BaggageText.{is_unreserved, escape, escaped}
use Rattle.otel_context.proofs.shared.BaggageEscapes.{escaped_plain, escaped_other}

agrees : (b : ℕ) → b < 256 → should_percent_encode ESCAPED b ≡ not (is_unreserved b)
unfolding percent_encoding_on_literals
agrees b h = agree_below_at (should_percent_encode ESCAPED) (λ c. not (is_unreserved c)) 256 b refl h

byte_is : (b : ℕ) → b < 256 → percent_encode_byte b ≡ escape b
unfolding percent_encode_byte
byte_is b h =
    let e : b / 16 % 16 ≡ b / 16 = omega arith in
    ap (λ d. 37 ∷ digit_glyph true d ∷ digit_glyph true (b % 16) ∷ []) e

pub escapes_are : (bs : List ℕ) → All IsByte bs → percent_encode ESCAPED bs ≡ escaped bs
escapes_are [] h = percent_encode-nil ESCAPED
escapes_are (b ∷ bs) h =
    let small = All-head IsByte b bs h in
    let rest = escapes_are bs (All-tail IsByte b bs h) in
    ⊎_elim
    (λ e. percent_encode_kept ESCAPED b bs (agrees b small ∙ not_from_true (is_unreserved b) e) ∙ ap (λ (x : List ℕ). b ∷ x) rest ∙ sym (escaped_plain b bs e))
    (λ e.
    percent_encode_escaped ESCAPED b bs (agrees b small ∙ not_from_false (is_unreserved b) e)
    ∙ ap (λ (x : List ℕ). x ++ percent_encode ESCAPED bs) (byte_is b small)
    ∙ ap (λ (x : List ℕ). 37 ∷ digit_glyph true (b / 16) ∷ digit_glyph true (b % 16) ∷ x) rest
    ∙ sym (escaped_other b bs e))
    (cases_Bool (is_unreserved b))
