-- Escapes determine their text; which bytes they contain.
use Rattle.std.proofs.Common.{◌≡◌, ◌≢◌, ℕ, ◌*◌, ◌/◌, ◌%◌, ◌≤◌, true, false, List, [], ◌∷◌, ◌++◌}
use Rattle.std.proofs.Common.{length, refl, sym, ap, ◌∙◌, ⊎_elim, arith}
use Rattle.std.specs.Prelude.{not, ◌==◌}
use Rattle.std.specs.List.{list_all}
use Rattle.std.proofs.lemmas.Bool.{cases_Bool, and_from, cond-true, cond-false, cond_both}
use Rattle.std.proofs.lemmas.Bool.Decides.{nat_tests}
use Rattle.std.specs.Fmt.{digit_glyph}
use Rattle.otel_context.specs.BaggageText.{is_unreserved, escape, escaped_byte, escaped}
use Rattle.otel_context.proofs.BaggageCuts.{Lacks}
use Rattle.otel_base.proofs.shared.Searches.{list_all-both}

-- ---- one byte

pub escaped_plain : (b : ℕ) (bs : List ℕ) → is_unreserved b ≡ true → escaped (b ∷ bs) ≡ b ∷ escaped bs
escaped_plain b bs e = ap (λ (x : List ℕ). x ++ escaped bs) (cond-true (is_unreserved b) (b ∷ []) (escape b) e)

pub escaped_other : (b : ℕ) (bs : List ℕ) → is_unreserved b ≡ false → escaped (b ∷ bs) ≡ 37 ∷ digit_glyph true (b / 16) ∷ digit_glyph true (b % 16) ∷ escaped bs
escaped_other b bs e = ap (λ (x : List ℕ). x ++ escaped bs) (cond-false (is_unreserved b) (b ∷ []) (escape b) e)

digit_apart : (d e : ℕ) → digit_glyph true d ≡ digit_glyph true e → d ≡ e
digit_apart d e h = grind (arith, nat_tests)

pub no_percent : (b : ℕ) → is_unreserved b ≡ true → b ≢ 37
no_percent b h = grind (arith, nat_tests)

same_byte : (b c : ℕ) → b / 16 ≡ c / 16 → b % 16 ≡ c % 16 → b ≡ c
same_byte b c h k = omega arith

-- ---- texts of equal escapes are equal

pub escaped-injective : (xs ys : List ℕ) → escaped xs ≡ escaped ys → xs ≡ ys
escaped-injective [] [] h = refl
escaped-injective [] (y ∷ ys) h =
    ⊎_elim
    (λ f. let i : [] ≡ y ∷ escaped ys = h ∙ escaped_plain y ys f in cc)
    (λ f. let i : [] ≡ 37 ∷ digit_glyph true (y / 16) ∷ digit_glyph true (y % 16) ∷ escaped ys = h ∙ escaped_other y ys f in cc)
    (cases_Bool (is_unreserved y))
escaped-injective (x ∷ xs) [] h =
    ⊎_elim
    (λ f. let i : x ∷ escaped xs ≡ [] = sym (escaped_plain x xs f) ∙ h in cc)
    (λ f. let i : 37 ∷ digit_glyph true (x / 16) ∷ digit_glyph true (x % 16) ∷ escaped xs ≡ [] = sym (escaped_other x xs f) ∙ h in cc)
    (cases_Bool (is_unreserved x))
escaped-injective (x ∷ xs) (y ∷ ys) h =
    ⊎_elim
    (λ f. ⊎_elim
    (λ g.
    let i : x ∷ escaped xs ≡ y ∷ escaped ys = sym (escaped_plain x xs f) ∙ h ∙ escaped_plain y ys g in
    let r : escaped xs ≡ escaped ys = cc in
    let s = escaped-injective xs ys r in
    cc)
    (λ g.
    let i : x ∷ escaped xs ≡ 37 ∷ digit_glyph true (y / 16) ∷ digit_glyph true (y % 16) ∷ escaped ys = sym (escaped_plain x xs f) ∙ h ∙ escaped_other y ys g in
    let j : x ≡ 37 = cc in
    absurd (no_percent x f j))
    (cases_Bool (is_unreserved y)))
    (λ f. ⊎_elim
    (λ g.
    let i : 37 ∷ digit_glyph true (x / 16) ∷ digit_glyph true (x % 16) ∷ escaped xs ≡ y ∷ escaped ys = sym (escaped_other x xs f) ∙ h ∙ escaped_plain y ys g in
    let j : y ≡ 37 = cc in
    absurd (no_percent y g j))
    (λ g.
    let i : 37 ∷ digit_glyph true (x / 16) ∷ digit_glyph true (x % 16) ∷ escaped xs ≡ 37 ∷ digit_glyph true (y / 16) ∷ digit_glyph true (y % 16) ∷ escaped ys = sym (escaped_other x xs f) ∙ h ∙ escaped_other y ys g in
    let high : digit_glyph true (x / 16) ≡ digit_glyph true (y / 16) = cc in
    let low : digit_glyph true (x % 16) ≡ digit_glyph true (y % 16) = cc in
    let r : escaped xs ≡ escaped ys = cc in
    let s = escaped-injective xs ys r in
    let b = same_byte x y (digit_apart (x / 16) (y / 16) high) (digit_apart (x % 16) (y % 16) low) in
    cc)
    (cases_Bool (is_unreserved y)))
    (cases_Bool (is_unreserved x))

-- ---- escapes contain neither a comma nor a semicolon

plain_no_comma : (b : ℕ) → is_unreserved b ≡ true → not (b == 44) ≡ true
plain_no_comma b h = grind (arith, nat_tests)

plain_no_semicolon : (b : ℕ) → is_unreserved b ≡ true → not (b == 59) ≡ true
plain_no_semicolon b h = grind (arith, nat_tests)

digit_no_comma : (d : ℕ) → not (digit_glyph true d == 44) ≡ true
digit_no_comma d = grind (arith, nat_tests)

digit_no_semicolon : (d : ℕ) → not (digit_glyph true d == 59) ≡ true
digit_no_semicolon d = grind (arith, nat_tests)

escaped_lacks : (c : ℕ) → ((b : ℕ) → is_unreserved b ≡ true → not (b == c) ≡ true) → ((d : ℕ) → not (digit_glyph true d == c) ≡ true) → not (37 == c) ≡ true → (bs : List ℕ) → Lacks c (escaped bs)
escaped_lacks c plain digit percent [] = refl
escaped_lacks c plain digit percent (b ∷ bs) =
    let rest = escaped_lacks c plain digit percent bs in
    let p = λ (x : ℕ). not (x == c) in
    list_all-both p (escaped_byte b) (escaped bs)
    (cond_both (is_unreserved b) (b ∷ []) (escape b) (λ (xs : List ℕ). list_all p xs ≡ true)
    (λ e. and_from (p b) true (plain b e) refl)
    (λ e. and_from (p 37) (list_all p (digit_glyph true (b / 16) ∷ digit_glyph true (b % 16) ∷ [])) percent (and_from (p (digit_glyph true (b / 16))) (list_all p (digit_glyph true (b % 16) ∷ [])) (digit (b / 16)) (and_from (p (digit_glyph true (b % 16))) true (digit (b % 16)) refl))))
    rest

pub escaped_no_comma : (bs : List ℕ) → Lacks 44 (escaped bs)
escaped_no_comma = escaped_lacks 44 plain_no_comma digit_no_comma refl

pub escaped_no_semicolon : (bs : List ℕ) → Lacks 59 (escaped bs)
escaped_no_semicolon = escaped_lacks 59 plain_no_semicolon digit_no_semicolon refl

-- ---- at most three bytes for one

pub length-escaped : (bs : List ℕ) → length (escaped bs) ≤ 3 * length bs
length-escaped [] = omega arith
length-escaped (b ∷ bs) =
    let rest = length-escaped bs in
    ⊎_elim
    (λ f. let i = ap length (escaped_plain b bs f) in omega arith)
    (λ f. let i = ap length (escaped_other b bs f) in omega arith)
    (cases_Bool (is_unreserved b))
