-- Trimming a trimmed text doesn't change it.
use Rattle.std.proofs.Common.{◌≡◌, ℕ, true, List, [], ◌∷◌, length, refl, sym, ap, ◌∙◌, ⊎_elim}
use Rattle.std.specs.Prelude.{◌&&◌, ◌==◌}
use Rattle.std.specs.Char.{is_whitespace}
use Rattle.std.specs.Str.{IsUtf8, chars, encode_utf8_all, all_scalars, trim, trim_start, trim_end}
use Rattle.std.specs.Str.{skip_leading_whitespace as skip, drop_trailing_whitespace as shed}
use Rattle.std.proofs.lemmas.Str.{chars-encodes}
use Rattle.std.proofs.lemmas.Bool.{cases_Bool, and_parts, and_from, and_left, cond-true, cond-false}
use Rattle.otel_context.specs.BaggageText.{IsTrimmed}

skip_scalars : (cs : List ℕ) → all_scalars cs ≡ true → all_scalars (skip cs) ≡ true
skip_scalars [] h = h
skip_scalars (c ∷ cs) h =
    ⊎_elim
    (λ e. rw (cond-true (is_whitespace c) (skip cs) (c ∷ cs) e) (skip_scalars cs (and_parts _ (all_scalars cs) h).1))
    (λ e. rw (cond-false (is_whitespace c) (skip cs) (c ∷ cs) e) h)
    (cases_Bool (is_whitespace c))

shed_scalars : (cs : List ℕ) → all_scalars cs ≡ true → all_scalars (shed cs) ≡ true
shed_scalars [] h = h
shed_scalars (c ∷ cs) h =
    let p = and_parts _ (all_scalars cs) h in
    ⊎_elim
    (λ e. rw (cond-true (is_whitespace c && length (shed cs) == 0) [] (c ∷ shed cs) e) refl)
    (λ e. rw (cond-false (is_whitespace c && length (shed cs) == 0) [] (c ∷ shed cs) e) (and_from _ (all_scalars (shed cs)) p.0 (shed_scalars cs p.1)))
    (cases_Bool (is_whitespace c && length (shed cs) == 0))

shed_twice : (cs : List ℕ) → shed (shed cs) ≡ shed cs
shed_twice [] = refl
shed_twice (c ∷ cs) =
    ⊎_elim
    (λ e. rw (cond-true (is_whitespace c && length (shed cs) == 0) [] (c ∷ shed cs) e) refl)
    (λ e. rw (cond-false (is_whitespace c && length (shed cs) == 0) [] (c ∷ shed cs) e, shed_twice cs, cond-false (is_whitespace c && length (shed cs) == 0) [] (c ∷ shed cs) e) refl)
    (cases_Bool (is_whitespace c && length (shed cs) == 0))

skip_shed : (cs : List ℕ) → skip (shed (skip cs)) ≡ shed (skip cs)
skip_shed [] = refl
skip_shed (c ∷ cs) =
    ⊎_elim
    (λ e. rw (cond-true (is_whitespace c) (skip cs) (c ∷ cs) e) (skip_shed cs))
    (λ e.
    let f = and_left (is_whitespace c) (length (shed cs) == 0) e in
    rw (cond-false (is_whitespace c) (skip cs) (c ∷ cs) e, cond-false (is_whitespace c && length (shed cs) == 0) [] (c ∷ shed cs) f, cond-false (is_whitespace c) (skip (shed cs)) (c ∷ shed cs) e) refl)
    (cases_Bool (is_whitespace c))

trim_start_is : (bs : List ℕ) → trim_start bs ≡ encode_utf8_all (skip (chars bs))
unfolding trim_start
trim_start_is bs = refl

trim_end_is : (bs : List ℕ) → trim_end bs ≡ encode_utf8_all (shed (chars bs))
unfolding trim_end
trim_end_is bs = refl

trim_encoded : (cs : List ℕ) → all_scalars cs ≡ true → trim (encode_utf8_all cs) ≡ encode_utf8_all (shed (skip cs))
trim_encoded cs h =
    ap trim_end (trim_start_is (encode_utf8_all cs) ∙ ap (λ x. encode_utf8_all (skip x)) (chars-encodes cs h))
    ∙ trim_end_is (encode_utf8_all (skip cs))
    ∙ ap (λ x. encode_utf8_all (shed x)) (chars-encodes (skip cs) (skip_scalars cs h))

pub trim_twice : (bs : List ℕ) → IsUtf8 bs → IsTrimmed (trim bs)
trim_twice bs (cs, (h, e)) =
    let one : trim bs ≡ encode_utf8_all (shed (skip cs)) = ap trim (sym e) ∙ trim_encoded cs h in
    ap trim one
    ∙ trim_encoded (shed (skip cs)) (shed_scalars (skip cs) (skip_scalars cs h))
    ∙ ap encode_utf8_all (ap shed (skip_shed cs) ∙ shed_twice (skip cs))
    ∙ sym one

pub cut_nil : IsTrimmed []
cut_nil = trim_encoded [] refl
