-- The spaces at the end of a line.
use Rattle.std.proofs.Common.{◌≡◌, ℕ, ◌+◌, ◌<◌, Bool, false, ◌&&◌, List, [], ◌∷◌, ◌++◌, length, take, get_or, refl, sym, ap, ◌∙◌, arith, length-append, append_assoc}
use Rattle.std.specs.Prelude.{◌==◌, if◌then◌else◌}
use Rattle.std.proofs.lemmas.Bool.Decides.{nat_tests}
use Rattle.std.proofs.lemmas.Grind.{common_steps}
use Rattle.std.proofs.lemmas.List.{take_more, append-nil}
use Rattle.std.proofs.lemmas.Str.{encodes-append}
use Rattle.std.specs.Prelude.{encode_utf8, encode_utf8_all}
use Rattle.otel_waterfall.specs.Picture.{without_last_spaces}

-- a space at the end is dropped
last_space : (xs : List ℕ) → without_last_spaces (xs ++ 32 ∷ []) ≡ without_last_spaces xs
last_space [] = refl
last_space (c ∷ cs) = ap (λ (rest : List ℕ). if c == 32 && length rest == 0 then [] else c ∷ rest) (last_space cs)

-- another character at the end keeps all
last_other : (xs : List ℕ) (c : ℕ) → (c == 32) ≡ false → without_last_spaces (xs ++ c ∷ []) ≡ xs ++ c ∷ []
last_other [] c h = ap (λ (b : Bool). if b && length {A = ℕ} [] == 0 then [] else c ∷ []) h
last_other (x ∷ xs) c h =
    let rest = last_other xs c h in
    grind (arith, common_steps, nat_tests, rest, length-append xs (c ∷ []))

pub kept_other : (line : List ℕ) (i d : ℕ) → i < length line → (get_or line i d == 32) ≡ false → take (i + 1) line ≡ without_last_spaces (take (i + 1) line)
kept_other line i d below h =
    take_more line i d below ∙ sym (last_other (take i line) (get_or line i d) h) ∙ ap without_last_spaces (sym (take_more line i d below))

pub kept_space : (line : List ℕ) (i d k : ℕ) → i < length line → get_or line i d ≡ 32 → take k line ≡ without_last_spaces (take i line) → take k line ≡ without_last_spaces (take (i + 1) line)
kept_space line i d k below h kept =
    kept ∙ sym (last_space (take i line)) ∙ ap (λ (c : ℕ). without_last_spaces (take i line ++ c ∷ [])) (sym h) ∙ ap without_last_spaces (sym (take_more line i d below))

-- one more character of a line
pub line_more : (line : List ℕ) (i d : ℕ) (t : List ℕ) → i < length line → (t ++ encode_utf8_all (take i line)) ++ encode_utf8 (get_or line i d) ≡ t ++ encode_utf8_all (take (i + 1) line)
line_more line i d t below =
    append_assoc t (encode_utf8_all (take i line)) (encode_utf8 (get_or line i d))
    ∙ ap (λ (x : List ℕ). t ++ x)
    (ap (λ (x : List ℕ). encode_utf8_all (take i line) ++ x) (sym (append-nil (encode_utf8 (get_or line i d))))
    ∙ sym (encodes-append (take i line) (get_or line i d ∷ []))
    ∙ ap encode_utf8_all (sym (take_more line i d below)))
