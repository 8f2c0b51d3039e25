-- The text without the blanks at its ends, and the result of the trimming methods of `str` with the
-- two blanks as the pattern.
use Rattle.std.proofs.Common.{◌≡◌, ℕ, ◌+◌, ◌-◌, ◌<◌, Bool, true, false, eqb, ◌&&◌, List, [], ◌∷◌, ◌++◌, length, take, drop, Option, Some, None, refl, sym, ap, ◌∙◌, arith, inl, inr}
use Rattle.std.specs.Prelude.{IfSome, ◌⊎◌}
use Rattle.std.specs.List.{list_all, list_any}
use Rattle.std.specs.Char.{IsScalar, char_set_contains}
use Rattle.std.specs.Str.Pattern.{HasPassingCharAt, FindsPrefixBy, FindsSuffixBy, CutsPrefixes, CutsSuffixes, IsTrimStartMatches, IsTrimEndMatches}
use Rattle.std.proofs.Math.Bool.{and-true}
use Rattle.std.proofs.lemmas.Bool.{cases_Bool, or_cases, or_parts, eqb-true, and_parts, false≢true}
use Rattle.std.proofs.lemmas.Bool.Decides.{nat_tests}
use Rattle.std.proofs.lemmas.List.{take-append-drop, drop_all}
use Rattle.std.proofs.lemmas.List.Folds.{list_all-append}
use Rattle.std.proofs.lemmas.Str.{encode_ascii, len_utf8_bounds}
use Rattle.otel_base.specs.Blanks.{is_blank, IsBlanks, ends_in_blank, cut_front, cut_end, cut_blanks}

pub blank_is : (b : ℕ) → is_blank b ≡ true → (b ≡ 32) ⊎ (b ≡ 9)
blank_is b e = elim (or_cases (eqb b 32) (eqb b 9) e) [ inl p ↦ inl (eqb-true b 32 p) | inr p ↦ inr (eqb-true b 9 p) ]

pub blank_small : (b : ℕ) → is_blank b ≡ true → b < 33
blank_small b e = elim (blank_is b e) [ inl p ↦ omega arith | inr p ↦ omega arith ]

scalar_small : (b : ℕ) → b < 33 → IsScalar b
scalar_small b h = grind (arith, nat_tests)

blanks_contain : (c : ℕ) → char_set_contains (32 ∷ 9 ∷ []) c ≡ is_blank c
blanks_contain c = grind (arith, nat_tests)

-- ---- the front

pub cut_front-blank : (b : ℕ) (bs : List ℕ) → is_blank b ≡ true → cut_front (b ∷ bs) ≡ cut_front bs
cut_front-blank b bs e = rw e refl

pub cut_front-kept : (b : ℕ) (bs : List ℕ) → is_blank b ≡ false → cut_front (b ∷ bs) ≡ b ∷ bs
cut_front-kept b bs e = rw e refl

-- the two blanks as a pattern
abbrev pub Prefixes : List ℕ → Option ℕ → Type 0
Prefixes s r = (k : ℕ → Bool) → ((c : ℕ) → char_set_contains (32 ∷ 9 ∷ []) c ≡ k c) → FindsPrefixBy k s r

abbrev pub Suffixes : List ℕ → Option ℕ → Type 0
Suffixes s r = (k : ℕ → Bool) → ((c : ℕ) → char_set_contains (32 ∷ 9 ∷ []) c ≡ k c) → FindsSuffixBy k s r

front_step : (m : List ℕ) (n : ℕ) → HasPassingCharAt is_blank m 0 n → cut_front m ≡ cut_front (drop n m)
front_step m n h =
    let small = blank_small h.0 h.1 in
    let spelled : m ≡ h.0 ∷ drop n m = h.2.split ∙ ap (λ (x : List ℕ). x ++ drop n m) (encode_ascii h.0 (omega arith)) in
    ap cut_front spelled ∙ cut_front-blank h.0 (drop n m) h.1

front_cuts : (s : List ℕ) (ns : List ℕ) (r : List ℕ) → CutsPrefixes Prefixes s ns r → cut_front r ≡ cut_front s
front_cuts s [] r e = ap cut_front e
front_cuts s (n ∷ ns) r h = ap cut_front h.3 ∙ sym (front_step h.0 n (h.2 is_blank blanks_contain)) ∙ front_cuts s ns h.0 h.1

front_done : (r : List ℕ) (o : Option ℕ) → FindsPrefixBy is_blank r o → IfSome o (λ n. n ≡ 0) → cut_front r ≡ r
front_done [] o h z = refl
front_done (b ∷ bs) None h z =
    elim (cases_Bool (is_blank b)) [
      | inl t ↦ let small = blank_small b t in
          absurd (false≢true (sym (h b bs (scalar_small b small) (ap (λ (x : List ℕ). x ++ bs) (sym (encode_ascii b (omega arith))))) ∙ t))
      | inr f ↦ cut_front-kept b bs f
    ]
front_done (b ∷ bs) (Some n) h z = let l = len_utf8_bounds h.0 in let e = h.2.ends in absurd (omega arith)

pub front_from_trim : (s r : List ℕ) → IsTrimStartMatches Prefixes s r → r ≡ cut_front s
front_from_trim s r h = sym (front_done r h.1.0 (h.1.1 is_blank blanks_contain) h.1.2) ∙ front_cuts s h.0.0 r h.0.1

-- ---- the end

all_blank_push : (xs : List ℕ) (b : ℕ) → is_blank b ≡ true → list_all is_blank (xs ++ b ∷ []) ≡ list_all is_blank xs
all_blank_push [] b e = rw e refl
all_blank_push (x ∷ xs) b e = ap (λ (t : Bool). is_blank x && t) (all_blank_push xs b e)

pub cut_end_push : (xs : List ℕ) (b : ℕ) → is_blank b ≡ true → cut_end (xs ++ b ∷ []) ≡ cut_end xs
cut_end_push [] b e = rw e refl
cut_end_push (x ∷ xs) b e = rw (all_blank_push xs b e, cut_end_push xs b e) refl

pub cut_end-append : (xs ys : List ℕ) → list_all is_blank ys ≡ true → cut_end (xs ++ ys) ≡ cut_end xs
cut_end-append [] [] e = refl
cut_end-append [] (y ∷ ys) e = rw e refl
cut_end-append (x ∷ xs) ys e =
    let t : list_all is_blank (xs ++ ys) ≡ list_all is_blank xs = list_all-append is_blank xs ys ∙ ap (λ (t : Bool). list_all is_blank xs && t) e ∙ and-true (list_all is_blank xs) in
    rw (t, cut_end-append xs ys e) refl

-- a nonempty text of only blanks ends in a blank
ends_from_all : (b : ℕ) (bs : List ℕ) → is_blank b ≡ true → list_all is_blank bs ≡ true → ends_in_blank (b ∷ bs) ≡ true
ends_from_all b [] e h = e
ends_from_all b (c ∷ bs) e h = let p = and_parts (is_blank c) (list_all is_blank bs) h in ends_from_all c bs p.0 p.1

pub cut_end-kept : (bs : List ℕ) → ends_in_blank bs ≡ false → cut_end bs ≡ bs
cut_end-kept [] h = refl
cut_end-kept (b ∷ []) h = rw h refl
cut_end-kept (b ∷ c ∷ bs) h =
    elim (cases_Bool (is_blank b && list_all is_blank (c ∷ bs))) [
      | inl t ↦ let p = and_parts (is_blank b) (list_all is_blank (c ∷ bs)) t in absurd (false≢true (sym h ∙ ends_from_all b (c ∷ bs) p.0 p.1))
      | inr f ↦ rw f (ap (λ (x : List ℕ). b ∷ x) (cut_end-kept (c ∷ bs) h))
    ]

-- a text that ends in a blank has that blank at its end
last_blank : (bs : List ℕ) → ends_in_blank bs ≡ true → (front : List ℕ) × (b : ℕ) × (bs ≡ front ++ b ∷ []) × (is_blank b ≡ true)
last_blank [] h = absurd (false≢true h)
last_blank (b ∷ []) h = ([], b, refl, h)
last_blank (b ∷ c ∷ bs) h = let l = last_blank (c ∷ bs) h in (b ∷ l.0, l.1, ap (λ (x : List ℕ). b ∷ x) l.2, l.3)

end_step : (m : List ℕ) (n : ℕ) → HasPassingCharAt is_blank m (length m - n) (length m) → cut_end m ≡ cut_end (take (length m - n) m)
end_step m n h =
    let small = blank_small h.0 h.1 in
    let rest : drop (length m) m ≡ [] = drop_all (length m) m (omega arith) in
    let tail : drop (length m - n) m ≡ h.0 ∷ [] = h.2.split ∙ ap (λ (x : List ℕ). x ++ drop (length m) m) (encode_ascii h.0 (omega arith)) ∙ ap (λ (x : List ℕ). h.0 ∷ x) rest in
    let spelled : m ≡ take (length m - n) m ++ h.0 ∷ [] = sym (take-append-drop (length m - n) m) ∙ ap (λ (x : List ℕ). take (length m - n) m ++ x) tail in
    ap cut_end spelled ∙ cut_end_push (take (length m - n) m) h.0 h.1

end_cuts : (s : List ℕ) (ns : List ℕ) (r : List ℕ) → CutsSuffixes Suffixes s ns r → cut_end r ≡ cut_end s
end_cuts s [] r e = ap cut_end e
end_cuts s (n ∷ ns) r h = ap cut_end h.3 ∙ sym (end_step h.0 n (h.2 is_blank blanks_contain)) ∙ end_cuts s ns h.0 h.1

end_done : (r : List ℕ) (o : Option ℕ) → FindsSuffixBy is_blank r o → IfSome o (λ n. n ≡ 0) → cut_end r ≡ r
end_done r None h z =
    elim (cases_Bool (ends_in_blank r)) [
      | inl t ↦ let l = last_blank r t in let small = blank_small l.1 l.3 in
          absurd (false≢true (sym (h l.1 l.0 (scalar_small l.1 small) (l.2 ∙ ap (λ (x : List ℕ). l.0 ++ x) (sym (encode_ascii l.1 (omega arith))))) ∙ l.3))
      | inr f ↦ cut_end-kept r f
    ]
end_done r (Some n) h z = let l = len_utf8_bounds h.0 in let e = h.2.ends in absurd (omega arith)

pub end_from_trim : (s r : List ℕ) → IsTrimEndMatches Suffixes s r → r ≡ cut_end s
end_from_trim s r h = sym (end_done r h.1.0 (h.1.1 is_blank blanks_contain) h.1.2) ∙ end_cuts s h.0.0 r h.0.1

-- ---- a text between blanks

pub cut_front-append : (before bs : List ℕ) → IsBlanks before → cut_front (before ++ bs) ≡ cut_front bs
cut_front-append [] bs h = refl
cut_front-append (b ∷ before) bs h = let p = and_parts (is_blank b) (list_all is_blank before) h in cut_front-blank b (before ++ bs) p.0 ∙ cut_front-append before bs p.1

pub cut_front-blanks : (bs : List ℕ) → IsBlanks bs → cut_front bs ≡ []
cut_front-blanks [] h = refl
cut_front-blanks (b ∷ bs) h = let p = and_parts (is_blank b) (list_all is_blank bs) h in cut_front-blank b bs p.0 ∙ cut_front-blanks bs p.1

front_split : (bs : List ℕ) → (before : List ℕ) × IsBlanks before × (bs ≡ before ++ cut_front bs)
front_split [] = ([], refl, refl)
front_split (b ∷ bs) =
    elim (cases_Bool (is_blank b)) [
      | inl t ↦ let r = front_split bs in (b ∷ r.0, rw t r.1, rw t (ap (λ (x : List ℕ). b ∷ x) r.2))
      | inr f ↦ ([], refl, sym (cut_front-kept b bs f))
    ]

pub end_split : (bs : List ℕ) → (after : List ℕ) × IsBlanks after × (bs ≡ cut_end bs ++ after)
end_split [] = ([], refl, refl)
end_split (b ∷ bs) =
    elim (cases_Bool (is_blank b && list_all is_blank bs)) [
      | inl t ↦ (b ∷ bs, t, rw t refl)
      | inr f ↦ let r = end_split bs in (r.0, r.1, rw f (ap (λ (x : List ℕ). b ∷ x) r.2))
    ]

blanks_from_nothing : (bs : List ℕ) → cut_end bs ≡ [] → IsBlanks bs
blanks_from_nothing bs e = let r = end_split bs in rw (r.2, e) r.1

end_of_cut : (b : ℕ) (bs rest : List ℕ) → cut_end bs ≡ rest → (is_blank b && list_all is_blank bs) ≡ false → ends_in_blank rest ≡ false → ends_in_blank (b ∷ rest) ≡ false
end_of_cut b bs [] e f h =
    elim (cases_Bool (is_blank b)) [
      | inl t ↦ absurd (false≢true (sym f ∙ rw (t, blanks_from_nothing bs e) refl))
      | inr g ↦ g
    ]
end_of_cut b bs (c ∷ rest) e f h = h

pub cut_end-ends : (bs : List ℕ) → ends_in_blank (cut_end bs) ≡ false
cut_end-ends [] = refl
cut_end-ends (b ∷ bs) =
    elim (cases_Bool (is_blank b && list_all is_blank bs)) [
      | inl t ↦ rw t refl
      | inr f ↦ rw f (end_of_cut b bs (cut_end bs) refl f (cut_end-ends bs))
    ]

pub blank_piece : (piece : List ℕ) → IsBlanks piece → cut_blanks piece ≡ []
blank_piece piece h = ap cut_end (cut_front-blanks piece h)

-- a text is its cut text between blanks
pub piece_split : (piece : List ℕ) → (before : List ℕ) × (after : List ℕ) × IsBlanks before × IsBlanks after × (piece ≡ before ++ (cut_blanks piece ++ after))
piece_split piece =
    let f = front_split piece in let e = end_split (cut_front piece) in
    (f.0, e.0, f.1, e.1, f.2 ∙ ap (λ (x : List ℕ). f.0 ++ x) e.2)

pub blanks_from_cut : (piece : List ℕ) → cut_blanks piece ≡ [] → IsBlanks piece
blanks_from_cut piece e =
    let s = piece_split piece in
    let spelled : piece ≡ s.0 ++ s.1 = s.4 ∙ ap (λ (x : List ℕ). s.0 ++ (x ++ s.1)) e in
    rw spelled (list_all-append is_blank s.0 s.1 ∙ rw (s.2, s.3) refl)

-- ---- the end of a text made of parts

pub ends-past : (xs : List ℕ) (b : ℕ) (bs : List ℕ) → ends_in_blank (xs ++ b ∷ bs) ≡ ends_in_blank (b ∷ bs)
ends-past [] b bs = refl
ends-past (x ∷ []) b bs = refl
ends-past (x ∷ y ∷ xs) b bs = ends-past (y ∷ xs) b bs

pub ends_from_part : (xs ys : List ℕ) → ends_in_blank (xs ++ ys) ≡ false → ends_in_blank ys ≡ false
ends_from_part xs [] h = refl
ends_from_part xs (y ∷ ys) h = sym (ends-past xs y ys) ∙ h

pub ends-append : (xs ys : List ℕ) → 0 < length ys → ends_in_blank (xs ++ ys) ≡ ends_in_blank ys
ends-append xs [] h = absurd (omega arith)
ends-append xs (y ∷ ys) h = ends-past xs y ys

-- ---- a text without blanks has nothing to cut

no_blank_front : (xs : List ℕ) → list_any is_blank xs ≡ false → cut_front xs ≡ xs
no_blank_front [] h = refl
no_blank_front (x ∷ xs) h = let a = or_parts (is_blank x) (list_any is_blank xs) h in rw a.0 refl

no_blank_end : (xs : List ℕ) → list_any is_blank xs ≡ false → ends_in_blank xs ≡ false
no_blank_end [] h = refl
no_blank_end (x ∷ []) h = (or_parts (is_blank x) false h).0
no_blank_end (x ∷ y ∷ xs) h = no_blank_end (y ∷ xs) (or_parts (is_blank x) (list_any is_blank (y ∷ xs)) h).1

pub no_blanks : (xs : List ℕ) → list_any is_blank xs ≡ false → cut_blanks xs ≡ xs
no_blanks xs h = ap cut_end (no_blank_front xs h) ∙ cut_end-kept xs (no_blank_end xs h)
