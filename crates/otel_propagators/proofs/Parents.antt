-- The text of ids and flags, and its reading.
use Rattle.std.proofs.Common.{◌≡◌, ℕ, suc, ◌+◌, ◌/◌, ◌%◌, ◌^◌, ◌<◌, Bool, true, false, ◌&&◌, List, [], ◌∷◌, ◌++◌, length, take, drop, refl, sym, ap, subst, ◌∙◌, arith, Option, Some, None, inl, inr}
use Rattle.std.specs.declared.string.String.{String}
use Rattle.std.specs.Prelude.{Result, IfOk, string_bytes, ◌==◌}
use Rattle.std.specs.Fmt.{digit_glyph}
use Rattle.std.specs.List.{IsSplitAt}
use Rattle.std.specs.Str.{bytes_eq}
use Rattle.std.proofs.Math.Seq.{drop-append-add}
use Rattle.std.proofs.lemmas.Bool.{and_parts, eqb-true, false≢true}
use Rattle.std.proofs.lemmas.Bool.Decides.{nat_tests}
use Rattle.std.proofs.lemmas.List.{length-append, append-nil, take-append-drop, take_all, take_at}
use Rattle.std.proofs.lemmas.Option.{cond_some}
use Rattle.std.proofs.lemmas.Slice.Eq.{bytes_eq-Decides}
use Rattle.otel_base.specs.Blanks.{is_blank, ends_in_blank, cut_front, cut_end, cut_blanks}
use Rattle.otel_ids.specs.Ids.{number_of, id_text, ReadsId}
use Rattle.otel_base.proofs.shared.BlankCuts.{cut_end-kept, ends-append}
use Rattle.otel_ids.proofs.shared.Numerals.{length_text, reads_text}
use Rattle.otel_propagators.specs.TraceParent.{Parent, parent_with, IsParent, parent_text, ReadsParent, numbers_in, is_parent, parent_in, parent_of, ParentsAgree, ParentReads, OneParent, ParentLength}
use Rattle.otel_propagators.specs.Digits.{IsNumberOf, AreNumbersOf, IsParentFrom}

-- ---- one number for a text of digits

no_plus : (d : ℕ) → digit_glyph false d ≡ 43 → ⊥
no_plus d e = grind (arith, nat_tests)

begins_with_digit : (k n : ℕ) (cs : List ℕ) → id_text (suc k) n ≡ 43 ∷ cs → ⊥
unfolding id_text
begins_with_digit k n cs e = let h : digit_glyph false (n / 16 ^ k % 16) ≡ 43 = cc in no_plus (n / 16 ^ k % 16) h

-- the number of the digits, by the law of ids about their text
number_by : (bits k n : ℕ) → ReadsId bits (id_text (suc k) n) n → number_of (id_text (suc k) n) ≡ n
number_by bits k n r =
    elim r.spelled [
      | inl e ↦ ap number_of e ∙ sym r.is
      | inr e ↦ absurd (begins_with_digit k n r.digits e)
    ]

number_of_trace : (n : ℕ) → n < 2 ^ 128 → number_of (id_text 32 n) ≡ n
number_of_trace n h = number_by 128 31 n (reads_text 128 32 n (omega arith) (omega arith) h)

number_of_span : (n : ℕ) → n < 2 ^ 64 → number_of (id_text 16 n) ≡ n
number_of_span n h = number_by 64 15 n (reads_text 64 16 n (omega arith) (omega arith) h)

number_of_flags : (n : ℕ) → n < 2 ^ 8 → number_of (id_text 2 n) ≡ n
number_of_flags n h = number_by 8 1 n (reads_text 8 2 n (omega arith) (omega arith) h)

pub two_digits : (f : ℕ) → f < 256 → digit_glyph false (f / 16) ∷ digit_glyph false (f % 16) ∷ [] ≡ id_text 2 f
unfolding id_text
two_digits f small =
    let a : f / 16 ≡ f / 16 ^ 1 % 16 = omega arith in
    let b : f % 16 ≡ f / 16 ^ 0 % 16 = omega arith in
    ap (λ (x : ℕ). digit_glyph false x ∷ digit_glyph false (f % 16) ∷ []) a ∙ ap (λ (x : ℕ). digit_glyph false (f / 16 ^ 1 % 16) ∷ digit_glyph false x ∷ []) b

-- ---- the parts of the text

pub split_same : (us bs xs ys : List ℕ) → length us ≡ length bs → us ++ xs ≡ bs ++ ys → (us ≡ bs) × (xs ≡ ys)
split_same [] [] xs ys l e = (refl, e)
split_same [] (b ∷ bs) xs ys l e = absurd (omega arith)
split_same (a ∷ us) [] xs ys l e = absurd (omega arith)
split_same (a ∷ us) (b ∷ bs) xs ys l e =
    let first : a ≡ b = cc in
    let rest : us ++ xs ≡ bs ++ ys = cc in
    let r = split_same us bs xs ys (omega arith) rest in
    (cc (r.0, first), r.1)

-- the text after the version, after the trace id, and so on
abbrev pub from_trace : Parent → List ℕ
from_trace p = id_text 32 p.trace_id ++ (45 ∷ (id_text 16 p.span_id ++ (45 ∷ id_text 2 p.flags)))

abbrev pub past_trace : Parent → List ℕ
past_trace p = 45 ∷ (id_text 16 p.span_id ++ (45 ∷ id_text 2 p.flags))

abbrev pub from_span : Parent → List ℕ
from_span p = id_text 16 p.span_id ++ (45 ∷ id_text 2 p.flags)

abbrev pub past_span : Parent → List ℕ
past_span p = 45 ∷ id_text 2 p.flags

digits_same : (k m n : ℕ) (xs ys : List ℕ) → id_text k m ++ xs ≡ id_text k n ++ ys → (id_text k m ≡ id_text k n) × (xs ≡ ys)
digits_same k m n xs ys e = split_same (id_text k m) (id_text k n) xs ys (length_text k m ∙ sym (length_text k n)) e

drop_front : (xs ys : List ℕ) (n m : ℕ) → length xs ≡ n → drop (n + m) (xs ++ ys) ≡ drop m ys
drop_front xs ys n m e = ap (λ (k : ℕ). drop (k + m) (xs ++ ys)) (sym e) ∙ drop-append-add xs ys m

trace_place : (p : Parent) → take 32 (drop 3 (parent_text p)) ≡ id_text 32 p.trace_id
unfolding parent_text
trace_place p = take_at (id_text 32 p.trace_id) (past_trace p) 32 (length_text 32 p.trace_id)

span_place : (p : Parent) → take 16 (drop 36 (parent_text p)) ≡ id_text 16 p.span_id
unfolding parent_text
span_place p =
    ap (take 16) (drop_front (id_text 32 p.trace_id) (past_trace p) 32 1 (length_text 32 p.trace_id))
    ∙ take_at (id_text 16 p.span_id) (past_span p) 16 (length_text 16 p.span_id)

flags_place : (p : Parent) → take 2 (drop 53 (parent_text p)) ≡ id_text 2 p.flags
unfolding parent_text
flags_place p =
    ap (take 2)
    (drop_front (id_text 32 p.trace_id) (past_trace p) 32 18 (length_text 32 p.trace_id)
    ∙ drop_front (id_text 16 p.span_id) (past_span p) 16 1 (length_text 16 p.span_id))
    ∙ take_all 2 (id_text 2 p.flags) (omega (arith, length_text 2 p.flags))

parent_parts : (t s f : ℕ) (p : Parent) → t ≡ p.trace_id → s ≡ p.span_id → f ≡ p.flags → parent_with t s f ≡ p
parent_parts t s f p a b c =
    ap (λ (x : ℕ). parent_with x s f) a ∙ ap (λ (x : ℕ). parent_with p.trace_id x f) b ∙ ap (parent_with p.trace_id p.span_id) c

-- the numbers at their places are the ones that were written
numbers_within : (p : Parent) → p.trace_id < 2 ^ 128 → p.span_id < 2 ^ 64 → p.flags < 2 ^ 8 → numbers_in (parent_text p) ≡ p
numbers_within p a b c =
    parent_parts _ _ _ p
    (ap number_of (trace_place p) ∙ number_of_trace p.trace_id a)
    (ap number_of (span_place p) ∙ number_of_span p.span_id b)
    (ap number_of (flags_place p) ∙ number_of_flags p.flags c)

numbers_again : (p : Parent) → IsParent p → numbers_in (parent_text p) ≡ p
numbers_again p v = numbers_within p v.trace_fits v.span_fits v.flags_fit

-- numbers that have the text of ids and flags are the same ids and flags
same_parent : (t s f : ℕ) (p : Parent) (text : List ℕ) → text ≡ parent_text (parent_with t s f) → t < 16 ^ 32 → s < 16 ^ 16 → f < 16 ^ 2 → IsParent p → text ≡ parent_text p → parent_with t s f ≡ p
same_parent t s f p text e a b c v g =
    sym (numbers_within (parent_with t s f) (omega arith) (omega arith) (omega arith)) ∙ ap numbers_in (sym e ∙ g) ∙ numbers_again p v

-- ---- nothing to cut

digit_no_blank : (d : ℕ) → is_blank (digit_glyph false d) ≡ false
digit_no_blank d = grind (arith, nat_tests)

ends_digits : (f : ℕ) → ends_in_blank (id_text 2 f) ≡ false
unfolding id_text
ends_digits f = digit_no_blank (f / 16 ^ 0 % 16)

ends_parent : (p : Parent) → ends_in_blank (parent_text p) ≡ false
unfolding parent_text
ends_parent p =
    let l = length_text 2 p.flags in
    let a = ends-append (id_text 32 p.trace_id) (past_trace p) (omega arith) in
    let b = ends-append (45 ∷ id_text 16 p.span_id) (past_span p) (omega arith) in
    let c = ends-append (45 ∷ []) (id_text 2 p.flags) (omega arith) in
    ends-append (48 ∷ 48 ∷ 45 ∷ []) (from_trace p) (omega (arith, length-append (id_text 32 p.trace_id) (past_trace p)))
    ∙ a ∙ b ∙ c ∙ ends_digits p.flags

no_front : (p : Parent) → cut_front (parent_text p) ≡ parent_text p
unfolding parent_text
no_front p = refl

parent_kept : (p : Parent) → cut_blanks (parent_text p) ≡ parent_text p
parent_kept p = ap cut_end (no_front p) ∙ cut_end-kept (parent_text p) (ends_parent p)

pub parent_reads : ParentReads
parent_reads p v = record { spelled = parent_kept p; valid = v }

pub parent_length : ParentLength
unfolding parent_text
parent_length p =
    omega (
      arith,
      length_text 32 p.trace_id,
      length_text 16 p.span_id,
      length_text 2 p.flags,
      length-append (id_text 32 p.trace_id) (past_trace p),
      length-append (id_text 16 p.span_id) (past_span p),
    )

pub one_parent : OneParent
one_parent text p q a b =
    sym (numbers_again p a.valid) ∙ ap numbers_in (sym a.spelled ∙ b.spelled) ∙ numbers_again q b.valid

-- ---- the reading as a function

passes : (p : Parent) → IsParent p → is_parent p ≡ true
passes p v = let a = v.trace_fits in let b = v.trace_some in let c = v.span_fits in let d = v.span_some in let e = v.flags_fit in grind (arith, nat_tests)

is_valid_parent : (p : Parent) → is_parent p ≡ true → IsParent p
is_valid_parent p h = record {
  trace_fits = grind (arith, nat_tests);
  trace_some = λ z. grind (arith, nat_tests);
  span_fits = grind (arith, nat_tests);
  span_some = λ z. grind (arith, nat_tests);
  flags_fit = grind (arith, nat_tests);
}

parent_in_is : (text : List ℕ) (p : Parent) → text ≡ parent_text p → IsParent p → parent_in text ≡ Some p
parent_in_is text p e v =
    let same : numbers_in text ≡ p = ap numbers_in e ∙ numbers_again p v in
    let t : bytes_eq text (parent_text (numbers_in text)) ≡ true = (bytes_eq-Decides text (parent_text (numbers_in text))).1 (e ∙ ap parent_text (sym same)) in
    let u : is_parent (numbers_in text) ≡ true = ap is_parent same ∙ passes p v in
    rw (t, u) (ap (λ (x : Parent). Some x) same)

parent_in_some : (text : List ℕ) (p : Parent) → parent_in text ≡ Some p → (text ≡ parent_text p) × IsParent p
parent_in_some text p e =
    let c = cond_some (bytes_eq text (parent_text (numbers_in text)) && is_parent (numbers_in text)) (numbers_in text) p e in
    let t = and_parts (bytes_eq text (parent_text (numbers_in text))) (is_parent (numbers_in text)) c.0 in (
      (bytes_eq-Decides text (parent_text (numbers_in text))).0 t.0 ∙ ap parent_text c.1,
      is_valid_parent p (ap is_parent (sym c.1) ∙ t.1),
    )

pub parent_of_reads : (text : List ℕ) (p : Parent) → ReadsParent text p → parent_of text ≡ Some p
unfolding parent_of
parent_of_reads text p r = parent_in_is (cut_blanks text) p r.spelled r.valid

pub reads_parent_of : (text : List ℕ) (p : Parent) → parent_of text ≡ Some p → ReadsParent text p
unfolding parent_of
reads_parent_of text p e = let s = parent_in_some (cut_blanks text) p e in record { spelled = s.0; valid = s.1 }

pub parents_agree : ParentsAgree
parents_agree text p = (parent_of_reads text p, reads_parent_of text p)

none_from : (o : Option Parent) → ((p : Parent) → o ≡ Some p → ⊥) → o ≡ None
none_from None h = refl
none_from (Some p) h = absurd (h p refl)

-- a text that can't be read as ids and flags
pub parent_of_none : (text : List ℕ) → ((p : Parent) → ReadsParent text p → ⊥) → parent_of text ≡ None
parent_of_none text h = none_from (parent_of text) (λ p e. h p (reads_parent_of text p e))

pub parent_of_numbers : (text bytes : List ℕ) (t s f : ℕ) (r : Option Parent) → bytes ≡ cut_blanks text → AreNumbersOf bytes (Some (t, s, f)) → IsParentFrom t s f r → r ≡ parent_of text
parent_of_numbers text bytes t s f None e n nothing = sym (parent_of_none text (λ p r.
    let same = same_parent t s f p bytes n.0 n.1 n.2 n.3 r.valid (e ∙ r.spelled) in
    let u : t ≡ p.trace_id = ap (λ (x : Parent). x.trace_id) same in
    let v : s ≡ p.span_id = ap (λ (x : Parent). x.span_id) same in
    elim nothing [ inl z ↦ r.valid.trace_some (sym u ∙ z) | inr z ↦ r.valid.span_some (sym v ∙ z) ]))
parent_of_numbers text bytes t s f (Some p) e n some =
    ap (λ (x : Parent). Some x) some.2
    ∙ sym (parent_of_reads text (parent_with t s f) (record {
      spelled = sym e ∙ n.0;
      valid = record { trace_fits = n.1; trace_some = some.0; span_fits = n.2; span_some = some.1; flags_fit = n.3 };
    }))

-- ---- the parts, one after the other

pub version_first : (p : Parent) → parent_text p ≡ (48 ∷ 48 ∷ 45 ∷ []) ++ from_trace p
unfolding parent_text
version_first p = refl

pub left_version : {text r1 : List ℕ} (p : Parent) → text ≡ (48 ∷ 48 ∷ 45 ∷ []) ++ r1 → text ≡ parent_text p → r1 ≡ from_trace p
left_version {text} {r1} p v e = let g : 48 ∷ 48 ∷ 45 ∷ r1 ≡ 48 ∷ 48 ∷ 45 ∷ from_trace p = sym v ∙ e ∙ version_first p in cc

pub left_dash : {r s : List ℕ} (tail : List ℕ) → r ≡ (45 ∷ []) ++ s → r ≡ 45 ∷ tail → s ≡ tail
left_dash {r} {s} tail a b = let g : 45 ∷ s ≡ 45 ∷ tail = sym a ∙ b in cc

pub left_trace : {text r1 r2 : List ℕ} (t : ℕ) (p : Parent) → text ≡ (48 ∷ 48 ∷ 45 ∷ []) ++ r1 → r1 ≡ id_text 32 t ++ r2 → text ≡ parent_text p → r2 ≡ past_trace p
left_trace {text} {r1} {r2} t p v a e = (digits_same 32 t p.trace_id r2 (past_trace p) (sym a ∙ left_version p v e)).1

pub left_span : {text r1 r2 r3 r4 : List ℕ} (t s : ℕ) (p : Parent) → text ≡ (48 ∷ 48 ∷ 45 ∷ []) ++ r1 → r1 ≡ id_text 32 t ++ r2 → r2 ≡ (45 ∷ []) ++ r3 → r3 ≡ id_text 16 s ++ r4 → text ≡ parent_text p → r4 ≡ past_span p
left_span {text} {r1} {r2} {r3} {r4} t s p v a d b e =
    (digits_same 16 s p.span_id r4 (past_span p) (sym b ∙ left_dash (from_span p) d (left_trace t p v a e))).1

pub flags_last : {r : List ℕ} (p : Parent) → r ≡ id_text 2 p.flags → r ≡ id_text 2 p.flags ++ []
flags_last p e = e ∙ sym (append-nil (id_text 2 p.flags))

pub left_flags : {r5 r6 : List ℕ} (f : ℕ) (p : Parent) → r5 ≡ id_text 2 f ++ r6 → r5 ≡ id_text 2 p.flags → r6 ≡ []
left_flags {r5} {r6} f p a e = (digits_same 2 f p.flags r6 [] (sym a ∙ flags_last p e)).1

pub made_of : {text r1 r2 r3 r4 r5 r6 : List ℕ} (t s f : ℕ) → text ≡ (48 ∷ 48 ∷ 45 ∷ []) ++ r1 → r1 ≡ id_text 32 t ++ r2 → r2 ≡ (45 ∷ []) ++ r3 → r3 ≡ id_text 16 s ++ r4 → r4 ≡ (45 ∷ []) ++ r5 → r5 ≡ id_text 2 f ++ r6 → r6 ≡ [] → text ≡ parent_text (parent_with t s f)
unfolding parent_text
made_of {text} {r1} {r2} {r3} {r4} {r5} {r6} t s f v a d b e c n =
    let five : r5 ≡ id_text 2 f = c ∙ ap (λ (x : List ℕ). id_text 2 f ++ x) n ∙ append-nil (id_text 2 f) in
    let three : r3 ≡ id_text 16 s ++ (45 ∷ id_text 2 f) = b ∙ ap (λ (x : List ℕ). id_text 16 s ++ x) (e ∙ ap (λ (x : List ℕ). 45 ∷ x) five) in
    let one : r1 ≡ id_text 32 t ++ (45 ∷ (id_text 16 s ++ (45 ∷ id_text 2 f))) = a ∙ ap (λ (x : List ℕ). id_text 32 t ++ x) (d ∙ ap (λ (x : List ℕ). 45 ∷ x) three) in
    v ∙ ap (λ (x : List ℕ). 48 ∷ 48 ∷ 45 ∷ x) one

pub empty_is : (xs : List ℕ) (t : Bool) → t ≡ (length xs == 0) → t ≡ true → xs ≡ []
empty_is [] t a b = refl
empty_is (x ∷ xs) t a b = absurd (let l = eqb-true (length (x ∷ xs)) 0 (sym a ∙ b) in omega (arith, l))

pub not_empty : (xs : List ℕ) (t : Bool) → t ≡ (length xs == 0) → t ≡ false → xs ≡ [] → ⊥
not_empty xs t a b e = false≢true (sym b ∙ a ∙ ap (λ (x : List ℕ). length x == 0) e)

-- ---- a given number of digits at the front

pub too_short : (bytes : List ℕ) (count : ℕ) → length bytes < count → (n : ℕ) (rest : List ℕ) → bytes ≡ id_text count n ++ rest → ⊥
too_short bytes count h n rest e =
    let l : length bytes ≡ length (id_text count n ++ rest) = ap length e in
    absurd (omega (arith, length_text count n, length-append (id_text count n) rest, l, h))

pub not_before : (bytes digits rest : List ℕ) (count : ℕ) → IsSplitAt bytes count digits rest → IsNumberOf (length digits) digits None → (n : ℕ) (others : List ℕ) → bytes ≡ id_text count n ++ others → ⊥
not_before bytes digits rest count s h n others e =
    let whole : bytes ≡ digits ++ rest = sym (take-append-drop count bytes) ∙ ap (λ (x : List ℕ). x ++ drop count bytes) (sym s.1) ∙ ap (λ (x : List ℕ). digits ++ x) (sym s.2) in
    let d = (split_same digits (id_text count n) rest others (s.3 ∙ sym (length_text count n)) (sym whole ∙ e)).0 in
    h n (d ∙ ap (λ (k : ℕ). id_text k n) (sym s.3))

-- ---- the numbers that were written

pub text_is : {A E : Type 0} (r : Result (String A) E) (text same : List ℕ) → text ≡ same → IfOk r (λ t. string_bytes t ≡ text) → IfOk r (λ t. string_bytes t ≡ same)
text_is r text same e h = subst (λ (x : List ℕ). IfOk r (λ t. string_bytes t ≡ x)) e h

pub text_of_parts : (t s b f t' s' : ℕ) {flags : List ℕ} → t ≡ t' → s ≡ s' → flags ≡ id_text 2 b → b ≡ f → 48 ∷ 48 ∷ 45 ∷ (id_text 32 t ++ (45 ∷ (id_text 16 s ++ (45 ∷ flags)))) ≡ parent_text (parent_with t' s' f)
unfolding parent_text
text_of_parts t s b f t' s' {flags} p q r u =
    ap (λ (x : ℕ). 48 ∷ 48 ∷ 45 ∷ (id_text 32 x ++ (45 ∷ (id_text 16 s ++ (45 ∷ flags))))) p
    ∙ ap (λ (x : ℕ). 48 ∷ 48 ∷ 45 ∷ (id_text 32 t' ++ (45 ∷ (id_text 16 x ++ (45 ∷ flags))))) q
    ∙ ap (λ (x : List ℕ). 48 ∷ 48 ∷ 45 ∷ (id_text 32 t' ++ (45 ∷ (id_text 16 s' ++ (45 ∷ x))))) (r ∙ ap (id_text 2) u)
