-- What one member says, and nothing else.
use Rattle.std.proofs.Common.{◌≡◌, refl, sym, ap, subst, ◌∙◌, ℕ, suc, ◌<◌, ◌^◌, ◌==◌, arith}
use Rattle.std.proofs.Common.{ℤ, pos, negsuc, neg_ℤ, Bool, true, false, cond, if◌then◌else◌, drop}
use Rattle.std.proofs.Common.{List, [], ◌∷◌, map, length, Option, Some, None, MatchOption}
use Rattle.std.proofs.Common.{option_and_then, decimal}
use Rattle.std.proofs.lemmas.Bool.{ne_eqb}
use Rattle.std.proofs.lemmas.Fmt.{decimal_is_IsNumeral}
use Rattle.std.proofs.lemmas.List.Elements.{All-head, All-tail}
use Rattle.std.proofs.lemmas.Str.Parse.{digit_from_value}
use Rattle.std.specs.Fmt.{signed_decimal}
use Rattle.std.specs.Int.Signed.{mag}
use Rattle.std.specs.List.{All, AllZip}
use Rattle.std.specs.Str.{bytes_eq}
use Rattle.std.specs.Str.Parse.{IsNumeral, digits_value, without_leading_plus, without_leading_sign, starts_with_minus, signed_digits_value}
use Rattle.serde_json.specs.Data.{Data, string, number, unsigned, array, no_members}
use Rattle.serde_json.specs.View.{items_of}
use Rattle.otel_otlp.specs.HttpResponse.{IsCount}
use Rattle.otel_otlp.specs.Json.{Member, object_of, text_member, text_unless_empty, number_unless_zero, list_unless_empty, text_if_given}
use Rattle.otel_otlp.specs.ReadMembers as read
use Rattle.otel_otlp.specs.ReadMembers.{unless_null, member_of, IsWideIn, IsNarrowIn, AreIn, list_in}
use Rattle.otel_otlp.proofs.Found.{or_else-none, if_so, found, get_all}
use Rattle.otel_otlp.proofs.LeftOut.{empty_is, zero_is}
use Rattle.otel_otlp.proofs.ReadErrors.{some_same, one_wide}
use Rattle.otel_otlp.proofs.ReadLists as lists

-- it holds of this, and of nothing else
abbrev pub Only : {A : Type 0} → (A → Type 0) → A → Type 0
Only {A = A} P x = P x × ((y : A) → P y → y ≡ x)

pub only_some : {A : Type 0} (o : Option A) (x : A) → o ≡ Some x → Only (λ y. o ≡ Some y) x
only_some o x e = (e, λ y h. some_same _ _ (sym h ∙ e))

-- ---- members
pub member_in : (q : List ℕ) (xs : List Member) (o : Option Data) → found q xs ≡ o
    → member_of q (object_of xs) ≡ option_and_then unless_null o
member_in q xs o e =
    ap (option_and_then unless_null) (get_all q no_members xs ∙ or_else-none (found q xs) ∙ e)

-- ---- texts
pub text_is : (q : List ℕ) (xs : List Member) (t : List ℕ) → found q xs ≡ Some (string t)
    → read.text_in q (object_of xs) ≡ Some t
text_is q xs t e = ap read.text_of (member_in q xs (Some (string t)) e)

text_by : (q t : List ℕ) (b : Bool) → (length t == 0) ≡ b → bytes_eq q q ≡ true
    → read.text_of (option_and_then unless_null (found q (if b then [] else text_member q t))) ≡ Some t
text_by q t true e r = ap (λ l. Some l) (sym (empty_is t e))
text_by q t false e r =
    ap (λ b. read.text_of (option_and_then unless_null (if_so b (string t)))) r

pub text_left_out : (q : List ℕ) (xs : List Member) (t : List ℕ)
    → found q xs ≡ found q (text_unless_empty q t) → bytes_eq q q ≡ true
    → read.text_in q (object_of xs) ≡ Some t
text_left_out q xs t e r =
    ap read.text_of (member_in q xs (found q (text_unless_empty q t)) e)
    ∙ text_by q t (length t == 0) refl r

given_by : (q : List ℕ) (t : Option (List ℕ)) → bytes_eq q q ≡ true
    → read.given_text_of (option_and_then unless_null (found q (text_if_given q t))) ≡ Some t
given_by q None r = refl
given_by q (Some t) r =
    ap (λ b. read.given_text_of (option_and_then unless_null (if_so b (string t)))) r

pub text_given : (q : List ℕ) (xs : List Member) (t : Option (List ℕ))
    → found q xs ≡ found q (text_if_given q t) → bytes_eq q q ≡ true
    → read.given_text_in q (object_of xs) ≡ Some t
text_given q xs t e r =
    ap read.given_text_of (member_in q xs (found q (text_if_given q t)) e) ∙ given_by q t r

-- ---- numbers
no_plus : (ds : List ℕ) → IsNumeral 10 ds → without_leading_plus ds ≡ ds
no_plus [] h = refl
no_plus (d ∷ ds) h =
    let plus : (d == 43) ≡ false = ne_eqb _ _ (λ e. omega (arith, digit_from_value d h.1.0)) in
    ap (λ (b : Bool). drop (cond b 1 0) (d ∷ ds)) plus

no_minus : (ds : List ℕ) → IsNumeral 10 ds → starts_with_minus ds ≡ false
no_minus [] h = refl
no_minus (d ∷ ds) h = ne_eqb _ _ (λ e. omega (arith, digit_from_value d h.1.0))

decimal_count : (n : ℕ) → n < 2 ^ 64 → IsCount (string (decimal n)) (Some n)
decimal_count n h =
    let numeral = decimal_is_IsNumeral n h in
    let same = no_plus (decimal n) numeral.0 in
    let value : digits_value 10 (without_leading_plus (decimal n)) ≡ n =
    ap (digits_value 10) same ∙ numeral.1 in
    ((subst (IsNumeral 10) (sym same) numeral.0, subst (λ m. m < 2 ^ 64) (sym value) h), sym value)

pub wide_is : (q : List ℕ) (xs : List Member) (n : ℕ) → n < 2 ^ 64
    → found q xs ≡ Some (string (decimal n)) → Only (IsWideIn q (object_of xs)) n
wide_is q xs n h e =
    let is : IsWideIn q (object_of xs) n =
    subst (λ o. MatchOption o (n ≡ 0) (λ d. IsCount d (Some n)))
    (sym (member_in q xs (Some (string (decimal n))) e)) (decimal_count n h) in
    (is, λ m k. one_wide q (object_of xs) m n k is)

narrow_from : (q : List ℕ) (xs : List Member) (n : ℕ) → n < 2 ^ 32
    → IsWideIn q (object_of xs) n → Only (IsNarrowIn q (object_of xs)) n
narrow_from q xs n h is = ((is, h), λ m k. one_wide q (object_of xs) m n k.0 is)

pub narrow_is : (q : List ℕ) (xs : List Member) (n : ℕ) → n < 2 ^ 32
    → found q xs ≡ Some (number (unsigned n)) → Only (IsNarrowIn q (object_of xs)) n
narrow_is q xs n h e =
    narrow_from q xs n h
    (subst (λ o. MatchOption o (n ≡ 0) (λ d. IsCount d (Some n)))
    (sym (member_in q xs (Some (number (unsigned n))) e)) refl)

number_by : (q : List ℕ) (n : ℕ) (b : Bool) → (n == 0) ≡ b → bytes_eq q q ≡ true
    → MatchOption (option_and_then unless_null (found q (if b then [] else (q, number (unsigned n)) ∷ [])))
    (n ≡ 0) (λ d. IsCount d (Some n))
number_by q n true e r = zero_is n e
number_by q n false e r =
    subst (λ b. MatchOption (option_and_then unless_null (if_so b (number (unsigned n)))) (n ≡ 0)
    (λ d. IsCount d (Some n))) (sym r) refl

pub number_left_out : (q : List ℕ) (xs : List Member) (n : ℕ) → n < 2 ^ 32
    → found q xs ≡ found q (number_unless_zero q n) → bytes_eq q q ≡ true
    → Only (IsNarrowIn q (object_of xs)) n
number_left_out q xs n h e r =
    narrow_from q xs n h
    (subst (λ o. MatchOption o (n ≡ 0) (λ d. IsCount d (Some n)))
    (sym (member_in q xs (found q (number_unless_zero q n)) e)) (number_by q n (n == 0) refl r))

signed_numeral : (z : ℤ) → mag z < 2 ^ 63
    → IsNumeral 10 (without_leading_sign (signed_decimal z))
    × (signed_digits_value 10 (signed_decimal z) ≡ z)
signed_numeral (pos n) h =
    let numeral = decimal_is_IsNumeral n (omega (arith, h)) in
    let minus = no_minus (decimal n) numeral.0 in
    let bare : without_leading_sign (decimal n) ≡ decimal n =
    ap (λ b. cond b (drop 1 (decimal n)) (without_leading_plus (decimal n))) minus
    ∙ no_plus (decimal n) numeral.0 in (
      subst (IsNumeral 10) (sym bare) numeral.0,
      ap (λ b. cond b (neg_ℤ (pos (digits_value 10 (without_leading_sign (decimal n)))))
          (pos (digits_value 10 (without_leading_sign (decimal n))))) minus
          ∙ ap (λ ds. pos (digits_value 10 ds)) bare ∙ ap pos numeral.1,
    )
signed_numeral (negsuc n) h =
    let numeral = decimal_is_IsNumeral (suc n) (omega (arith, h)) in
    (numeral.0, ap (λ m. neg_ℤ (pos m)) numeral.1)

pub integer_is : (z : ℤ) → mag z < 2 ^ 63
    → Only (λ y. read.IsInteger (string (signed_decimal z)) (Some y)) z
integer_is z h =
    let value = signed_numeral z h in (
      ((value.0, record { sfits = subst (λ y. mag y < 2 ^ 63) (sym value.1) h }), sym value.1),
      λ y k. k.1 ∙ value.1,
    )

-- ---- lists
list_by : (q : List ℕ) (ds : List Data) (b : Bool) → (length ds == 0) ≡ b → bytes_eq q q ≡ true
    → read.list_of (option_and_then unless_null
    (found q (if b then [] else (q, array (items_of ds)) ∷ []))) ≡ Some ds
list_by q ds true e r = ap (λ l. Some l) (sym (empty_is ds e))
list_by q ds false e r =
    ap (λ b. read.list_of (option_and_then unless_null (if_so b (array (items_of ds))))) r
    ∙ ap (λ l. Some l) (lists.items_again ds)

pub list_left_out : (q : List ℕ) (xs : List Member) (ds : List Data)
    → found q xs ≡ found q (list_unless_empty q ds) → bytes_eq q q ≡ true
    → list_in q (object_of xs) ≡ Some ds
list_left_out q xs ds e r =
    ap read.list_of (member_in q xs (found q (list_unless_empty q ds)) e)
    ∙ list_by q ds (length ds == 0) refl r

pub list_is : (q : List ℕ) (xs : List Member) (ds : List Data)
    → found q xs ≡ Some (array (items_of ds)) → list_in q (object_of xs) ≡ Some ds
list_is q xs ds e =
    ap read.list_of (member_in q xs (Some (array (items_of ds))) e)
    ∙ ap (λ l. Some l) (lists.items_again ds)

-- ---- the items of a list, each of which says only one thing
each_says : {X A : Type 0} (Says : Data → A → Type 0) (f : X → Data) (g : X → A) (P : X → Type 0)
    → ((x : X) → P x → Only (Says (f x)) (g x)) → (xs : List X) → All P xs
    → AllZip Says (map f xs) (map g xs)
each_says Says f g P one [] h = tt
each_says Says f g P one (x ∷ xs) h =
    ((one x (All-head P x xs h)).0, each_says Says f g P one xs (All-tail P x xs h))

each_only : {X A : Type 0} (Says : Data → A → Type 0) (f : X → Data) (g : X → A) (P : X → Type 0)
    → ((x : X) → P x → Only (Says (f x)) (g x)) → (xs : List X) → All P xs
    → (ys : List A) → AllZip Says (map f xs) ys → ys ≡ map g xs
each_only Says f g P one [] h [] k = refl
each_only Says f g P one [] h (y ∷ ys) k = absurd k
each_only Says f g P one (x ∷ xs) h [] k = absurd k
each_only Says f g P one (x ∷ xs) h (y ∷ ys) k =
    ap (λ z. z ∷ ys) ((one x (All-head P x xs h)).1 y k.0)
    ∙ ap (λ zs. g x ∷ zs) (each_only Says f g P one xs (All-tail P x xs h) ys k.1)

pub list_says : {X A : Type 0} (Says : Data → A → Type 0) (f : X → Data) (g : X → A)
    (P : X → Type 0) → ((x : X) → P x → Only (Says (f x)) (g x)) → (q : List ℕ) (d : Data)
    (xs : List X) → All P xs → list_in q d ≡ Some (map f xs) → Only (AreIn Says q d) (map g xs)
list_says Says f g P one q d xs h e = (
  record { values = map f xs; has_list = e; each = each_says Says f g P one xs h },
  λ ys k. each_only Says f g P one xs h ys
      (subst (λ vs. AllZip Says vs ys) (some_same _ _ (sym k.has_list ∙ e)) k.each),
)
