-- The texts of a header map as a carrier, before and after a value is set.
use Rattle.std.proofs.Common.{◌≡◌, ◌≢◌, ℕ, List, [], ◌∷◌, ◌++◌, Bool, true, false, cond, Option, None, Some, refl, sym, ap, subst, ◌∙◌, ◌⊎◌, inl, inr, map, IsTrue, is_some, string_bytes, append_assoc, true≢false, Bor}
use Rattle.std.specs.Prelude.{codes}
use Rattle.std.specs.FinMap as fin
use Rattle.std.specs.Cmp.Lexicographic.{slice_cmp, nat_list_cmp_total, texts_ties, nat_list_eq_equiv}
use Rattle.std.specs.List.{list_any, list_all, flat_map, filter_map, cons_option, join_by}
use Rattle.std.specs.Option.{option_or, option_map, option_map_or, option_copied}
use Rattle.std.specs.Ordering.{nat_cmp}
use Rattle.std.specs.Str.{bytes_eq}
use Rattle.std.proofs.lemmas.Bool.{cases_Bool}
use Rattle.std.proofs.lemmas.Bool.Decides.{Decides-by_and}
use Rattle.std.proofs.lemmas.List.{append-nil}
use Rattle.std.proofs.lemmas.Slice.Eq.{bytes_eq-Decides}
use Rattle.http_header.specs.FieldValue.{FieldValue, plain_value, is_visible_text, IsVisibleAscii}
use Rattle.http_header.specs.HeaderMap.{get_all, keys, insert}
use Rattle.http_header.specs.Token.{is_visible_or_blank}
use Rattle.http_header.proofs.HeaderMapLemmas.{get_all-insert_same, get_all-insert_other}
use Rattle.opentelemetry.specs.Carrier.{TextMap, at, lower, Sets}
use Rattle.opentelemetry.specs.Carrier.{text_map}
use Rattle.opentelemetry.proofs.shared.Maps.{sets_one}
use Rattle.std.specs.HashMap as hash
use Rattle.std.specs.HashMap.{HashMap}
use Rattle.std.specs.String.{string_eq}
use Rattle.std.specs.declared.string.String.{String}
use Rattle.otel_http.specs.Headers.{Headers, text, text_of, joined, is_list, text_at, pair_at, texts}

-- ---- values

-- whether a value is readable, as a proposition and as a test
pub visible : (bytes : List ℕ) → IsVisibleAscii bytes → is_visible_text bytes ≡ true
visible bytes =
    (Decides-by_and is_visible_or_blank (λ b. IsTrue (is_visible_or_blank b)) (list_all is_visible_or_blank) (λ b. (λ h. h, λ h. h)) refl (λ _ _. refl) bytes).1

pub is_visible : (bytes : List ℕ) → is_visible_text bytes ≡ true → IsVisibleAscii bytes
is_visible bytes =
    (Decides-by_and is_visible_or_blank (λ b. IsTrue (is_visible_or_blank b)) (list_all is_visible_or_blank) (λ b. (λ h. h, λ h. h)) refl (λ _ _. refl) bytes).0

pub text_visible : (v : FieldValue) → IsVisibleAscii v.bytes → text v ≡ Some v.bytes
text_visible v h = rw (visible v.bytes h) refl

-- a value that has a text has its own bytes
pub text_own : (v : FieldValue) → is_some (text v) ≡ true → text v ≡ Some v.bytes
text_own v h = elim (cases_Bool (is_visible_text v.bytes)) [
  | inl here ↦ rw here refl
  | inr other ↦ absurd (true≢false (sym (rw other at h)))
]

-- a value without a text isn't readable
pub text_none : (v : FieldValue) → is_some (text v) ≡ false → IsVisibleAscii v.bytes → ⊥
text_none v h visible_bytes = true≢false (rw (text_visible v visible_bytes) at h)

-- a value that couldn't be read isn't readable
pub refused_value : (r : Option (Bor (List ℕ))) (v : FieldValue) (bytes : List ℕ)
    → option_copied r ≡ text v → is_some r ≡ false → v ≡ plain_value bytes → IsVisibleAscii bytes → ⊥
refused_value None v bytes is none own h =
    text_none v (ap is_some (sym is)) (subst (λ (w : FieldValue). IsVisibleAscii w.bytes) (sym own) h)
refused_value (Some x) v bytes is none own h = true≢false none

pieces_of : (sep : List ℕ) (xs : List (Bor (List ℕ))) → flat_map (λ y. sep ++ y) (map (λ x. x.now) xs) ≡ flat_map (λ x. sep ++ x.now) xs
pieces_of sep [] = refl
pieces_of sep (x ∷ xs) = ap (λ r. (sep ++ x.now) ++ r) (pieces_of sep xs)

-- texts that are joined, borrowed
pub joined_of : (xs : List (Bor (List ℕ))) → (xs ≡ [] → ⊥) → Some (join_by (λ x. x.now) (codes ",") xs) ≡ joined (map (λ x. x.now) xs)
joined_of [] h = absurd (h refl)
joined_of (x ∷ xs) h = ap (λ r. Some (x.now ++ r)) (sym (pieces_of (codes ",") xs))

now_append : (ps : List (Bor (List ℕ))) (p : Bor (List ℕ)) → map (λ x. x.now) (ps ++ p ∷ []) ≡ map (λ x. x.now) ps ++ p.now ∷ []
now_append [] p = refl
now_append (x ∷ ps) p = ap (λ r. x.now ∷ r) (now_append ps p)

-- a readable value was pushed
pub more_pieces : (ps new : List (Bor (List ℕ))) (p : Bor (List ℕ)) (vs : List FieldValue) (v : FieldValue) (rest : List FieldValue) (all : List (List ℕ))
    → new ≡ ps ++ p ∷ [] → vs ≡ v ∷ rest → Some p.now ≡ text v → map (λ x. x.now) ps ++ filter_map text vs ≡ all
    → map (λ x. x.now) new ++ filter_map text rest ≡ all
more_pieces ps new p vs v rest all is split own inv =
    ap (λ (xs : List (Bor (List ℕ))). map (λ x. x.now) xs ++ filter_map text rest) is
    ∙ ap (λ ts. ts ++ filter_map text rest) (now_append ps p)
    ∙ append_assoc (map (λ x. x.now) ps) (p.now ∷ []) (filter_map text rest)
    ∙ ap (λ o. map (λ x. x.now) ps ++ cons_option o (filter_map text rest)) own
    ∙ ap (λ ws. map (λ x. x.now) ps ++ filter_map text ws) (sym split) ∙ inv

-- a value that isn't readable was skipped
pub no_piece : (ts : List (List ℕ)) (vs : List FieldValue) (v : FieldValue) (rest : List FieldValue) (all : List (List ℕ))
    → vs ≡ v ∷ rest → None ≡ text v → ts ++ filter_map text vs ≡ all → ts ++ filter_map text rest ≡ all
no_piece ts vs v rest all split own inv =
    ap (λ o. ts ++ cons_option o (filter_map text rest)) own ∙ ap (λ ws. ts ++ filter_map text ws) (sym split) ∙ inv

pub pieces_done : (ts : List (List ℕ)) (vs : List FieldValue) (all : List (List ℕ)) → vs ≡ [] → ts ++ filter_map text vs ≡ all → ts ≡ all
pieces_done ts vs all none inv = sym (append-nil ts) ∙ ap (λ ws. ts ++ filter_map text ws) (sym none) ∙ inv

-- ---- names

-- whether the name is one of the names
abbrev among : List ℕ → List (List ℕ) → Bool
among k names = list_any (bytes_eq k) names

none_of_none : (a b : Bool) → cond {A = Option (List ℕ)} a None (cond {A = Option (List ℕ)} b None None) ≡ None
none_of_none true b = refl
none_of_none false true = refl
none_of_none false false = refl

no_text : (name : List ℕ) → text_of name [] ≡ None
no_text name = none_of_none (bytes_eq name (codes "traceparent")) (is_list name)

no_values : (m : Headers) (k : List ℕ) → among k (keys m) ≡ false → get_all m k ≡ []
no_values [] k h = refl
no_values (e ∷ m) k h = elim (cases_Bool (bytes_eq k e.0)) [
  | inl here ↦ absurd (true≢false (rw here at h))
  | inr other ↦ rw (nat_list_eq_equiv.symm e.0 k, other) (no_values m k (rw other at h))
]

-- a name that isn't among them has no text
pub absent : (m : Headers) (k : List ℕ) → among k (keys m) ≡ false → text_at m k ≡ None
absent m k h = ap (text_of k) (no_values m k h) ∙ no_text k

abbrev Rest : Headers → List (List ℕ) → List ℕ → Type 0
Rest m names k = fin.find (slice_cmp nat_cmp) k (flat_map (pair_at m) names) ≡ cond (among k names) (text_at m k) None

find-pairs : (m : Headers) (names : List (List ℕ)) (k : List ℕ)
    → fin.find (slice_cmp nat_cmp) k (flat_map (pair_at m) names) ≡ cond (among k names) (text_at m k) None
find-pairs m [] k = refl
find-pairs m (n ∷ names) k =
    let rest = find-pairs m names k in
    elim (cases_Bool (bytes_eq k n)) [
      | inl here ↦
          let same : k ≡ n = (bytes_eq-Decides k n).0 here in
          rw here (with_text rest (text_at m n) refl same)
      | inr other ↦ rw other (without_name rest (text_at m n) other)
    ]
  where
    with_text : Rest m names k → (t : Option (List ℕ)) → text_at m n ≡ t → k ≡ n
        → fin.find (slice_cmp nat_cmp) k (option_map_or (λ x. (n, x) ∷ []) t [] ++ flat_map (pair_at m) names) ≡ text_at m k
    with_text rest None is same =
        rest
        ∙ elim (among k names) as (λ b. cond b (text_at m k) None ≡ text_at m k) [
          | true ↦ refl
          | false ↦ sym is ∙ ap (text_at m) (sym same)
        ]
    with_text rest (Some x) is same =
        rw (← texts_ties k n, (bytes_eq-Decides k n).1 same) (sym is ∙ ap (text_at m) (sym same))

    without_name : Rest m names k → (t : Option (List ℕ)) → bytes_eq k n ≡ false
        → fin.find (slice_cmp nat_cmp) k (option_map_or (λ x. (n, x) ∷ []) t [] ++ flat_map (pair_at m) names) ≡ cond (among k names) (text_at m k) None
    without_name rest None other = rest
    without_name rest (Some x) other = rw (← texts_ties k n, other) rest

-- the carrier has the text of each name
pub at-texts : (m : Headers) (k : List ℕ) → at (texts m) k ≡ text_at m k
at-texts m k =
    fin.get-from_entries nat_list_cmp_total (flat_map (pair_at m) (keys m)) k ∙ find-pairs m (keys m) k
    ∙ elim (cases_Bool (among k (keys m))) [
      | inl there ↦ rw there refl
      | inr not_there ↦ rw not_there (sym (absent m k not_there))
    ]

-- ---- reading

-- the texts of all names except these are in the map, and no others
pub record Filled (m : Headers) (left : List (List ℕ)) (held : TextMap) : Type 0 where
  pub sound : (k : List ℕ) → (at held k ≡ None) ⊎ (at held k ≡ text_at m k)
  pub whole : (k : List ℕ) → among k left ≡ false → at held k ≡ text_at m k

pub filled_none : (m : Headers) (held : TextMap) → ((k : List ℕ) → at held k ≡ None) → Filled m (keys m) held
filled_none m held none = record {
  sound = λ k. inl (none k);
  whole = λ k h. none k ∙ sym (absent m k h);
}

-- a name without a text is skipped
pub filled_without : (m : Headers) (name : List ℕ) (left : List (List ℕ)) (held : TextMap)
    → text_at m name ≡ None → Filled m (name ∷ left) held → Filled m left held
filled_without m name left held is f = record {
  sound = f.sound;
  whole = λ k h. elim (cases_Bool (bytes_eq k name)) [
    | inl here ↦
        let same : k ≡ name = (bytes_eq-Decides k name).0 here in
        elim (f.sound k) [ inl none ↦ none ∙ sym (ap (text_at m) same ∙ is) | inr it ↦ it ]
    | inr other ↦ f.whole k (rw (other, h) refl)
  ];
}

-- a name is added with its text
pub filled_with : (m : Headers) (name t : List ℕ) (left : List (List ℕ)) (held new : TextMap)
    → text_at m name ≡ Some t → lower name ≡ name → Sets held ((name, t) ∷ []) new
    → Filled m (name ∷ left) held → Filled m left new
filled_with m name t left held new is lowered s f = record {
  sound = λ k. elim (cases_Bool (bytes_eq name k)) [
    | inl here ↦ inr (set_here k here)
    | inr other ↦ elim (f.sound k) [ inl none ↦ inl (kept k other ∙ none) | inr it ↦ inr (kept k other ∙ it) ]
  ];
  whole = λ k h. elim (cases_Bool (bytes_eq name k)) [
    | inl here ↦ set_here k here
    | inr other ↦ kept k other ∙ f.whole k (rw (← nat_list_eq_equiv.symm name k, other, h) refl)
  ];
}
  where
    set_here : (k : List ℕ) → bytes_eq name k ≡ true → at new k ≡ text_at m k
    set_here k here =
        let same : name ≡ k = (bytes_eq-Decides name k).0 here in
        s.at_key k ∙ rw (lowered, here) (sym is ∙ ap (text_at m) same)

    kept : (k : List ℕ) → bytes_eq name k ≡ false → at new k ≡ at held k
    kept k other = s.at_key k ∙ rw (lowered, other) refl

pub filled_empty : {A : Type 0} (m : Headers) (left : List (List ℕ)) (es : List (String A × String A))
    → es ≡ [] → left ≡ keys m → Filled m left (text_map es)
filled_empty m left es none is =
    subst (λ l. Filled m l (text_map es)) (sym is)
    (filled_none m (text_map es) (λ k. ap (λ e. at (text_map e) k) none ∙ fin.get-from_entries nat_list_cmp_total [] k))

own_text : {A : Type 0} (m : Headers) (name n : List ℕ) (values : List FieldValue) (found : Option (String A))
    → n ≡ name → values ≡ get_all m name → option_map string_bytes found ≡ text_of n values
    → text_at m name ≡ option_map string_bytes found
own_text m name n values found same all is =
    ap (text_of name) (sym all) ∙ ap (λ x. text_of x values) (sym same) ∙ sym is

pub passed_over : {A : Type 0} (m : Headers) (name n : List ℕ) (values : List FieldValue) (found : Option (String A)) (whole left : List (List ℕ)) (held : TextMap)
    → n ≡ name → values ≡ get_all m name → option_map string_bytes found ≡ text_of n values → found ≡ None
    → whole ≡ name ∷ left → Filled m whole held → Filled m left held
passed_over m name n values found whole left held same all is none split f =
    filled_without m name left held (own_text m name n values found same all is ∙ ap (option_map string_bytes) none)
    (subst (λ l. Filled m l held) split f)

pub put_in : {A S : Type 0} (m : Headers) (name n k : List ℕ) (values : List FieldValue) (found : Option (String A)) (key value : String A)
    (whole left : List (List ℕ)) (held new : HashMap (String A) (String A) S)
    → n ≡ name → values ≡ get_all m name → option_map string_bytes found ≡ text_of n values → found ≡ Some value
    → string_bytes key ≡ k → k ≡ name → lower name ≡ name → hash.Updates string_eq held new key (Some value)
    → whole ≡ name ∷ left → Filled m whole (text_map held.entries) → Filled m left (text_map new.entries)
put_in m name n k values found key value whole left held new same all is some copied same_key lowered updated split f =
    filled_with m name (string_bytes value) left (text_map held.entries) (text_map new.entries)
    (own_text m name n values found same all is ∙ ap (option_map string_bytes) some) lowered
    (sets_one held new name key value (copied ∙ same_key ∙ sym lowered) updated)
    (subst (λ l. Filled m l (text_map held.entries)) split f)

-- all names are in the map
pub filled_all : (m : Headers) (left : List (List ℕ)) (held : TextMap) → left ≡ [] → Filled m left held → held ≡ texts m
filled_all m left held none filled =
    let f = subst (λ l. Filled m l held) none filled in
    fin.same_map nat_list_cmp_total (fin.slice_cmp-IsAntisymmetric fin.nat_cmp-IsAntisymmetric) _ _
    (λ k. f.whole k refl ∙ sym (at-texts m k))

-- ---- writing

joined_one : (o : Option (List ℕ)) → joined (cons_option o []) ≡ o
joined_one None = refl
joined_one (Some t) = ap Some (append-nil t)

one_of_three : (a b : Bool) (x y : Option (List ℕ)) → y ≡ x → cond {A = Option (List ℕ)} a x (cond {A = Option (List ℕ)} b y x) ≡ x
one_of_three true b x y h = refl
one_of_three false true x y h = h
one_of_three false false x y h = refl

-- one value has its own text, whatever the name
one_text : (name : List ℕ) (v : FieldValue) → text_of name (v ∷ []) ≡ text v
one_text name v = one_of_three (bytes_eq name (codes "traceparent")) (is_list name) (text v) (joined (cons_option (text v) [])) (joined_one (text v))

after_insert : (m : Headers) (name value q : List ℕ) → text (plain_value value) ≡ Some value
    → text_at (insert m name (plain_value value)) q ≡ option_or (cond (bytes_eq name q) (Some value) None) (at (texts m) q)
after_insert m name value q readable = elim (cases_Bool (bytes_eq name q)) [
  | inl here ↦
      let same : name ≡ q = (bytes_eq-Decides name q).0 here in
      let values : get_all (insert m name (plain_value value)) q ≡ plain_value value ∷ [] =
      subst (λ x. get_all (insert m name (plain_value value)) x ≡ plain_value value ∷ []) same (get_all-insert_same m name (plain_value value)) in
      rw here (ap (text_of q) values ∙ one_text q (plain_value value) ∙ readable)
  | inr other ↦
      let apart : name ≢ q = λ e. true≢false (sym ((bytes_eq-Decides name q).1 e) ∙ other) in
      rw other (ap (text_of q) (get_all-insert_other m name q (plain_value value) apart) ∙ sym (at-texts m q))
]

-- a value in place of all values of a name sets its text
pub sets_header : (m n : Headers) (key value : List ℕ) → n ≡ insert m (lower key) (plain_value value)
    → text (plain_value value) ≡ Some value → Sets (texts m) ((key, value) ∷ []) (texts n)
sets_header m n key value is readable = record {
  at_key = λ q. at-texts n q ∙ ap (λ (h : Headers). text_at h q) is ∙ after_insert m (lower key) value q readable;
}
