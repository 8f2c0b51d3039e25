-- The fields of a message as pieces, each a number with its contents: fields that are equal have
-- equal contents under each number.
use Rattle.std.proofs.Common.{◌≡◌, ℕ, ◌+◌, ◌<◌, ◌^◌, ◌==◌, List, [], ◌∷◌, ◌++◌, length, map, Option, Some, None, Bool, true, false, if◌then◌else◌, true≢false, refl, sym, ap, ◌∙◌, subst, append_assoc, append-nil, length-append, eq-eqb, arith}
use Rattle.std.specs.Prelude.{⊤}
use Rattle.std.specs.List.{All}
use Rattle.std.proofs.lemmas.Grind.{common_steps}
use Rattle.std.proofs.lemmas.List.Concat.{flat_map-cons}
use Rattle.std.proofs.lemmas.List.Elements.{All-nil, All-cons, All-append, All-head, All-tail}
use Rattle.otel_proto.specs.Laws.{IsField, FitsType, AreShort}
use Rattle.otel_proto.specs.Wire.{Field, Content, varint, fixed64, bytes, fixed32, is_number}
use Rattle.otel_proto.proofs.shared.ReadBack.{equal_bytes}
use Rattle.otel_proto_batches.specs.Common.{text_if_given}
use Rattle.otel_proto_batches.specs.Facts.{told_text}
use Rattle.otel_proto.specs.Written.{bytes_of, field_bytes, content_bytes, head, bytes_unless_empty, number_unless_zero, fixed64_unless_zero, message, messages}

-- ---- contents
-- the contents of the fields with the number, in order
abbrev contents : ℕ → List Field → List Content
contents n [] = []
contents n (f ∷ fs) = if f.0 == n then f.1 ∷ contents n fs else contents n fs

contents-append : (n : ℕ) (fs gs : List Field) → contents n (fs ++ gs) ≡ contents n fs ++ contents n gs
contents-append n [] gs = refl
contents-append n (f ∷ fs) gs = by (f.0 == n) (contents-append n fs gs)
  where
    by : (b : Bool) → contents n (fs ++ gs) ≡ contents n fs ++ contents n gs
        → (if b then f.1 ∷ contents n (fs ++ gs) else contents n (fs ++ gs)) ≡ (if b then f.1 ∷ contents n fs else contents n fs) ++ contents n gs
    by true e = ap (λ cs. f.1 ∷ cs) e
    by false e = e

-- ---- pieces
-- a number with its contents
abbrev pub Piece : Type 0
Piece = ℕ × List Content

abbrev pub of_piece : Piece → List Field
of_piece p = map (λ c. (p.0, c)) p.1

-- the fields of the pieces
abbrev pub expand : List Piece → List Field
expand [] = []
expand (p ∷ ps) = of_piece p ++ expand ps

pub expand-append : (ps qs : List Piece) → expand (ps ++ qs) ≡ expand ps ++ expand qs
expand-append [] qs = refl
expand-append (p ∷ ps) qs =
    ap (λ fs. of_piece p ++ fs) (expand-append ps qs) ∙ sym (append_assoc (of_piece p) (expand ps) (expand qs))

-- the contents under a number
abbrev pub at : ℕ → List Piece → List Content
at n [] = []
at n (p ∷ ps) = if p.0 == n then p.1 ++ at n ps else at n ps

contents-piece : (n k : ℕ) (cs : List Content) → contents n (of_piece (k, cs)) ≡ (if k == n then cs else [])
contents-piece n k cs = by (k == n) cs
  where
    all : (b : Bool) → List Content → List Content
    all b [] = []
    all b (c ∷ cs) = if b then c ∷ all b cs else all b cs

    each : (cs : List Content) → contents n (of_piece (k, cs)) ≡ all (k == n) cs
    each [] = refl
    each (c ∷ cs) = ap (λ ds. if k == n then c ∷ ds else ds) (each cs)

    taken : (b : Bool) (cs : List Content) → all b cs ≡ (if b then cs else [])
    taken true [] = refl
    taken true (c ∷ cs) = ap (λ ds. c ∷ ds) (taken true cs)
    taken false [] = refl
    taken false (c ∷ cs) = taken false cs

    by : (b : Bool) (cs : List Content) → contents n (of_piece (k, cs)) ≡ (if k == n then cs else [])
    by b cs = each cs ∙ taken (k == n) cs

contents_at : (n : ℕ) (ps : List Piece) → contents n (expand ps) ≡ at n ps
contents_at n [] = refl
contents_at n (p ∷ ps) =
    contents-append n (of_piece p) (expand ps)
    ∙ ap (λ cs. cs ++ contents n (expand ps)) (contents-piece n p.0 p.1)
    ∙ ap (λ cs. (if p.0 == n then p.1 else []) ++ cs) (contents_at n ps)
    ∙ by (p.0 == n)
  where
    by : (b : Bool) → (if b then p.1 else []) ++ at n ps ≡ (if b then p.1 ++ at n ps else at n ps)
    by true = refl
    by false = refl

-- ---- fields as pieces
pub record IsPiece (fs : List Field) (p : Piece) : Type 0 where
  pub is : fs ≡ of_piece p

pub record IsOf (fs : List Field) (ps : List Piece) : Type 0 where
  pub is : fs ≡ expand ps

pub last_of : {fs : List Field} {p : Piece} → IsPiece fs p → IsOf fs (p ∷ [])
last_of {p = p} h = record { is = h.is ∙ sym (append-nil (of_piece p)) }

pub more_of : {fs gs : List Field} {p : Piece} {ps : List Piece} → IsPiece fs p → IsOf gs ps → IsOf (fs ++ gs) (p ∷ ps)
more_of h k = let first = h.is in let rest = k.is in record { is = λ i. first i ++ rest i }

pub both_of : {fs gs : List Field} {ps qs : List Piece} → IsOf fs ps → IsOf gs qs → IsOf (fs ++ gs) (ps ++ qs)
both_of {ps = ps} {qs = qs} h k =
    let first = h.is in let rest = k.is in
    let joined = expand-append ps qs in
    record { is = (λ i. first i ++ rest i) ∙ sym joined }

pub one_piece : (n : ℕ) (c : Content) → IsPiece ((n, c) ∷ []) (n, c ∷ [])
one_piece n c = record { is = refl }

pub if_piece : (b : Bool) (n : ℕ) (c : Content) → IsPiece (if b then [] else (n, c) ∷ []) (n, if b then [] else c ∷ [])
if_piece true n c = record { is = refl }
if_piece false n c = record { is = refl }

abbrev pub one : Content → List Content
one c = c ∷ []

abbrev pub text : List ℕ → List Content
text s = if length s == 0 then [] else bytes s ∷ []

pub text_piece : (n : ℕ) (s : List ℕ) → IsPiece (bytes_unless_empty n s) (n, text s)
text_piece n s = if_piece (length s == 0) n (bytes s)

-- one that may not be there
pub given_piece : (n : ℕ) (t : Option (List ℕ)) → IsPiece (text_if_given n t) (n, text (told_text t))
given_piece n None = record { is = refl }
given_piece n (Some t) = text_piece n t

abbrev pub number : ℕ → List Content
number v = if v == 0 then [] else varint v ∷ []

pub number_piece : (n v : ℕ) → IsPiece (number_unless_zero n v) (n, number v)
number_piece n v = if_piece (v == 0) n (varint v)

abbrev pub time : ℕ → List Content
time v = if v == 0 then [] else fixed64 v ∷ []

pub time_piece : (n v : ℕ) → IsPiece (fixed64_unless_zero n v) (n, time v)
time_piece n v = if_piece (v == 0) n (fixed64 v)

-- the messages of the elements
abbrev pub each : {A : Type 0} → (A → List Field) → List A → List Content
each f xs = map (λ x. bytes (bytes_of (f x))) xs

each_are : {A : Type 0} (n : ℕ) (f : A → List Field) (xs : List A) → messages n f xs ≡ of_piece (n, each f xs)
each_are n f [] = refl
each_are n f (x ∷ xs) = ap (λ fs. message n (f x) ∷ fs) (each_are n f xs)

pub each_piece : {A : Type 0} (n : ℕ) (f : A → List Field) (xs : List A) → IsPiece (messages n f xs) (n, each f xs)
each_piece n f xs = record { is = each_are n f xs }

-- equal fields have equal contents
pub same_at : {fs gs : List Field} {ps qs : List Piece} → IsOf fs ps → IsOf gs qs → fs ≡ gs → (n : ℕ) → at n ps ≡ at n qs
same_at {ps = ps} {qs = qs} f g e n = sym (contents_at n ps) ∙ ap (contents n) (sym f.is ∙ e ∙ g.is) ∙ contents_at n qs

-- ---- the value of a content
abbrev pub text_in : List Content → List ℕ
text_in (bytes s ∷ cs) = s
text_in other = []

abbrev pub number_in : List Content → ℕ
number_in (varint v ∷ cs) = v
number_in (fixed64 v ∷ cs) = v
number_in (fixed32 v ∷ cs) = v
number_in other = 0

empty_is : {A : Type 0} (t : List A) → (length t == 0) ≡ true → t ≡ []
empty_is [] e = refl
empty_is (x ∷ t) e = absurd (grind (arith, common_steps))

pub zero_is : (n : ℕ) → (n == 0) ≡ true → n ≡ 0
zero_is n e = grind (arith, common_steps)

pub text_again : (s : List ℕ) → text_in (text s ++ []) ≡ s
text_again s = by (length s == 0) refl
  where
    by : (b : Bool) → (length s == 0) ≡ b → text_in ((if b then [] else bytes s ∷ []) ++ []) ≡ s
    by true e = sym (empty_is s e)
    by false e = refl

pub number_again : (v : ℕ) → number_in (number v ++ []) ≡ v
number_again v = by (v == 0) refl
  where
    by : (b : Bool) → (v == 0) ≡ b → number_in ((if b then [] else varint v ∷ []) ++ []) ≡ v
    by true e = sym (zero_is v e)
    by false e = refl

pub time_again : (v : ℕ) → number_in (time v ++ []) ≡ v
time_again v = by (v == 0) refl
  where
    by : (b : Bool) → (v == 0) ≡ b → number_in ((if b then [] else fixed64 v ∷ []) ++ []) ≡ v
    by true e = sym (zero_is v e)
    by false e = refl

-- ---- the contents of all fields
abbrev pub contents_of : List Field → List Content
contents_of fs = map (λ f. f.1) fs

abbrev pub first_number : List Field → ℕ
first_number [] = 0
first_number (f ∷ fs) = f.0

-- fields whose first numbers differ
pub differ : (fs gs : List Field) → (first_number fs == first_number gs) ≡ false → fs ≡ gs → ⊥
differ fs gs d e = true≢false (sym (eq-eqb (first_number fs) (first_number gs) (ap first_number e)) ∙ d)

-- the varint of a boolean
abbrev pub bit : Bool → ℕ
bit b = if b then 1 else 0

pub same_boolean : (a b : Bool) → bit a ≡ bit b → a ≡ b
same_boolean true true e = refl
same_boolean true false e = absurd (omega (arith, e))
same_boolean false true e = absurd (omega (arith, e))
same_boolean false false e = refl

pub boolean_small : (b : Bool) → bit b < 2 ^ 64
boolean_small true = omega arith
boolean_small false = omega arith

-- contents that are the same but for an empty end
pub same_ends : (cs ds : List Content) → cs ++ [] ≡ ds ++ [] → cs ≡ ds
same_ends cs ds e = sym (append-nil cs) ∙ e ∙ append-nil ds

-- ---- fields that fit their types
pub record FitTypes (cs : List Content) : Type 0 where
  pub all : All FitsType cs

-- all are fields
pub record Fit (ps : List Piece) : Type 0 where
  pub all : All IsField (expand ps)

piece_fits : (n : ℕ) (cs : List Content) → is_number n ≡ true → All FitsType cs → All IsField (of_piece (n, cs))
piece_fits n [] known h = All-nil IsField
piece_fits n (c ∷ cs) known h =
    All-cons IsField (n, c) (of_piece (n, cs)) (record { number = known; content = All-head FitsType c cs h }) (piece_fits n cs known (All-tail FitsType c cs h))

pub none_fit : Fit []
none_fit = record { all = All-nil IsField }

-- one more piece
pub fits : (n : ℕ) {cs : List Content} {ps : List Piece} → is_number n ≡ true → FitTypes cs → Fit ps → Fit ((n, cs) ∷ ps)
fits n {cs = cs} {ps = ps} known h more =
    record { all = All-append IsField (of_piece (n, cs)) (expand ps) (piece_fits n cs known h.all) more.all }

-- more pieces
pub both_fit : {ps qs : List Piece} → Fit ps → Fit qs → Fit (ps ++ qs)
both_fit {ps = ps} {qs = qs} h k =
    record { all = subst (All IsField) (sym (expand-append ps qs)) (All-append IsField (expand ps) (expand qs) h.all k.all) }

-- fields whose pieces fit
pub all_fields : {fs : List Field} {ps : List Piece} → IsOf fs ps → Fit ps → All IsField fs
all_fields e h = subst (All IsField) (sym e.is) h.all

pub none_fits : FitTypes []
none_fits = record { all = All-nil FitsType }

pub one_fits : (c : Content) → FitsType c → FitTypes (c ∷ [])
one_fits c h = record { all = All-cons FitsType c [] h (All-nil FitsType) }

pub if_fits : (b : Bool) (c : Content) → FitsType c → FitTypes (if b then [] else c ∷ [])
if_fits true c h = record { all = All-nil FitsType }
if_fits false c h = one_fits c h

pub text_fits : (s : List ℕ) → FitTypes (text s)
text_fits s = if_fits (length s == 0) (bytes s) tt

pub number_fits : (v : ℕ) → v < 2 ^ 32 → FitTypes (number v)
number_fits v h = if_fits (v == 0) (varint v) (omega arith)

pub time_fits : (v : ℕ) → v < 2 ^ 64 → FitTypes (time v)
time_fits v h = if_fits (v == 0) (fixed64 v) h

all_fit : {A : Type 0} (f : A → List Field) (xs : List A) → All FitsType (each f xs)
all_fit f [] = All-nil FitsType
all_fit f (x ∷ xs) = All-cons FitsType (bytes (bytes_of (f x))) (each f xs) tt (all_fit f xs)

pub each_fits : {A : Type 0} (f : A → List Field) (xs : List A) → FitTypes (each f xs)
each_fits f xs = record { all = all_fit f xs }

-- ---- short messages
-- the length of bytes is a number of 64 bits
abbrev pub IsShort : Content → Type 0
IsShort (bytes s) = length s < 2 ^ 64
IsShort other = ⊤

content_short : (n : ℕ) (c : Content) → length (content_bytes n c) < 2 ^ 64 → IsShort c
content_short n (varint v) h = tt
content_short n (fixed64 v) h = tt
content_short n (bytes s) h = omega (arith, h, length-append (head n (length s)) s)
content_short n (fixed32 v) h = tt

bytes_more : (f : Field) (fs : List Field) → length (bytes_of (f ∷ fs)) ≡ length (field_bytes f) + length (bytes_of fs)
unfolding bytes_of
bytes_more f fs = ap length (flat_map-cons field_bytes f fs) ∙ length-append (field_bytes f) (bytes_of fs)

contents_short : (n : ℕ) (fs : List Field) → AreShort fs → All IsShort (contents n fs)
contents_short n [] h = All-nil IsShort
contents_short n (f ∷ fs) h =
    by (f.0 == n) (content_short f.0 f.1 (omega (arith, h, bytes_more f fs))) (contents_short n fs (omega (arith, h, bytes_more f fs)))
  where
    by : (b : Bool) → IsShort f.1 → All IsShort (contents n fs) → All IsShort (if b then f.1 ∷ contents n fs else contents n fs)
    by true first rest = All-cons IsShort f.1 (contents n fs) first rest
    by false first rest = rest

pub first_short : (f : Field) (fs : List Field) → AreShort (f ∷ fs) → IsShort f.1
first_short f fs h = content_short f.0 f.1 (omega (arith, h, bytes_more f fs))

pub rest_short : (f : Field) (fs : List Field) → AreShort (f ∷ fs) → AreShort fs
rest_short f fs h = omega (arith, h, bytes_more f fs)

-- the contents under a number of short fields are short
pub short_at : {fs : List Field} {ps : List Piece} → IsOf fs ps → AreShort fs → (n : ℕ) → All IsShort (at n ps)
short_at {fs = fs} {ps = ps} e h n = subst (All IsShort) (ap (contents n) e.is ∙ contents_at n ps) (contents_short n fs h)

pub short_one : (s : List ℕ) → All IsShort (bytes s ∷ []) → length s < 2 ^ 64
short_one s h = All-head IsShort (bytes s) [] h

pub short_ends : (cs : List Content) → All IsShort (cs ++ []) → All IsShort cs
short_ends cs h = subst (All IsShort) (append-nil cs) h

-- ---- messages that are the same
abbrev pub is_none : {A : Type 0} → List A → Bool
is_none [] = true
is_none (x ∷ xs) = false

abbrev pub others : {A : Type 0} → List A → List A
others [] = []
others (x ∷ xs) = xs

-- the fields of one message
pub one_same : (fs gs : List Field) → All IsField fs → All IsField gs → AreShort fs → one (bytes (bytes_of fs)) ≡ one (bytes (bytes_of gs)) → fs ≡ gs
one_same fs gs f g short e = equal_bytes fs gs f g short (ap text_in e)

-- elements whose messages have the same bytes have the same facts
module _ {A B C : Type 0} (f : A → List Field) (k : B → List Field) (g : A → C) (h : B → C) (P : A → Type 0) (Q : B → Type 0)
    (first : (x : A) → P x → All IsField (f x)) (second : (y : B) → Q y → All IsField (k y))
    (alike : (x : A) (y : B) → P x → Q y → AreShort (f x) → f x ≡ k y → g x ≡ h y) where
  pub each_same : (xs : List A) (ys : List B) → All P xs → All Q ys → All IsShort (each f xs) → each f xs ≡ each k ys → map g xs ≡ map h ys
  each_same [] [] p q s e = refl
  each_same [] (y ∷ ys) p q s e = absurd (true≢false (ap is_none e))
  each_same (x ∷ xs) [] p q s e = absurd (true≢false (sym (ap is_none e)))
  each_same (x ∷ xs) (y ∷ ys) p q s e =
      let px : P x = All-head P x xs p in
      let qy : Q y = All-head Q y ys q in
      let short : AreShort (f x) = All-head IsShort (bytes (bytes_of (f x))) (each f xs) s in
      let same : f x ≡ k y = equal_bytes (f x) (k y) (first x px) (second y qy) short (ap text_in e) in
      ap (λ z. z ∷ map g xs) (alike x y px qy short same)
      ∙ ap (λ zs. h y ∷ zs) (each_same xs ys (All-tail P x xs p) (All-tail Q y ys q) (All-tail IsShort (bytes (bytes_of (f x))) (each f xs) s) (ap others e))
