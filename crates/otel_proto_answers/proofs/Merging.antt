-- The values after more fields.
use Rattle.std.proofs.Common.{◌≡◌, ℕ, List, [], ◌∷◌, ◌++◌, Option, Some, None, Bool, true, false, if◌then◌else◌, refl, sym, ap, ◌∙◌, append_assoc, append-nil}
use Rattle.std.specs.Prelude.{option_map, option_and_then, unwrap_or, ◌==◌, ◌&&◌, IsUtf8}
use Rattle.std.specs.List.{last_or, list_all}
use Rattle.std.specs.Str.{is_utf8}
use Rattle.std.proofs.lemmas.List.Elements.{filter_map-append}
use Rattle.std.proofs.lemmas.List.Folds.{list_all-append}
use Rattle.std.proofs.lemmas.Str.{is_utf8-from_IsUtf8, IsUtf8-from_is_utf8}
use Rattle.otel_proto.specs.Wire.{Content, Field, bytes, read}
use Rattle.otel_proto_answers.specs.Answers.{as_varint, as_bytes, values, last_of, merged, message_of, Scalars, scalars}
use Rattle.otel_proto_answers.specs.Seen.{response_after}

-- ---- a string
not_text : (bs : List ℕ) (b : Bool) → is_utf8 bs ≡ b → (IsUtf8 bs → ⊥) → is_utf8 bs ≡ false
not_text bs true e isnt = absurd (isnt (IsUtf8-from_is_utf8 bs e))
not_text bs false e isnt = e

only_text : Scalars → List ℕ → Bool → Option Scalars
only_text s bs test = if test && true then Some (record { integer = s.integer; string = bs }) else None

the_field : (f : Field) (bs : List ℕ) → f.0 ≡ 2 → f.1 ≡ bytes bs → f ≡ (2, bytes bs)
the_field f bs number content i = (number i, content i)

pub text_counts : (s : Scalars) (f : Field) (bs text : List ℕ) → f.0 ≡ 2 → f.1 ≡ bytes bs → text ≡ bs → IsUtf8 bs → Some (record { integer = s.integer; string = text }) ≡ scalars s (f ∷ [])
unfolding only_text
text_counts s f bs text number content same is =
    ap (λ (t : List ℕ). Some (record { integer = s.integer; string = t })) same
    ∙ sym (ap (only_text s bs) (is_utf8-from_IsUtf8 bs is))
    ∙ sym (ap (λ (g : Field). scalars s (g ∷ [])) (the_field f bs number content))

pub no_text : (s : Scalars) (f : Field) (bs : List ℕ) → f.0 ≡ 2 → f.1 ≡ bytes bs → (IsUtf8 bs → ⊥) → None ≡ scalars s (f ∷ [])
unfolding only_text
no_text s f bs number content isnt =
    sym (ap (only_text s bs) (not_text bs (is_utf8 bs) refl isnt))
    ∙ sym (ap (λ (g : Field). scalars s (g ∷ [])) (the_field f bs number content))

-- ---- fields after fields
last_is : {A : Type 0} (d e x : A) (vs : List A) → unwrap_or (last_or (Some x) vs) d ≡ unwrap_or (last_or (Some x) vs) e
last_is d e x [] = refl
last_is d e x (y ∷ vs) = last_is d e y vs

last_next : {A : Type 0} (d x : A) (vs : List A) → last_of d (x ∷ vs) ≡ last_of x vs
last_next d x [] = refl
last_next d x (y ∷ vs) = last_is d x y vs

last_both : {A : Type 0} (d : A) (us vs : List A) → last_of d (us ++ vs) ≡ last_of (last_of d us) vs
last_both d [] vs = refl
last_both d (x ∷ us) vs = last_next d x (us ++ vs) ∙ last_both x us vs ∙ ap (λ e. last_of e vs) (sym (last_next d x us))

values_both : {A : Type 0} (kind : Content → Option A) (number : ℕ) (xs ys : List Field) → values kind number (xs ++ ys) ≡ values kind number xs ++ values kind number ys
values_both kind number xs ys = filter_map-append (λ (f : Field). if f.0 == number then kind f.1 else None) xs ys

chosen : Bool → ℕ → List ℕ → Option Scalars
chosen test number text = if test then Some (record { integer = number; string = text }) else None

chosen_both : (p q : Bool) (m n : ℕ) (s t : List ℕ) (d : Scalars → Option Scalars) → d (record { integer = m; string = s }) ≡ chosen q n t → chosen (p && q) n t ≡ option_and_then d (chosen p m s)
unfolding chosen
chosen_both true q m n s t d h = sym h
chosen_both false q m n s t d h = refl

scalars_is : (s : Scalars) (fs : List Field) → scalars s fs ≡ chosen (list_all is_utf8 (values as_bytes 2 fs)) (last_of s.integer (values as_varint 1 fs)) (last_of s.string (values as_bytes 2 fs))
unfolding chosen
scalars_is s fs = refl

-- one part of the fields after another
abbrev pub Joins : (Scalars → List Field → Option Scalars) → Type 0
Joins P = (s : Scalars) (xs ys : List Field) → P s (xs ++ ys) ≡ option_and_then (λ t. P t ys) (P s xs)

pub scalars_join : Joins scalars
unfolding chosen
scalars_join s xs ys =
    let m = last_of s.integer (values as_varint 1 xs) in
    let t = last_of s.string (values as_bytes 2 xs) in
    let tests : list_all is_utf8 (values as_bytes 2 (xs ++ ys)) ≡ (list_all is_utf8 (values as_bytes 2 xs) && list_all is_utf8 (values as_bytes 2 ys)) =
    ap (list_all is_utf8) (values_both as_bytes 2 xs ys) ∙ list_all-append is_utf8 (values as_bytes 2 xs) (values as_bytes 2 ys) in
    let numbers : last_of s.integer (values as_varint 1 (xs ++ ys)) ≡ last_of m (values as_varint 1 ys) =
    ap (last_of s.integer) (values_both as_varint 1 xs ys) ∙ last_both s.integer (values as_varint 1 xs) (values as_varint 1 ys) in
    let texts : last_of s.string (values as_bytes 2 (xs ++ ys)) ≡ last_of t (values as_bytes 2 ys) =
    ap (last_of s.string) (values_both as_bytes 2 xs ys) ∙ last_both s.string (values as_bytes 2 xs) (values as_bytes 2 ys) in
    (λ i. chosen (tests i) (numbers i) (texts i))
    ∙ chosen_both (list_all is_utf8 (values as_bytes 2 xs)) (list_all is_utf8 (values as_bytes 2 ys)) m (last_of m (values as_varint 1 ys)) t (last_of t (values as_bytes 2 ys)) (λ (u : Scalars). scalars u ys) refl

-- ---- bytes after bytes
pub goes_on : (P : Scalars → List Field → Option Scalars) → Joins P → (s t : Scalars) (part : List Field) (bs after : List ℕ) → read bs ≡ option_map (λ (fs : List Field). part ++ fs) (read after) → Some t ≡ P s part → option_and_then (P s) (read bs) ≡ option_and_then (P t) (read after)
goes_on P joins s t part bs after h e = ap (option_and_then (P s)) h ∙ next (read after)
  where
    next : (o : Option (List Field)) → option_and_then (P s) (option_map (λ (fs : List Field). part ++ fs) o) ≡ option_and_then (P t) o
    next None = refl
    next (Some fs) = joins s part fs ∙ ap (option_and_then (λ (u : Scalars). P u fs)) (sym e)

pub stops : (P : Scalars → List Field → Option Scalars) → Joins P → (s : Scalars) (part : List Field) (bs after : List ℕ) → read bs ≡ option_map (λ (fs : List Field). part ++ fs) (read after) → None ≡ P s part → option_and_then (P s) (read bs) ≡ None
stops P joins s part bs after h e = ap (option_and_then (P s)) h ∙ next (read after)
  where
    next : (o : Option (List Field)) → option_and_then (P s) (option_map (λ (fs : List Field). part ++ fs) o) ≡ None
    next None = refl
    next (Some fs) = joins s part fs ∙ ap (option_and_then (λ (u : Scalars). P u fs)) (sym e)

-- ---- messages after messages
merged_both : (us vs : List (List ℕ)) → merged (us ++ vs) ≡ option_and_then (λ fields. option_map (λ others. fields ++ others) (merged vs)) (merged us)
merged_both [] vs = none_first (merged vs)
  where
    none_first : (o : Option (List Field)) → o ≡ option_map (λ (others : List Field). [] ++ others) o
    none_first None = refl
    none_first (Some fs) = refl
merged_both (u ∷ us) vs =
    ap (λ (o : Option (List Field)). option_and_then (λ (fields : List Field). option_map (λ (others : List Field). fields ++ others) o) (read u)) (merged_both us vs)
    ∙ regroup (read u) (merged us) (merged vs)
  where
    regroup : (o p q : Option (List Field))
        → option_and_then (λ (fields : List Field). option_map (λ (others : List Field). fields ++ others) (option_and_then (λ (f : List Field). option_map (λ (g : List Field). f ++ g) q) p)) o
        ≡ option_and_then (λ (fields : List Field). option_map (λ (others : List Field). fields ++ others) q) (option_and_then (λ (fields : List Field). option_map (λ (others : List Field). fields ++ others) p) o)
    regroup None p q = refl
    regroup (Some f) None q = refl
    regroup (Some f) (Some g) None = refl
    regroup (Some f) (Some g) (Some h) = ap Some (sym (append_assoc f g h))

through : (s : Scalars) (p q : Option (List Field)) → option_and_then (scalars s) (option_and_then (λ (fields : List Field). option_map (λ (others : List Field). fields ++ others) q) p) ≡ option_and_then (λ (t : Scalars). option_and_then (scalars t) q) (option_and_then (scalars s) p)
through s None q = refl
through s (Some f) None = nothing (scalars s f)
  where
    nothing : (o : Option Scalars) → None ≡ option_and_then (λ (t : Scalars). option_and_then (scalars t) None) o
    nothing None = refl
    nothing (Some t) = refl
through s (Some f) (Some g) = scalars_join s f g

pub response_joins : Joins response_after
response_joins s xs ys =
    ap (option_and_then (scalars s)) (ap merged (values_both as_bytes 1 xs ys) ∙ merged_both (values as_bytes 1 xs) (values as_bytes 1 ys))
    ∙ through s (message_of 1 xs) (message_of 1 ys)

-- of one message
pub one_merged : (o : Option (List Field)) → option_and_then (λ (fields : List Field). option_map (λ (others : List Field). fields ++ others) (Some [])) o ≡ o
one_merged None = refl
one_merged (Some fs) = ap Some (append-nil fs)

-- the one message of a response
pub one_message : (s : Scalars) (f : Field) (bs : List ℕ) → f.0 ≡ 1 → f.1 ≡ bytes bs → option_and_then (scalars s) (read bs) ≡ response_after s (f ∷ [])
one_message s f bs number content =
    let the : f ≡ (1, bytes bs) = λ i. (number i, content i) in
    ap (option_and_then (scalars s)) (sym (one_merged (read bs)))
    ∙ sym (ap (λ (g : Field). response_after s (g ∷ [])) the)
