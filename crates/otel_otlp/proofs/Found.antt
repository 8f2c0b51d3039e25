-- The value under a name in an object, from the members that were put.
use Rattle.std.proofs.Common.{◌≡◌, List, [], ◌∷◌, ◌++◌, ℕ, length, Option, Some, None, Bool, true, false, ◌==◌, if◌then◌else◌, refl, sym, ap, ◌∙◌}
use Rattle.std.proofs.lemmas.Bool.{false≢true}
use Rattle.std.proofs.lemmas.Slice.Eq.{bytes_eq-Decides}
use Rattle.std.specs.Str.{bytes_eq}
use Rattle.serde_json.specs.Data.{Data, string, number, unsigned, array, Members, no_members, put}
use Rattle.serde_json.specs.View.{items_of}
use Rattle.serde_json.specs.Find.{get_member, get}
use Rattle.serde_json.proofs.Views.{get_member-put, get_member-put_other}
use Rattle.otel_otlp.specs.Json.{Member, put_all, object_of, list_unless_empty, number_unless_zero, text_unless_empty}

-- the first that exists
abbrev pub or_else : Option Data → Option Data → Option Data
or_else None y = y
or_else (Some x) y = Some x

abbrev pub if_so : Bool → Data → Option Data
if_so true d = Some d
if_so false d = None

-- the last of the members with this name
abbrev pub found : List ℕ → List Member → Option Data
found q [] = None
found q (m ∷ more) = or_else (found q more) (if_so (bytes_eq q m.0) m.1)

or_else-assoc : (x y z : Option Data) → or_else x (or_else y z) ≡ or_else (or_else x y) z
or_else-assoc None y z = refl
or_else-assoc (Some x) y z = refl

pub or_else-none : (x : Option Data) → or_else x None ≡ x
or_else-none None = refl
or_else-none (Some x) = refl

get_put : (b : Bool) (q k : List ℕ) (d : Data) (ms : Members) → bytes_eq q k ≡ b → get_member q (put k d ms) ≡ or_else (if_so b d) (get_member q ms)
get_put true q k d ms e =
    let same : q ≡ k = (bytes_eq-Decides q k).0 e in
    ap (λ n. get_member n (put k d ms)) same ∙ get_member-put k d ms
get_put false q k d ms e = get_member-put_other q k d ms (λ same. absurd (false≢true (sym e ∙ (bytes_eq-Decides q k).1 same)))

-- the value found in an object is the last one put under the name
pub get_all : (q : List ℕ) (ms : Members) (xs : List Member) → get_member q (put_all ms xs) ≡ or_else (found q xs) (get_member q ms)
get_all q ms [] = refl
get_all q ms (x ∷ more) =
    get_all q (put x.0 x.1 ms) more
    ∙ ap (or_else (found q more)) (get_put (bytes_eq q x.0) q x.0 x.1 ms refl)
    ∙ or_else-assoc (found q more) (if_so (bytes_eq q x.0) x.1) (get_member q ms)

-- equal objects have the same under each name
pub same_found : (q : List ℕ) (xs ys : List Member) → object_of xs ≡ object_of ys → found q xs ≡ found q ys
same_found q xs ys e =
    sym (or_else-none (found q xs)) ∙ sym (get_all q no_members xs) ∙ ap (get q) e ∙ get_all q no_members ys ∙ or_else-none (found q ys)

pub found-append : (q : List ℕ) (xs ys : List Member) → found q (xs ++ ys) ≡ or_else (found q ys) (found q xs)
found-append q [] ys = sym (or_else-none (found q ys))
found-append q (x ∷ xs) ys =
    ap (λ o. or_else o (if_so (bytes_eq q x.0) x.1)) (found-append q xs ys)
    ∙ sym (or_else-assoc (found q ys) (found q xs) (if_so (bytes_eq q x.0) x.1))

-- after members that don't have the name
pub found-before : (q : List ℕ) (xs ys : List Member) → found q ys ≡ None → found q (xs ++ ys) ≡ found q xs
found-before q xs ys none = found-append q xs ys ∙ ap (λ o. or_else o (found q xs)) none

pub if_none : (b : Bool) (q : List ℕ) (xs : List Member) → found q xs ≡ None → found q (if b then [] else xs) ≡ None
if_none true q xs none = refl
if_none false q xs none = none

pub no_list : (q n : List ℕ) (ds : List Data) → bytes_eq q n ≡ false → found q (list_unless_empty n ds) ≡ None
no_list q n ds e = if_none (length ds == 0) q _ (ap (λ b. if_so b (array (items_of ds))) e)

pub no_number : (q n : List ℕ) (k : ℕ) → bytes_eq q n ≡ false → found q (number_unless_zero n k) ≡ None
no_number q n k e = if_none (k == 0) q _ (ap (λ b. if_so b (number (unsigned k))) e)

pub no_text : (q n : List ℕ) (t : List ℕ) → bytes_eq q n ≡ false → found q (text_unless_empty n t) ≡ None
no_text q n t e = if_none (length t == 0) q _ (ap (λ b. if_so b (string t)) e)

-- the text and the number of the value that is found
abbrev pub text_in : Option Data → List ℕ
text_in (Some (string s)) = s
text_in other = []

abbrev pub number_in : Option Data → ℕ
number_in (Some (number (unsigned n))) = n
number_in other = 0
