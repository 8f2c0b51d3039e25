-- Lists that have equal values, and the items of an array of JSON.
use Rattle.std.proofs.Common.{◌≡◌, List, [], ◌∷◌, ℕ, map, length, Option, Some, Bool, true, false, true≢false, ◌==◌, if◌then◌else◌, refl, sym, ap, ◌∙◌}
use Rattle.std.proofs.lemmas.List.Elements.{All-head, All-tail}
use Rattle.std.specs.List.{All, AllZip}
use Rattle.std.specs.Str.{bytes_eq}
use Rattle.serde_json.specs.Data.{Data, null, array, Items, no_items, item}
use Rattle.serde_json.specs.View.{items_of}
use Rattle.otel_otlp.specs.Json.{list_member, list_unless_empty}
use Rattle.otel_otlp.proofs.Found.{if_so, found}
use Rattle.otel_otlp.proofs.LeftOut.{empty_is}

abbrev first : {A : Type 0} → A → List A → A
first d [] = d
first d (x ∷ xs) = x

abbrev rest : {A : Type 0} → List A → List A
rest [] = []
rest (x ∷ xs) = xs

abbrev pub is_empty : {A : Type 0} → List A → Bool
is_empty [] = true
is_empty (x ∷ xs) = false

-- items that have equal values are alike
pub each : {A B : Type 0} (f : A → Data) (g : B → Data) (P : A → Type 0) (Q : B → Type 0) (R : A → B → Type 0) (alike : (x : A) (y : B) → P x → Q y → f x ≡ g y → R x y)
    (xs : List A) (ys : List B) → All P xs → All Q ys → map f xs ≡ map g ys → AllZip R xs ys
each f g P Q R alike [] [] p q e = tt
each f g P Q R alike [] (y ∷ ys) p q e = absurd (true≢false (ap is_empty e))
each f g P Q R alike (x ∷ xs) [] p q e = absurd (true≢false (sym (ap is_empty e)))
each f g P Q R alike (x ∷ xs) (y ∷ ys) p q e =
    (alike x y (All-head P x xs p) (All-head Q y ys q) (ap (first null) e), each f g P Q R alike xs ys (All-tail P x xs p) (All-tail Q y ys q) (ap rest e))

-- the same with each item mapped
pub each_mapped : {A B : Type 0} (g : A → B) (xs ys : List A) → AllZip (λ x y. g x ≡ g y) xs ys → map g xs ≡ map g ys
each_mapped g [] [] h = refl
each_mapped g [] (y ∷ ys) h = absurd h
each_mapped g (x ∷ xs) [] h = absurd h
each_mapped g (x ∷ xs) (y ∷ ys) h = ap (λ z. z ∷ map g xs) h.0 ∙ ap (λ zs. g y ∷ zs) (each_mapped g xs ys h.1)

pub each_equal : {A : Type 0} (xs ys : List A) → AllZip (λ x y. x ≡ y) xs ys → xs ≡ ys
each_equal [] [] h = refl
each_equal [] (y ∷ ys) h = absurd h
each_equal (x ∷ xs) [] h = absurd h
each_equal (x ∷ xs) (y ∷ ys) h = ap (λ z. z ∷ xs) h.0 ∙ ap (λ zs. y ∷ zs) (each_equal xs ys h.1)

-- no value of one list is in the other: both are empty
pub apart : {A B : Type 0} (f : A → Data) (g : B → Data) (never : (x : A) (y : B) → f x ≡ g y → ⊥) (xs : List A) (ys : List B) → map f xs ≡ map g ys → (xs ≡ []) × (ys ≡ [])
apart f g never [] [] e = (refl, refl)
apart f g never [] (y ∷ ys) e = absurd (true≢false (ap is_empty e))
apart f g never (x ∷ xs) [] e = absurd (true≢false (sym (ap is_empty e)))
apart f g never (x ∷ xs) (y ∷ ys) e = absurd (never x y (ap (first null) e))

abbrev list_of : Items → List Data
list_of no_items = []
list_of (item d ds) = d ∷ list_of ds

list_again : (ds : List Data) → list_of (items_of ds) ≡ ds
list_again [] = refl
list_again (d ∷ ds) = ap (λ l. d ∷ l) (list_again ds)

-- the items of the value that is found
abbrev pub items_in : Option Data → List Data
items_in (Some (array items)) = list_of items
items_in other = []

pub items_again : (ds : List Data) → items_in (Some (array (items_of ds))) ≡ ds
items_again = list_again

unless_empty : (q : List ℕ) (ds : List Data) (b : Bool) → (length ds == 0) ≡ b → bytes_eq q q ≡ true → items_in (found q (if b then [] else list_member q ds)) ≡ ds
unless_empty q ds true e r = sym (empty_is ds e)
unless_empty q ds false e r = ap (λ c. items_in (if_so c (array (items_of ds)))) r ∙ list_again ds

-- a list that is left out if it is empty
pub unless_empty_again : (q : List ℕ) (ds : List Data) → bytes_eq q q ≡ true → items_in (found q (list_unless_empty q ds)) ≡ ds
unless_empty_again q ds r = unless_empty q ds (length ds == 0) refl r
