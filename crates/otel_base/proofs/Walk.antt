-- Iteration over positions that are in key order.
use Rattle.std.proofs.Common.{◌≡◌, ℕ, ◌+◌, ◌<◌, ◌≤◌, List, [], ◌∷◌, ◌++◌, map, length, get_or, take}
use Rattle.std.proofs.Common.{drop, fold, Bool, true, false, not, ◌&&◌, Option, Some, None}
use Rattle.std.proofs.Common.{option_map, refl, ap, sym, ◌∙◌, true≢false, subst, arith, append-nil}
use Rattle.std.proofs.Common.{add-one}
use Rattle.std.specs.List.{slice_get, flat_map}
use Rattle.std.specs.Option.{option_eq}
use Rattle.std.specs.Cmp.Lexicographic.{pointwise}
use Rattle.std.proofs.Math.Bool.{and-false}
use Rattle.std.proofs.Math.Seq.{drop-cons}
use Rattle.std.proofs.lemmas.List.{take_more, length-map, drop_all}
use Rattle.std.proofs.lemmas.List.Sums.{fold-append}
use Rattle.std.proofs.lemmas.List.Concat.{flat_map-append}
use Rattle.std.proofs.lemmas.Option.{same_Some, slice_get-map, slice_get-get_or, slice_get_within}
use Rattle.otel_base.specs.Value.{boolean}
use Rattle.otel_base.specs.KeyValue as attribute
use Rattle.otel_base.specs.View.{attribute_of}
use Rattle.otel_base.specs.declared.key_value.KeyValue.{KeyValue}
use Rattle.otel_base.specs.InstrumentationScope as scope
use Rattle.otel_base.specs.KeyValue.{Attribute}
use Rattle.otel_base.specs.InstrumentationScope.{Scope, IsSameScope, texts_eq, attributes_eq}
use Rattle.otel_base.specs.InstrumentationScopeLaws.{walked_eq, eq-Decides}
use Rattle.std.specs.Bool.{Decides}
use Rattle.otel_base.specs.KeyOrder.{in_key_order, IsKeyOrder}
use denote.Ref.{Bor}

-- ---- one element
same_length : (g : ℕ → Option Attribute) (is : List ℕ) (cs : List Attribute)
    → map g is ≡ map (λ p. Some p) cs → length is ≡ length cs
same_length g is cs h = sym (length-map is g) ∙ ap length h ∙ length-map cs (λ p. Some p)

read_at : (g : ℕ → Option Attribute) (is : List ℕ) (cs : List Attribute)
    → map g is ≡ map (λ p. Some p) cs → (i : ℕ) (d : Attribute) → i < length is
    → g (get_or is i 0) ≡ Some (get_or cs i d)
read_at g is cs h i d below =
    let within : i < length cs = omega (arith, same_length g is cs h) in
    let both : Some (g (get_or is i 0)) ≡ Some (Some (get_or cs i d)) =
    ap (option_map g) (sym (slice_get-get_or is i 0 below)) ∙ sym (slice_get-map g is i)
    ∙ ap (λ os. slice_get os i) h ∙ slice_get-map (λ p. Some p) cs i
    ∙ ap (option_map (λ p. Some p)) (slice_get-get_or cs i d within) in
    same_Some (g (get_or is i 0)) (Some (get_or cs i d)) both

pub in_order_length : (ps : List Attribute) (is : List ℕ) → IsKeyOrder ps is
    → length is ≡ length (in_key_order ps)
in_order_length ps is h = same_length (slice_get ps) is (in_key_order ps) h

pub in_order_below : (xs : List KeyValue) (is : List ℕ) → IsKeyOrder (map attribute_of xs) is
    → (i : ℕ) → i < length is → get_or is i 0 < length xs
in_order_below xs is h i below =
    let d : Attribute = ([], boolean false) in
    omega (
      arith,
      slice_get_within (map attribute_of xs) (get_or is i 0)
          (get_or (in_key_order (map attribute_of xs)) i d)
          (read_at (slice_get (map attribute_of xs)) is
          (in_key_order (map attribute_of xs)) h i d below),
      length-map xs attribute_of,
    )

pub in_order_at : (xs : List KeyValue) (is : List ℕ) → IsKeyOrder (map attribute_of xs) is → (i : ℕ)
    → i < length is → (a : KeyValue) → a ≡ get_or xs (get_or is i 0) a
    → attribute_of a ≡ get_or (in_key_order (map attribute_of xs)) i (attribute_of a)
in_order_at xs is h i below a e =
    let cs : List Attribute = in_key_order (map attribute_of xs) in
    let k : ℕ = get_or is i 0 in
    let got : slice_get (map attribute_of xs) k ≡ Some (get_or cs i (attribute_of a)) =
    read_at (slice_get (map attribute_of xs)) is cs h i (attribute_of a) below in
    let there : slice_get xs k ≡ Some (get_or xs k a) =
    slice_get-get_or xs k a (in_order_below xs is h i below) in
    same_Some (attribute_of a) (get_or cs i (attribute_of a)) (ap (λ x. Some (attribute_of x)) e
    ∙ ap (option_map attribute_of) (sym there) ∙ sym (slice_get-map attribute_of xs k) ∙ got)

-- ---- the data that is hashed
pub hashed_more : {S : Type 0} (write : S → List ℕ
    → S) (first s t : S) (cs : List Attribute) (i : ℕ) (c : Attribute) → i < length cs
    → c ≡ get_or cs i c
    → s ≡ fold write first (flat_map attribute.hash (take i cs))
    → t ≡ fold write s (attribute.hash c)
    → t ≡ fold write first (flat_map attribute.hash (take (i + 1) cs))
hashed_more write first s t cs i c below e before now =
    now ∙ ap (λ u. fold write u (attribute.hash c)) before
    ∙ sym (fold-append write first (flat_map attribute.hash (take i cs)) (attribute.hash c))
    ∙ ap (λ ws. fold write first (flat_map attribute.hash (take i cs) ++ ws))
    (sym (append-nil (attribute.hash c)))
    ∙ ap (fold write first) (sym (flat_map-append attribute.hash (take i cs) (c ∷ [])))
    ∙ ap (λ x. fold write first (flat_map attribute.hash (take i cs ++ x ∷ []))) e
    ∙ ap (λ xs. fold write first (flat_map attribute.hash xs)) (sym (take_more cs i c below))

-- ---- side by side
pub pointwise_step : {A : Type 0} (E : A → A → Bool) (f g : ℕ → A) (is js : List ℕ) (i : ℕ)
    → i < length is → i < length js
    → pointwise E (map f (drop i is)) (map g (drop i js))
    ≡ (E (f (get_or is i 0)) (g (get_or js i 0))
    && pointwise E (map f (drop (i + 1) is)) (map g (drop (i + 1) js)))
pointwise_step E f g is js i h k = rw (add-one, drop-cons is i 0 h, drop-cons js i 0 k) refl

pub pointwise_length : {A : Type 0} (E : A → A → Bool) (f g : ℕ → A) (is js : List ℕ)
    → (length is ≡ length js → ⊥) → pointwise E (map f is) (map g js) ≡ false
pointwise_length E f g [] [] h = absurd (h refl)
pointwise_length E f g [] (j ∷ js) h = refl
pointwise_length E f g (i ∷ is) [] h = refl
pointwise_length E f g (i ∷ is) (j ∷ js) h =
    rw (pointwise_length E f g is js (λ e. h (omega arith))) (and-false (E (f i) (g j)))

pub option_eq-seen : (r s : Option (Bor KeyValue))
    → option_eq (λ (x : Bor KeyValue) (y : Bor KeyValue). attribute.eq (attribute_of x.now)
    (attribute_of y.now)) r s
    ≡ option_eq attribute.eq (option_map (λ a. attribute_of a.now) r)
    (option_map (λ a. attribute_of a.now) s)
option_eq-seen None None = refl
option_eq-seen None (Some y) = refl
option_eq-seen (Some x) None = refl
option_eq-seen (Some x) (Some y) = refl

abbrev pub refs_eq : Option (Bor KeyValue) → Option (Bor KeyValue) → Bool
refs_eq = option_eq (λ (x : Bor KeyValue) (y : Bor KeyValue). attribute.eq (attribute_of x.now)
    (attribute_of y.now))

pub walk_more : (xs ys : List Attribute) (is js : List ℕ) (i : ℕ) (r s : Option (Bor KeyValue))
    → i < length is → i < length js
    → option_map (λ a. attribute_of a.now) r ≡ slice_get xs (get_or is i 0)
    → option_map (λ a. attribute_of a.now) s ≡ slice_get ys (get_or js i 0)
    → pointwise (option_eq attribute.eq) (map (slice_get xs) (drop i is))
    (map (slice_get ys) (drop i js))
    ≡ (refs_eq r s
    && pointwise (option_eq attribute.eq) (map (slice_get xs) (drop (i + 1) is))
    (map (slice_get ys) (drop (i + 1) js)))
walk_more xs ys is js i r s h k left right =
    let rest : Bool =
    pointwise (option_eq attribute.eq) (map (slice_get xs) (drop (i + 1) is))
    (map (slice_get ys) (drop (i + 1) js)) in
    pointwise_step (option_eq attribute.eq) (slice_get xs) (slice_get ys) is js i h k
    ∙ (λ at. option_eq attribute.eq (sym left at) (sym right at) && rest)
    ∙ ap (λ b. b && rest) (sym (option_eq-seen r s))

pub first_false : (a b c : Bool) → a ≡ (b && c) → true ≡ not b → false ≡ a
first_false a true c h e = absurd (true≢false e)
first_false a false c h e = sym h

pub first_true : (a b c : Bool) → a ≡ (b && c) → false ≡ not b → a ≡ c
first_true a true c h e = h
first_true a false c h e = absurd (true≢false (sym e))

pub walk_done : (xs ys : List Attribute) (is js : List ℕ) (i : ℕ) → length is ≤ i → length js ≤ i
    → pointwise (option_eq attribute.eq) (map (slice_get xs) (drop i is))
    (map (slice_get ys) (drop i js)) ≡ true
walk_done xs ys is js i h k = rw (drop_all i is h, drop_all i js k) refl

-- if the texts agree, comparing the attributes decides equality
pub scopes_from_walk : (a b : Scope) (r : Bool) (xs ys : List KeyValue) (left right : List ℕ)
    → IsKeyOrder (map attribute_of xs) left → IsKeyOrder (map attribute_of ys) right
    → map attribute_of xs ≡ a.attributes → map attribute_of ys ≡ b.attributes → texts_eq a b ≡ true
    → r ≡ pointwise (option_eq attribute.eq) (map (slice_get (map attribute_of xs)) left)
    (map (slice_get (map attribute_of ys)) right) → r ≡ scope.eq a b
scopes_from_walk a b r xs ys left right in_left in_right of_a of_b texts walked =
    walked ∙ walked_eq (map attribute_of xs) (map attribute_of ys) left right in_left in_right
    ∙ (λ i. attributes_eq (of_a i) (of_b i))
    ∙ ap (λ t. t && attributes_eq a.attributes b.attributes) (sym texts)

pub same_from_test : (a b : Scope) (r : Bool) → r ≡ scope.eq a b → Decides r (IsSameScope a b)
same_from_test a b r e = let P : Bool → Type 0 =
    λ t. Decides t (IsSameScope a b) in subst P (sym e) (eq-Decides a b)
