-- Attributes whose messages have the same bytes.
use Rattle.std.proofs.Common.{◌≡◌, ℕ, ℤ, ◌<◌, ◌^◌, List, [], ◌∷◌, ◌++◌, map, Bool, false, refl, sym, ap, ◌∙◌, subst, arith}
use Rattle.std.specs.Prelude.{⊤}
use Rattle.std.specs.List.{All}
use Rattle.std.specs.Int.{w64, cast_unsigned, cast_signed}
use Rattle.std.proofs.Math.Facts.{Fits-of_z}
use Rattle.std.proofs.lemmas.Int.{to_z-of_z}
use Rattle.std.proofs.lemmas.List.Elements.{All-nil, All-cons, All-map}
use Rattle.otel_base.specs.Array.{ArrayValue, booleans, integers, texts}
use Rattle.otel_base.specs.KeyValue.{Attribute}
use Rattle.otel_base.specs.Value as value
use Rattle.otel_base.specs.Value.{AttributeValue}
use Rattle.otel_proto.specs.Common.{any_value, array_values, key_value}
use Rattle.otel_proto.specs.Laws.{IsField, AreShort}
use Rattle.otel_proto.specs.Wire.{bytes}
use Rattle.otel_proto.specs.Written.{bytes_of, message, messages}
use Rattle.otel_proto.proofs.shared.ReadBack.{equal_bytes}
use Rattle.otel_proto.proofs.shared.Readable.{messages_are_fields}
use Rattle.otel_proto_batches.specs.Facts.{told_array, told_value, told_attribute, told}
use Rattle.otel_proto_batches.specs.InRange.{IsInteger, IsArrayInRange, IsValueInRange, AreInRange}
use Rattle.otel_proto_batches.proofs.Pieces.{Piece, IsOf, last_of, more_of, one_piece, same_at, one, text, text_piece, each, each_piece, text_in, number_in, text_again, same_ends, fits, none_fit, all_fields, one_fits, text_fits, IsShort, first_short, short_at, short_one, short_ends, one_same, each_same, contents_of, differ, same_boolean, boolean_small}

-- ---- one value
abbrev IsScalar : AttributeValue → Type 0
IsScalar (value.boolean b) = ⊤
IsScalar (value.integer z) = IsInteger z
IsScalar (value.text s) = ⊤
IsScalar (value.array xs) = ⊥

pub integer_small : (z : ℤ) → IsInteger z → cast_unsigned w64 z < 2 ^ 64
integer_small z h = let fits = Fits-of_z {w = w64} {z = z} h in omega (arith, fits)

scalar_fits : (v : AttributeValue) → IsScalar v → All IsField (any_value v)
scalar_fits (value.boolean b) h = All-cons IsField _ [] (record { number = refl; content = boolean_small b }) (All-nil IsField)
scalar_fits (value.integer z) h = All-cons IsField _ [] (record { number = refl; content = integer_small z h }) (All-nil IsField)
scalar_fits (value.text s) h = All-cons IsField _ [] (record { number = refl; content = tt }) (All-nil IsField)
scalar_fits (value.array xs) h = absurd h

value_fits : (v : AttributeValue) → IsValueInRange v → All IsField (any_value v)
value_fits (value.boolean b) h = scalar_fits (value.boolean b) tt
value_fits (value.integer z) h = scalar_fits (value.integer z) h
value_fits (value.text s) h = scalar_fits (value.text s) tt
value_fits (value.array xs) h = All-cons IsField _ [] (record { number = refl; content = tt }) (All-nil IsField)

same_scalar : (v w : AttributeValue) → IsScalar v → IsScalar w → any_value v ≡ any_value w → v ≡ w
same_scalar (value.boolean a) (value.boolean b) p q e = ap value.boolean (same_boolean a b (ap (λ fs. number_in (contents_of fs)) e))
same_scalar (value.boolean a) (value.integer z) p q e = absurd (differ (any_value (value.boolean a)) (any_value (value.integer z)) refl e)
same_scalar (value.boolean a) (value.text s) p q e = absurd (differ (any_value (value.boolean a)) (any_value (value.text s)) refl e)
same_scalar (value.integer y) (value.boolean b) p q e = absurd (differ (any_value (value.integer y)) (any_value (value.boolean b)) refl e)
same_scalar (value.integer y) (value.integer z) p q e =
    ap value.integer (sym (to_z-of_z w64 y p) ∙ ap (cast_signed w64) (ap (λ fs. number_in (contents_of fs)) e) ∙ to_z-of_z w64 z q)
same_scalar (value.integer y) (value.text s) p q e = absurd (differ (any_value (value.integer y)) (any_value (value.text s)) refl e)
same_scalar (value.text s) (value.boolean b) p q e = absurd (differ (any_value (value.text s)) (any_value (value.boolean b)) refl e)
same_scalar (value.text s) (value.integer z) p q e = absurd (differ (any_value (value.text s)) (any_value (value.integer z)) refl e)
same_scalar (value.text s) (value.text t) p q e = ap value.text (ap (λ fs. text_in (contents_of fs)) e)
same_scalar (value.array xs) w p q e = absurd p
same_scalar v (value.array ys) p q e = absurd q

-- ---- arrays
-- the items, each as a value
abbrev items : ArrayValue → List AttributeValue
items (booleans bs) = map value.boolean bs
items (integers zs) = map value.integer zs
items (texts ss) = map value.text ss

scalars : (xs : ArrayValue) → IsArrayInRange xs → All IsScalar (items xs)
scalars (booleans bs) h = All-map IsScalar value.boolean bs (λ k d below. tt)
scalars (integers zs) h = All-map IsScalar value.integer zs h
scalars (texts ss) h = All-map IsScalar value.text ss (λ k d below. tt)

mapped : {A : Type 0} (g : A → AttributeValue) (xs : List A) → messages 1 (λ x. any_value (g x)) xs ≡ messages 1 any_value (map g xs)
mapped g [] = refl
mapped g (x ∷ xs) = ap (λ fs. message 1 (any_value (g x)) ∷ fs) (mapped g xs)

array_each : (xs : ArrayValue) → array_values xs ≡ messages 1 any_value (items xs)
array_each (booleans bs) = mapped value.boolean bs
array_each (integers zs) = mapped value.integer zs
array_each (texts ss) = mapped value.text ss

abbrev array_pieces : ArrayValue → List Piece
array_pieces xs = (1, each any_value (items xs)) ∷ []

array_is : (xs : ArrayValue) → IsOf (array_values xs) (array_pieces xs)
array_is xs = last_of (record { is = array_each xs ∙ (each_piece 1 any_value (items xs)).is })

array_fits : (xs : ArrayValue) → All IsField (array_values xs)
array_fits xs = subst (All IsField) (sym (array_each xs)) (messages_are_fields 1 any_value (items xs) refl)

abbrev boolean_in : AttributeValue → Bool
boolean_in (value.boolean b) = b
boolean_in other = false

abbrev integer_in : ℤ → AttributeValue → ℤ
integer_in y (value.integer z) = z
integer_in y other = y

abbrev string_in : AttributeValue → List ℕ
string_in (value.text s) = s
string_in other = []

again : {A : Type 0} (g : A → AttributeValue) (back : AttributeValue → A) → ((x : A) → back (g x) ≡ x) → (xs : List A) → map back (map g xs) ≡ xs
again g back h [] = refl
again g back h (x ∷ xs) = ap (λ y. y ∷ map back (map g xs)) (h x) ∙ ap (λ ys. x ∷ ys) (again g back h xs)

told_items : (xs ys : ArrayValue) → items xs ≡ items ys → told_array xs ≡ told_array ys
told_items (booleans xs) (booleans ys) e =
    ap (λ l. told_array (booleans l)) (sym (again value.boolean boolean_in (λ b. refl) xs) ∙ ap (map boolean_in) e ∙ again value.boolean boolean_in (λ b. refl) ys)
told_items (integers []) (integers []) e = refl
told_items (integers []) (integers (z ∷ zs)) e = absurd cc
told_items (integers (y ∷ xs)) (integers ys) e =
    ap (λ l. told_array (integers l)) (sym (again value.integer (integer_in y) (λ z. refl) (y ∷ xs)) ∙ ap (map (integer_in y)) e ∙ again value.integer (integer_in y) (λ z. refl) ys)
told_items (texts xs) (texts ys) e =
    ap (λ l. told_array (texts l)) (sym (again value.text string_in (λ s. refl) xs) ∙ ap (map string_in) e ∙ again value.text string_in (λ s. refl) ys)
told_items (booleans []) (integers []) e = refl
told_items (booleans []) (integers (z ∷ zs)) e = absurd cc
told_items (booleans (b ∷ bs)) (integers []) e = absurd cc
told_items (booleans (b ∷ bs)) (integers (z ∷ zs)) e = absurd cc
told_items (booleans []) (texts []) e = refl
told_items (booleans []) (texts (s ∷ ss)) e = absurd cc
told_items (booleans (b ∷ bs)) (texts []) e = absurd cc
told_items (booleans (b ∷ bs)) (texts (s ∷ ss)) e = absurd cc
told_items (integers []) (booleans []) e = refl
told_items (integers []) (booleans (b ∷ bs)) e = absurd cc
told_items (integers (z ∷ zs)) (booleans []) e = absurd cc
told_items (integers (z ∷ zs)) (booleans (b ∷ bs)) e = absurd cc
told_items (integers []) (texts []) e = refl
told_items (integers []) (texts (s ∷ ss)) e = absurd cc
told_items (integers (z ∷ zs)) (texts []) e = absurd cc
told_items (integers (z ∷ zs)) (texts (s ∷ ss)) e = absurd cc
told_items (texts []) (booleans []) e = refl
told_items (texts []) (booleans (b ∷ bs)) e = absurd cc
told_items (texts (s ∷ ss)) (booleans []) e = absurd cc
told_items (texts (s ∷ ss)) (booleans (b ∷ bs)) e = absurd cc
told_items (texts []) (integers []) e = refl
told_items (texts []) (integers (z ∷ zs)) e = absurd cc
told_items (texts (s ∷ ss)) (integers []) e = absurd cc
told_items (texts (s ∷ ss)) (integers (z ∷ zs)) e = absurd cc

map_same : {A : Type 0} (xs : List A) → map (λ x. x) xs ≡ xs
map_same [] = refl
map_same (x ∷ xs) = ap (λ ys. x ∷ ys) (map_same xs)

same_array : (xs ys : ArrayValue) → IsArrayInRange xs → IsArrayInRange ys → AreShort (array_values xs) → array_values xs ≡ array_values ys → told_array xs ≡ told_array ys
same_array xs ys p q short e =
    let same : each any_value (items xs) ++ [] ≡ each any_value (items ys) ++ [] =
    same_at (array_is xs) (array_is ys) e 1 in
    let shorts : All IsShort (each any_value (items xs) ++ []) = short_at (array_is xs) short 1 in
    let values : map (λ v. v) (items xs) ≡ map (λ v. v) (items ys) =
    each_same any_value any_value (λ v. v) (λ v. v) IsScalar IsScalar scalar_fits scalar_fits (λ v w h k s d. same_scalar v w h k d)
    (items xs) (items ys) (scalars xs p) (scalars ys q) (short_ends (each any_value (items xs)) shorts) (same_ends (each any_value (items xs)) (each any_value (items ys)) same) in
    told_items xs ys (sym (map_same (items xs)) ∙ values ∙ map_same (items ys))

same_arrays : (xs ys : ArrayValue) → IsArrayInRange xs → IsArrayInRange ys → AreShort (any_value (value.array xs)) → any_value (value.array xs) ≡ any_value (value.array ys) → told_array xs ≡ told_array ys
same_arrays xs ys p q short e =
    let inner : AreShort (array_values xs) = first_short (message 5 (array_values xs)) [] short in
    same_array xs ys p q inner
    (equal_bytes (array_values xs) (array_values ys) (array_fits xs) (array_fits ys) inner (ap (λ fs. text_in (contents_of fs)) e))

same_value : (v w : AttributeValue) → IsValueInRange v → IsValueInRange w → AreShort (any_value v) → any_value v ≡ any_value w → told_value v ≡ told_value w
same_value (value.boolean a) (value.boolean b) p q s e = ap told_value (same_scalar (value.boolean a) (value.boolean b) tt tt e)
same_value (value.boolean a) (value.integer z) p q s e = ap told_value (same_scalar (value.boolean a) (value.integer z) tt q e)
same_value (value.boolean a) (value.text t) p q s e = ap told_value (same_scalar (value.boolean a) (value.text t) tt tt e)
same_value (value.boolean a) (value.array ys) p q s e = absurd (differ (any_value (value.boolean a)) (any_value (value.array ys)) refl e)
same_value (value.integer y) (value.boolean b) p q s e = ap told_value (same_scalar (value.integer y) (value.boolean b) p tt e)
same_value (value.integer y) (value.integer z) p q s e = ap told_value (same_scalar (value.integer y) (value.integer z) p q e)
same_value (value.integer y) (value.text t) p q s e = ap told_value (same_scalar (value.integer y) (value.text t) p tt e)
same_value (value.integer y) (value.array ys) p q s e = absurd (differ (any_value (value.integer y)) (any_value (value.array ys)) refl e)
same_value (value.text t) (value.boolean b) p q s e = ap told_value (same_scalar (value.text t) (value.boolean b) tt tt e)
same_value (value.text t) (value.integer z) p q s e = ap told_value (same_scalar (value.text t) (value.integer z) tt q e)
same_value (value.text t) (value.text u) p q s e = ap told_value (same_scalar (value.text t) (value.text u) tt tt e)
same_value (value.text t) (value.array ys) p q s e = absurd (differ (any_value (value.text t)) (any_value (value.array ys)) refl e)
same_value (value.array xs) (value.boolean b) p q s e = absurd (differ (any_value (value.array xs)) (any_value (value.boolean b)) refl e)
same_value (value.array xs) (value.integer z) p q s e = absurd (differ (any_value (value.array xs)) (any_value (value.integer z)) refl e)
same_value (value.array xs) (value.text t) p q s e = absurd (differ (any_value (value.array xs)) (any_value (value.text t)) refl e)
same_value (value.array xs) (value.array ys) p q s e = ap value.array (same_arrays xs ys p q s e)

-- ---- attributes
abbrev pair_pieces : Attribute → List Piece
pair_pieces a = (1, text a.0) ∷ (2, one (bytes (bytes_of (any_value a.1)))) ∷ []

pair_is : (a : Attribute) → IsOf (key_value a) (pair_pieces a)
pair_is a = more_of (text_piece 1 a.0) (last_of (one_piece 2 (bytes (bytes_of (any_value a.1)))))

abbrev InRange : Attribute → Type 0
InRange a = IsValueInRange a.1

attribute_fits : (a : Attribute) → InRange a → All IsField (key_value a)
attribute_fits a h = all_fields (pair_is a) (fits 1 refl (text_fits a.0) (fits 2 refl (one_fits (bytes (bytes_of (any_value a.1))) tt) none_fit))

same_attribute : (a b : Attribute) → InRange a → InRange b → AreShort (key_value a) → key_value a ≡ key_value b → told_attribute a ≡ told_attribute b
same_attribute a b p q short e =
    let same = same_at (pair_is a) (pair_is b) e in
    let shorts = short_at (pair_is a) short in
    let key : a.0 ≡ b.0 = sym (text_again a.0) ∙ ap text_in (same 1) ∙ text_again b.0 in
    let inner : AreShort (any_value a.1) = short_one (bytes_of (any_value a.1)) (shorts 2) in
    let given : any_value a.1 ≡ any_value b.1 = one_same (any_value a.1) (any_value b.1) (value_fits a.1 p) (value_fits b.1 q) inner (same 2) in
    ap (λ (k : List ℕ). (k, told_value a.1)) key ∙ ap (λ (v : AttributeValue). (b.0, v)) (same_value a.1 b.1 p q inner given)

-- attributes with the same messages
pub same_attributes : (xs ys : List Attribute) → AreInRange xs → AreInRange ys → All IsShort (each key_value xs) → each key_value xs ≡ each key_value ys → told xs ≡ told ys
same_attributes = each_same key_value key_value told_attribute told_attribute InRange InRange attribute_fits attribute_fits same_attribute
