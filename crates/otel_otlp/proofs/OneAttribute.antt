-- Attributes that have equal values.
use Rattle.std.proofs.Common.{◌≡◌, ℕ, ℤ, List, [], ◌∷◌, ◌++◌, map, length, Bool, false, Option, Some, None, sym, ap, ◌∙◌, codes, arith}
use Rattle.std.proofs.lemmas.Fmt.{signed_decimal_injective}
use Rattle.std.specs.List.{All}
use Rattle.std.specs.Prelude.{⊤}
use Rattle.otel_base.specs.Array.{ArrayValue, booleans, integers, texts}
use Rattle.otel_base.specs.KeyValue.{Attribute}
use Rattle.otel_base.specs.Value as value
use Rattle.otel_base.specs.Value.{AttributeValue}
use Rattle.serde_json.specs.Data.{Data, null, boolean, object, member}
use Rattle.otel_otlp.specs.Common.{boolean_value, integer_value, text_value, array_values, list_value, any_value, key_value}
use Rattle.otel_otlp.specs.Json.{Member, text_member}
use Rattle.otel_otlp.specs.Lossless.{IsInteger, IsArrayInRange, IsValueInRange, AreInRange, told_array, told_value, told}
use Rattle.otel_otlp.proofs.Found.{same_found, text_in}
use Rattle.otel_otlp.proofs.Lists.{each, each_mapped, each_equal, apart, items_in, items_again}

-- the first name of an object, and its value
abbrev name_of : Data → List ℕ
name_of (object (member k d ms)) = k
name_of other = []

abbrev inside : Data → Data
inside (object (member k d ms)) = d
inside other = null

abbrev bool_of : Data → Bool
bool_of (boolean b) = b
bool_of other = false

same_boolean : (a b : Bool) → boolean_value a ≡ boolean_value b → a ≡ b
same_boolean a b e = ap (λ d. bool_of (inside d)) e

same_integer : (y z : ℤ) → IsInteger y → IsInteger z → integer_value y ≡ integer_value z → y ≡ z
same_integer y z hy hz e = signed_decimal_injective y z hy hz (ap (λ d. text_in (Some (inside d))) e)

same_text : (s t : List ℕ) → text_value s ≡ text_value t → s ≡ t
same_text s t e = ap (λ d. text_in (Some (inside d))) e

-- values of other types have names of other lengths
boolean_no_integer : (b : Bool) (z : ℤ) → boolean_value b ≡ integer_value z → ⊥
boolean_no_integer b z e = let n : 9 ≡ 8 = ap (λ d. length (name_of d)) e in omega (arith, n)

boolean_no_text : (b : Bool) (s : List ℕ) → boolean_value b ≡ text_value s → ⊥
boolean_no_text b s e = let n : 9 ≡ 11 = ap (λ d. length (name_of d)) e in omega (arith, n)

boolean_no_list : (b : Bool) (ds : List Data) → boolean_value b ≡ list_value ds → ⊥
boolean_no_list b ds e = let n : 9 ≡ 10 = ap (λ d. length (name_of d)) e in omega (arith, n)

integer_no_text : (z : ℤ) (s : List ℕ) → integer_value z ≡ text_value s → ⊥
integer_no_text z s e = let n : 8 ≡ 11 = ap (λ d. length (name_of d)) e in omega (arith, n)

integer_no_list : (z : ℤ) (ds : List Data) → integer_value z ≡ list_value ds → ⊥
integer_no_list z ds e = let n : 8 ≡ 10 = ap (λ d. length (name_of d)) e in omega (arith, n)

text_no_list : (s : List ℕ) (ds : List Data) → text_value s ≡ list_value ds → ⊥
text_no_list s ds e = let n : 11 ≡ 10 = ap (λ d. length (name_of d)) e in omega (arith, n)

-- the type of an array without items isn't shown
booleans_told : (bs : List Bool) → bs ≡ [] → told_array (booleans bs) ≡ texts []
booleans_told bs e = ap (λ l. told_array (booleans l)) e

integers_told : (zs : List ℤ) → zs ≡ [] → told_array (integers zs) ≡ texts []
integers_told zs e = ap (λ l. told_array (integers l)) e

texts_told : (ss : List (List ℕ)) → ss ≡ [] → told_array (texts ss) ≡ texts []
texts_told ss e = ap (λ l. told_array (texts l)) e

pub anything : {A : Type 0} (xs : List A) → All (λ x. ⊤) xs
anything xs k d below = tt

same_array : (xs ys : ArrayValue) → IsArrayInRange xs → IsArrayInRange ys → array_values xs ≡ array_values ys → told_array xs ≡ told_array ys
same_array (booleans xs) (booleans ys) p q e =
    ap (λ l. told_array (booleans l)) (each_equal xs ys (each boolean_value boolean_value (λ b. ⊤) (λ b. ⊤) (λ a b. a ≡ b) (λ a b p q. same_boolean a b) xs ys (anything xs) (anything ys) e))
same_array (integers xs) (integers ys) p q e =
    ap (λ l. told_array (integers l)) (each_equal xs ys (each integer_value integer_value IsInteger IsInteger (λ y z. y ≡ z) same_integer xs ys p q e))
same_array (texts xs) (texts ys) p q e =
    ap (λ l. told_array (texts l)) (each_equal xs ys (each text_value text_value (λ s. ⊤) (λ s. ⊤) (λ s t. s ≡ t) (λ s t p q. same_text s t) xs ys (anything xs) (anything ys) e))
same_array (booleans xs) (integers ys) p q e =
    let empty = apart boolean_value integer_value boolean_no_integer xs ys e in booleans_told xs empty.0 ∙ sym (integers_told ys empty.1)
same_array (booleans xs) (texts ys) p q e =
    let empty = apart boolean_value text_value boolean_no_text xs ys e in booleans_told xs empty.0 ∙ sym (texts_told ys empty.1)
same_array (integers xs) (booleans ys) p q e =
    let empty = apart boolean_value integer_value boolean_no_integer ys xs (sym e) in integers_told xs empty.1 ∙ sym (booleans_told ys empty.0)
same_array (integers xs) (texts ys) p q e =
    let empty = apart integer_value text_value integer_no_text xs ys e in integers_told xs empty.0 ∙ sym (texts_told ys empty.1)
same_array (texts xs) (booleans ys) p q e =
    let empty = apart boolean_value text_value boolean_no_text ys xs (sym e) in texts_told xs empty.1 ∙ sym (booleans_told ys empty.0)
same_array (texts xs) (integers ys) p q e =
    let empty = apart integer_value text_value integer_no_text ys xs (sym e) in texts_told xs empty.1 ∙ sym (integers_told ys empty.0)

same_list : (ds es : List Data) → list_value ds ≡ list_value es → ds ≡ es
same_list ds es e = sym (items_again ds) ∙ ap (λ d. items_in (Some (inside (inside d)))) e ∙ items_again es

same_value : (v w : AttributeValue) → IsValueInRange v → IsValueInRange w → any_value v ≡ any_value w → told_value v ≡ told_value w
same_value (value.boolean a) (value.boolean b) p q e = ap value.boolean (same_boolean a b e)
same_value (value.boolean a) (value.integer z) p q e = absurd (boolean_no_integer a z e)
same_value (value.boolean a) (value.text s) p q e = absurd (boolean_no_text a s e)
same_value (value.boolean a) (value.array ys) p q e = absurd (boolean_no_list a (array_values ys) e)
same_value (value.integer z) (value.boolean b) p q e = absurd (boolean_no_integer b z (sym e))
same_value (value.integer y) (value.integer z) p q e = ap value.integer (same_integer y z p q e)
same_value (value.integer z) (value.text s) p q e = absurd (integer_no_text z s e)
same_value (value.integer z) (value.array ys) p q e = absurd (integer_no_list z (array_values ys) e)
same_value (value.text s) (value.boolean b) p q e = absurd (boolean_no_text b s (sym e))
same_value (value.text s) (value.integer z) p q e = absurd (integer_no_text z s (sym e))
same_value (value.text s) (value.text t) p q e = ap value.text (same_text s t e)
same_value (value.text s) (value.array ys) p q e = absurd (text_no_list s (array_values ys) e)
same_value (value.array xs) (value.boolean b) p q e = absurd (boolean_no_list b (array_values xs) (sym e))
same_value (value.array xs) (value.integer z) p q e = absurd (integer_no_list z (array_values xs) (sym e))
same_value (value.array xs) (value.text s) p q e = absurd (text_no_list s (array_values xs) (sym e))
same_value (value.array xs) (value.array ys) p q e = ap value.array (same_array xs ys p q (same_list (array_values xs) (array_values ys) e))

abbrev tell : Attribute → Attribute
tell a = (a.0, told_value a.1)

abbrev pair_members : Attribute → List Member
pair_members a = text_member (codes "key") a.0 ++ (codes "value", any_value a.1) ∷ []

abbrev some : Option Data → Data
some None = null
some (Some d) = d

same_attribute : (a b : Attribute) → IsValueInRange a.1 → IsValueInRange b.1 → key_value a ≡ key_value b → tell a ≡ tell b
same_attribute a b p q e =
    let key : a.0 ≡ b.0 = ap text_in (same_found (codes "key") (pair_members a) (pair_members b) e) in
    let given : any_value a.1 ≡ any_value b.1 = ap some (same_found (codes "value") (pair_members a) (pair_members b) e) in
    ap (λ k. (k, told_value a.1)) key ∙ ap (λ v. (b.0, v)) (same_value a.1 b.1 p q given)

pub same_attributes : (xs ys : List Attribute) → AreInRange xs → AreInRange ys → map key_value xs ≡ map key_value ys → told xs ≡ told ys
same_attributes xs ys p q e =
    each_mapped tell xs ys (each key_value key_value (λ a. IsValueInRange a.1) (λ a. IsValueInRange a.1) (λ a b. tell a ≡ tell b) same_attribute xs ys p q e)
