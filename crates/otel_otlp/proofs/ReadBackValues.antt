-- What the ids and the attributes that the exporter writes are read as.
use Rattle.std.proofs.Common.{◌≡◌, refl, sym, ap, subst, ◌∙◌, ℕ, suc, ◌<◌, ◌^◌, ◌&&◌, not, arith}
use Rattle.std.proofs.Common.{ℤ, Bool, true, false, List, [], ◌∷◌, map, length, codes}
use Rattle.std.proofs.Common.{Option, Some, MatchOption, option_map}
use Rattle.std.specs.Prelude.{⊤}
use Rattle.std.specs.Bool.{MatchBool}
use Rattle.std.specs.Int.{w64, w128, to_be_bytes, from_be_bytes}
use Rattle.std.specs.List.{All, list_all}
use Rattle.std.specs.Result.{result_ok}
use Rattle.std.proofs.lemmas.Bool.{ne_eqb}
use Rattle.std.proofs.lemmas.List.{map-id}
use Rattle.std.proofs.lemmas.Nat.{from_be_bytes-to_be_bytes_8}
use Rattle.hex.proofs.HexLemmas.{decode_sized-encode_lower}
use Rattle.otel_base.specs.Array.{ArrayValue, booleans, integers, texts}
use Rattle.otel_base.specs.KeyValue.{Attribute}
use Rattle.otel_base.specs.Value as value
use Rattle.otel_base.specs.Value.{AttributeValue}
use Rattle.otel_ids.proofs.shared.Numerals.{bytes_again}
use Rattle.serde_json.specs.Data.{Data}
use Rattle.otel_otlp.specs.Common.{boolean_value, integer_value, text_value, array_values, any_value, key_value, attributes_member}
use Rattle.otel_otlp.specs.Json.{Member, object_of, list_member, trace_id_text, span_id_text}
use Rattle.otel_otlp.specs.Lossless.{IsInteger, IsArrayInRange, IsValueInRange, AreInRange, told_array, told_value, told}
use Rattle.otel_otlp.specs.ReadMembers.{member_of, unless_null, list_in, AreIn, has, all_have, trace_id_of, span_id_of}
use Rattle.otel_otlp.specs.ReadValues as spec
use Rattle.otel_otlp.proofs.Found.{found}
use Rattle.otel_otlp.proofs.Ids.{bytes_small}
use Rattle.otel_otlp.proofs.OneAttribute.{anything}
use Rattle.otel_otlp.proofs.ReadBack.{Only, only_some, integer_is, list_left_out, list_says}
use Rattle.otel_otlp.proofs.ReadErrors.{some_same}
use Rattle.otel_otlp.proofs.ReadLists as lists

-- ---- ids
pub trace_id_again : (id : ℕ) → id < 2 ^ 128 → trace_id_of (trace_id_text id) ≡ Some id
trace_id_again id h =
    ap (λ r. option_map (from_be_bytes w128) (result_ok r))
    (decode_sized-encode_lower (to_be_bytes w128 id) 16 refl (bytes_small 16 id))
    ∙ ap (λ n. Some n) (bytes_again id h)

pub span_id_again : (id : ℕ) → id < 2 ^ 64 → span_id_of (span_id_text id) ≡ Some id
span_id_again id h =
    ap (λ r. option_map (from_be_bytes w64) (result_ok r))
    (decode_sized-encode_lower (to_be_bytes w64 id) 8 refl (bytes_small 8 id))
    ∙ ap (λ n. Some n) (from_be_bytes-to_be_bytes_8 id h)

-- ---- a member that is there
pub only_there : {Y : Type 0} (o : Option Data) (d : Data) (A : Y → Type 0) (B : Data → Y → Type 0)
    (y : Y) → o ≡ Some d → Only (B d) y → Only (λ z. MatchOption o (A z) (λ v. B v z)) y
only_there o d A B y e h = subst (λ p. Only (λ z. MatchOption p (A z) (λ v. B v z)) y) (sym e) h

-- ---- the items of arrays
only_boolean : (b : Bool) → Only (spec.IsTruth (boolean_value b)) b
only_boolean b = only_some (Some b) b refl

only_integer : (z : ℤ) → IsInteger z → Only (spec.IsWhole (integer_value z)) z
only_integer z h = integer_is z h

only_text : (t : List ℕ) → Only (spec.IsItemText (text_value t)) t
only_text t = ((refl, refl), λ y h. h.1)

-- ---- arrays
abbrev list_data : List Data → Data
list_data ds = object_of (list_member (codes "values") ds)

values_in : (ds : List Data) → list_in (codes "values") (list_data ds) ≡ Some ds
values_in ds = ap (λ l. Some l) (lists.items_again ds)

have : (q : List ℕ) (ds : List Data) → spec.all_values_have q (list_data ds) ≡ all_have q (Some ds)
have q ds = ap (all_have q) (values_in ds)

all_truths : (bs : List Bool) → list_all (has (codes "boolValue")) (map boolean_value bs) ≡ true
all_truths [] = refl
all_truths (b ∷ bs) = all_truths bs

all_whole : (zs : List ℤ) → list_all (has (codes "intValue")) (map integer_value zs) ≡ true
all_whole [] = refl
all_whole (z ∷ zs) = all_whole zs

-- what an array is read as, by whether its items are all truth values, or all integers
abbrev Reads : List Data → ArrayValue → Type 0
Reads ds xs =
    MatchBool (all_have (codes "boolValue") (Some ds)) (spec.AreTruths (list_data ds) xs)
    (MatchBool (all_have (codes "intValue") (Some ds)) (spec.AreWhole (list_data ds) xs)
    (spec.AreTexts (list_data ds) xs))

from_reads : (ds : List Data) (xs : ArrayValue) → Only (Reads ds) xs
    → Only (spec.IsArray (list_data ds)) xs
from_reads ds xs h =
    subst (λ a. Only (λ ys. MatchBool a (spec.AreTruths (list_data ds) ys)
    (MatchBool (spec.all_values_have (codes "intValue") (list_data ds)) (spec.AreWhole (list_data ds) ys)
    (spec.AreTexts (list_data ds) ys))) xs) (sym (have (codes "boolValue") ds))
    (subst (λ b. Only (λ ys. MatchBool (all_have (codes "boolValue") (Some ds))
    (spec.AreTruths (list_data ds) ys) (MatchBool b (spec.AreWhole (list_data ds) ys)
    (spec.AreTexts (list_data ds) ys))) xs) (sym (have (codes "intValue") ds)) h)

-- the values of a list, each read as itself
same_items : {A : Type 0} (Says : Data → A → Type 0) (f : A → Data) (P : A → Type 0)
    → ((x : A) → P x → Only (Says (f x)) x) → (xs : List A) → All P xs
    → Only (AreIn Says (codes "values") (list_data (map f xs))) xs
same_items Says f P one xs h =
    subst (Only (AreIn Says (codes "values") (list_data (map f xs)))) (map-id xs)
    (list_says Says f (λ x. x) P one (codes "values") (list_data (map f xs)) xs h
    (values_in (map f xs)))

truths : (bs : List Bool)
    → Only (spec.AreTruths (list_data (map boolean_value bs))) (booleans bs)
truths bs =
    let one = same_items spec.IsTruth boolean_value (λ b. ⊤) (λ b h. only_boolean b) bs (anything bs) in
    ((bs, refl, one.0), λ ys h. h.1 ∙ ap booleans (one.1 h.0 h.2))

whole : (zs : List ℤ) → All IsInteger zs
    → Only (spec.AreWhole (list_data (map integer_value zs))) (integers zs)
whole zs p =
    let one = same_items spec.IsWhole integer_value IsInteger only_integer zs p in
    ((zs, refl, one.0), λ ys h. h.1 ∙ ap integers (one.1 h.0 h.2))

plain : (ts : List (List ℕ)) → Only (spec.AreTexts (list_data (map text_value ts))) (texts ts)
plain ts =
    let one = same_items spec.IsItemText text_value (λ t. ⊤) (λ t h. only_text t) ts (anything ts) in
    ((ts, refl, one.0), λ ys h. h.1 ∙ ap texts (one.1 h.0 h.2))

-- the alternative that a test chooses
first_only : {Y : Type 0} (b : Bool) (P Q : Y → Type 0) (y : Y) → b ≡ true → Only P y
    → Only (λ z. MatchBool b (P z) (Q z)) y
first_only b P Q y e h = subst (λ c. Only (λ z. MatchBool c (P z) (Q z)) y) (sym e) h

second_only : {Y : Type 0} (b : Bool) (P Q : Y → Type 0) (y : Y) → b ≡ false → Only Q y
    → Only (λ z. MatchBool b (P z) (Q z)) y
second_only b P Q y e h = subst (λ c. Only (λ z. MatchBool c (P z) (Q z)) y) (sym e) h

-- of a list that isn't empty
all_of : (q : List ℕ) (d : Data) (ds : List Data)
    → all_have q (Some (d ∷ ds)) ≡ list_all (has q) (d ∷ ds)
all_of q d ds =
    ap (λ b. not b && list_all (has q) (d ∷ ds)) (ne_eqb (suc (length ds)) 0 (λ e. omega (arith, e)))

abbrev Whole : List Data → ArrayValue → Type 0
Whole ds ys =
    MatchBool (all_have (codes "intValue") (Some ds)) (spec.AreWhole (list_data ds) ys)
    (spec.AreTexts (list_data ds) ys)

read_array : (xs : ArrayValue) → IsArrayInRange xs
    → Only (Reads (array_values xs)) (told_array xs)
read_array (booleans []) p = plain []
read_array (booleans (b ∷ bs)) p =
    let ds = map boolean_value (b ∷ bs) in
    first_only (all_have (codes "boolValue") (Some ds)) (spec.AreTruths (list_data ds)) (Whole ds)
    (booleans (b ∷ bs))
    (all_of (codes "boolValue") (boolean_value b) (map boolean_value bs) ∙ all_truths bs)
    (truths (b ∷ bs))
read_array (integers []) p = plain []
read_array (integers (z ∷ zs)) p =
    let ds = map integer_value (z ∷ zs) in
    second_only (all_have (codes "boolValue") (Some ds)) (spec.AreTruths (list_data ds)) (Whole ds)
    (integers (z ∷ zs)) (all_of (codes "boolValue") (integer_value z) (map integer_value zs))
    (first_only (all_have (codes "intValue") (Some ds)) (spec.AreWhole (list_data ds))
    (spec.AreTexts (list_data ds)) (integers (z ∷ zs))
    (all_of (codes "intValue") (integer_value z) (map integer_value zs) ∙ all_whole zs)
    (whole (z ∷ zs) p))
read_array (texts []) p = plain []
read_array (texts (t ∷ ts)) p =
    let ds = map text_value (t ∷ ts) in
    second_only (all_have (codes "boolValue") (Some ds)) (spec.AreTruths (list_data ds)) (Whole ds)
    (texts (t ∷ ts)) (all_of (codes "boolValue") (text_value t) (map text_value ts))
    (second_only (all_have (codes "intValue") (Some ds)) (spec.AreWhole (list_data ds))
    (spec.AreTexts (list_data ds)) (texts (t ∷ ts))
    (all_of (codes "intValue") (text_value t) (map text_value ts)) (plain (t ∷ ts)))

-- ---- values
only_value : (v : AttributeValue) → IsValueInRange v → Only (spec.IsValue (any_value v)) (told_value v)
only_value (value.boolean b) p =
    ((refl, (b, refl, refl)), λ y h. h.1.1 ∙ ap value.boolean ((only_boolean b).1 h.1.0 h.1.2))
only_value (value.integer z) p = (
  (refl, (z, refl, (only_integer z p).0)),
  λ y h. h.1.1 ∙ ap value.integer ((only_integer z p).1 h.1.0 h.1.2),
)
only_value (value.text t) p = ((refl, (t, refl, refl)), λ y h. h.1.1 ∙ ap value.text h.1.2)
only_value (value.array xs) p =
    let one = from_reads (array_values xs) (told_array xs) (read_array xs p) in
    ((refl, (told_array xs, refl, one.0)), λ y h. h.1.1 ∙ ap value.array (one.1 h.1.0 h.1.2))

-- ---- attributes
not_null : (v : AttributeValue) → unless_null (any_value v) ≡ Some (any_value v)
not_null (value.boolean b) = refl
not_null (value.integer z) = refl
not_null (value.text t) = refl
not_null (value.array xs) = refl

abbrev tell : Attribute → Attribute
tell a = (a.0, told_value a.1)

only_attribute : (a : Attribute) → IsValueInRange a.1 → Only (spec.IsAttribute (key_value a)) (tell a)
only_attribute a p =
    let one = only_there (member_of (codes "value") (key_value a)) (any_value a.1)
    (λ v. v ≡ value.text []) spec.IsValue (told_value a.1) (not_null a.1) (only_value a.1 p) in (
      record { is_object = refl; key = refl; value = one.0 },
      λ y h.
          let key : y.0 ≡ a.0 = some_same _ _ (sym h.key) in
          let same : y.1 ≡ told_value a.1 = one.1 y.1 h.value in
          λ i. (key i, same i),
    )

-- the attributes of an object, which are left out if there are none
pub only_attributes : (ms : List Member) (xs : List Attribute) → AreInRange xs
    → found (codes "attributes") ms ≡ found (codes "attributes") (attributes_member xs)
    → Only (spec.HasAttributes (object_of ms)) (told xs)
only_attributes ms xs p e =
    list_says spec.IsAttribute key_value tell (λ a. IsValueInRange a.1) only_attribute
    (codes "attributes") (object_of ms) xs p
    (list_left_out (codes "attributes") ms (map key_value xs) e refl)
