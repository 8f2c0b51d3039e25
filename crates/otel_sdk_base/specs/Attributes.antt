-- How an attribute is set in a list with unique keys and a limit, and how long texts are truncated.
use Rattle.std.specs.Prelude.{◌≡◌, ℕ, ◌+◌, ◌<◌, List, [], ◌∷◌, ◌++◌, length, map, take}
use Rattle.std.specs.Prelude.{Bool, true, false, ◌||◌, nat_lt, fold, Option, Some, None, is_some}
use Rattle.std.specs.Prelude.{if◌then◌else◌, position, slice_set, codes, refl}
use Rattle.std.specs.List.{IsDistinct}
use Rattle.std.specs.Option.{option_map_or}
use Rattle.std.specs.Fmt.{take_chars}
use Rattle.std.specs.Str.{bytes_eq}
use Rattle.std.specs.declared.alloc.Global.{Global}
use Rattle.std.specs.declared.vec.Vec.{Vec}
use Rattle.otel_base.specs.Array.{ArrayValue, booleans, integers, texts}
use Rattle.otel_base.specs.Value.{AttributeValue, boolean, integer, text, array}
use Rattle.otel_base.specs.KeyValue.{Attribute, has_key}
use Rattle.otel_base.specs.View.{attribute_of}
use Rattle.otel_base.specs.declared.key_value.KeyValue.{KeyValue}

-- ---- setting
-- the place of the key, if an attribute has it
abbrev pub place : List ℕ → List Attribute → Option ℕ
place k xs = position (has_key k) xs

-- the list with a in the place of the attribute with its key, or with a last if there is none
-- (OpenTelemetry specification, "Attribute Collections"; the order is own)
abbrev pub put : List Attribute → Attribute → List Attribute
put xs a = option_map_or (λ i. slice_set xs i a) (place a.0 xs) (xs ++ a ∷ [])

-- whether a is kept: its key is present, or the list has fewer attributes than the limit
-- (OpenTelemetry specification, "Attribute Limits")
abbrev pub keeps : ℕ → List Attribute → Attribute → Bool
keeps limit xs a = is_some (place a.0 xs) || nat_lt (length xs) limit

-- the list after a is set: a is put if it is kept, otherwise nothing changes
abbrev pub set : ℕ → List Attribute → Attribute → List Attribute
set limit xs a = if keeps limit xs a then put xs a else xs

-- the list after each of them is set in turn
abbrev pub set_all : ℕ → List Attribute → List Attribute → List Attribute
set_all limit xs [] = xs
set_all limit xs (a ∷ more) = set_all limit (set limit xs a) more

-- how many of them are dropped
abbrev pub dropped : ℕ → List Attribute → List Attribute → ℕ
dropped limit xs [] = 0
dropped limit xs (a ∷ more) =
    (if keeps limit xs a then 0 else 1) + dropped limit (set limit xs a) more

-- the list after each of them is put in turn: without a limit none is dropped
abbrev pub put_all : List Attribute → List Attribute → List Attribute
put_all xs given = fold put xs given

-- the keys, in order
abbrev pub keys : List Attribute → List (List ℕ)
keys xs = map (λ p. p.0) xs

-- no two attributes have the same key
abbrev pub HasUniqueKeys : List Attribute → Type 0
HasUniqueKeys xs = IsDistinct bytes_eq (keys xs)

-- ---- counting
-- a count plus a number, saturating at the greatest `u32`
abbrev pub up_by : ℕ → ℕ → ℕ
up_by count more = if nat_lt (count + more) 4294967296 then count + more else 4294967295

-- ---- cutting
-- the value with each text truncated to its first n characters, also the texts of an array
-- (OpenTelemetry specification, "Attribute Limits"): if n = 1, two characters of four bytes are
-- truncated to one
abbrev pub cut_array : ℕ → ArrayValue → ArrayValue
cut_array n (texts ts) = texts (map (take_chars n) ts)
cut_array n (booleans bs) = booleans bs
cut_array n (integers zs) = integers zs

abbrev pub cut_value : ℕ → AttributeValue → AttributeValue
cut_value n (text t) = text (take_chars n t)
cut_value n (array xs) = array (cut_array n xs)
cut_value n (boolean b) = boolean b
cut_value n (integer z) = integer z

-- the attribute with its value cut, if there is a limit
abbrev pub cut : Option ℕ → Attribute → Attribute
cut None a = a
cut (Some n) a = (a.0, cut_value n a.1)

-- the attributes, each cut and then set in turn in an empty list, up to the limit
abbrev pub limited : ℕ → Option ℕ → List Attribute → List Attribute
limited limit length given = set_all limit [] (map (cut length) given)

-- how many of the attributes are then dropped
abbrev pub left_out : ℕ → Option ℕ → List Attribute → ℕ
left_out limit length given = dropped limit [] (map (cut length) given)

-- ---- the lists of the program
-- the view of a list in the program
abbrev pub attributes_of : Vec KeyValue Global → List Attribute
attributes_of list = map attribute_of list.items

-- `new` is `old` with the attribute put
abbrev pub Puts : KeyValue → Vec KeyValue Global → Vec KeyValue Global → Type 0
Puts attribute old new = attributes_of new ≡ put (attributes_of old) (attribute_of attribute)

-- `new` is `old` with each of the given attributes put in turn
abbrev pub PutsAll : Vec KeyValue Global → Vec KeyValue Global → Vec KeyValue Global → Type 0
PutsAll given old new = attributes_of new ≡ put_all (attributes_of old) (attributes_of given)

-- `new` is `old` with the first of the given attributes put in turn, but not all of them
abbrev pub PutsFirst : Vec KeyValue Global → Vec KeyValue Global → Vec KeyValue Global → Type 0
PutsFirst given old new = (n : ℕ) × (n < length given.items)
    × (attributes_of new ≡ put_all (attributes_of old) (take n (attributes_of given)))

-- whether the attribute is kept in the list under the limit
abbrev pub is_kept : ℕ → KeyValue → Vec KeyValue Global → Bool
is_kept limit attribute list = keeps limit (attributes_of list) (attribute_of attribute)

-- `new` is `old` with the attribute set under the limit
abbrev pub Sets : ℕ → KeyValue → Vec KeyValue Global → Vec KeyValue Global → Type 0
Sets limit attribute old new =
    attributes_of new ≡ set limit (attributes_of old) (attribute_of attribute)

-- ---- worked rows
abbrev on : List ℕ → Attribute
on k = (k, boolean true)

abbrev off : List ℕ → Attribute
off k = (k, boolean false)

at_limit_example : set_all 2 [] (on (codes "a") ∷ on (codes "b") ∷ on (codes "c") ∷ [])
    ≡ on (codes "a") ∷ on (codes "b") ∷ []
at_limit_example = refl

replaced_example :
    set_all 2 (on (codes "a") ∷ on (codes "b") ∷ []) (off (codes "a") ∷ on (codes "c") ∷ [])
    ≡ off (codes "a") ∷ on (codes "b") ∷ []
replaced_example = refl

dropped_example : dropped 2 (on (codes "a") ∷ on (codes "b") ∷ [])
    (off (codes "a") ∷ on (codes "c") ∷ on (codes "c") ∷ []) ≡ 2
dropped_example = refl

no_room_example : dropped 0 [] (on (codes "a") ∷ []) ≡ 1
no_room_example = refl

-- h, U+00E9, l, l, o cut to three characters, which are four bytes
cut_text_example : cut (Some 3) (codes "k", text (104 ∷ 195 ∷ 169 ∷ 108 ∷ 108 ∷ 111 ∷ []))
    ≡ (codes "k", text (104 ∷ 195 ∷ 169 ∷ 108 ∷ []))
unfolding take_chars
cut_text_example = refl

cut_array_example : cut (Some 3) (codes "k", array (texts (codes "abcd" ∷ codes "ab" ∷ [])))
    ≡ (codes "k", array (texts (codes "abc" ∷ codes "ab" ∷ [])))
unfolding take_chars
cut_array_example = refl
