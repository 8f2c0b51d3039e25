-- The messages that traces and logs share: values and attributes
-- [opentelemetry/proto/common/v1/common.proto].
use Rattle.std.specs.Prelude.{◌≡◌, ℕ, ℤ, List, [], ◌∷◌, ◌++◌, Bool, false, refl, negsuc}
use Rattle.std.specs.Prelude.{codes}
use Rattle.otel_base.specs.Array.{ArrayValue, booleans, integers, texts}
use Rattle.otel_base.specs.Value as value
use Rattle.otel_base.specs.Value.{AttributeValue}
use Rattle.otel_base.specs.KeyValue.{Attribute}
use Rattle.otel_proto.specs.Wire.{Field, bytes}
use Rattle.otel_proto.specs.Written.{message, messages, integer, boolean, bytes_unless_empty}
use Rattle.otel_proto.specs.Written.{bytes_of}
use Rattle.otel_proto.specs.Written.{varint_bytes}

-- ---- AnyValue
-- the member of the oneof is written even if it is 0 or empty
abbrev pub text_value : List ℕ → List Field
text_value s = (1, bytes s) ∷ []

abbrev pub boolean_value : Bool → List Field
boolean_value b = boolean 2 b ∷ []

abbrev pub integer_value : ℤ → List Field
integer_value z = integer 3 z ∷ []

-- the fields of an `ArrayValue`: the items, each as a value of its own; the protocol has no type of
-- an array's items
abbrev pub array_values : ArrayValue → List Field
array_values (booleans bs) = messages 1 boolean_value bs
array_values (integers zs) = messages 1 integer_value zs
array_values (texts ss) = messages 1 text_value ss

-- the value of an attribute
abbrev pub any_value : AttributeValue → List Field
any_value (value.boolean b) = boolean_value b
any_value (value.integer z) = integer_value z
any_value (value.text s) = text_value s
any_value (value.array xs) = message 5 (array_values xs) ∷ []

-- ---- KeyValue
abbrev pub pair : List ℕ → List Field → List Field
pair key value = bytes_unless_empty 1 key ++ message 2 value ∷ []

-- an attribute of a span, a resource or a scope
abbrev pub key_value : Attribute → List Field
key_value a = pair a.0 (any_value a.1)

-- ---- attributes
-- each as a field of the number
abbrev pub attributes : ℕ → List Attribute → List Field
attributes number xs = messages number key_value xs

-- the fields of a `KeyValueList`
abbrev pub key_value_list : List Attribute → List Field
key_value_list xs = attributes 1 xs

-- ---- worked rows
empty_text_example : bytes_of (any_value (value.text [])) ≡ 0x0a ∷ 0 ∷ []
unfolding varint_bytes bytes_of
empty_text_example = refl

false_example : bytes_of (any_value (value.boolean false)) ≡ 0x10 ∷ 0 ∷ []
unfolding varint_bytes bytes_of
false_example = refl

negative_example :
    bytes_of (any_value (value.integer (negsuc 0)))
    ≡ 0x18 ∷ 255 ∷ 255 ∷ 255 ∷ 255 ∷ 255 ∷ 255 ∷ 255 ∷ 255 ∷ 255 ∷ 1 ∷ []
unfolding varint_bytes bytes_of
negative_example = refl

empty_array_example : bytes_of (any_value (value.array (texts []))) ≡ 0x2a ∷ 0 ∷ []
unfolding varint_bytes bytes_of
empty_array_example = refl

pair_example :
    bytes_of (message 6 (message 1 (pair (codes "k") (text_value (codes "v"))) ∷ []) ∷ [])
    ≡ 0x32 ∷ 0x0a ∷ 0x0a ∷ 8 ∷ 0x0a ∷ 1 ∷ 0x6b ∷ 0x12 ∷ 3 ∷ 0x0a ∷ 1 ∷ 0x76 ∷ []
unfolding varint_bytes bytes_of
pair_example = refl
