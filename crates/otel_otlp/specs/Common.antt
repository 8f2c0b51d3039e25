-- The messages that traces and logs share: attributes, resources, instrumentation scopes
-- [opentelemetry/proto/common/v1/common.proto, resource/v1/resource.proto].
use Rattle.std.specs.Prelude.{◌≡◌, ℕ, ℤ, List, [], ◌∷◌, ◌++◌, map, Bool, false, codes}
use Rattle.std.specs.Prelude.{Some, None, refl}
use Rattle.std.specs.Fmt.{signed_decimal}
use Rattle.base64.proofs.OnLiterals.{base64_on_literals}
use Rattle.base64.specs.Engines.{standard}
use Rattle.base64.specs.GeneralPurpose.{encode_of}
use Rattle.otel_base.specs.AnyValue as any
use Rattle.otel_base.specs.AnyValue.{Tree, Trees, no_trees, more_trees, Entries, no_entries}
use Rattle.otel_base.specs.AnyValue.{more_entries}
use Rattle.otel_base.specs.Array.{ArrayValue, booleans, integers, texts}
use Rattle.otel_base.specs.Value as value
use Rattle.otel_base.specs.Value.{AttributeValue}
use Rattle.otel_base.specs.KeyValue.{Attribute}
use Rattle.otel_base.specs.InstrumentationScope.{Scope}
use Rattle.otel_sdk_base.specs.Attributes as attributes
use Rattle.otel_sdk_base.specs.Resource.{Parts}
use Rattle.serde_json.specs.Data.{Data, boolean}
use Rattle.serde_json.specs.Written.{compact_text}
use Rattle.serde_json.proofs.OnLiterals.{serde_json_on_literals}
use Rattle.otel_otlp.specs.Json.{Member, object_of, text_member, object_member, list_member}
use Rattle.otel_otlp.specs.Json.{list_unless_empty, text_if_given}

-- ---- AnyValue
abbrev pub boolean_value : Bool → Data
boolean_value b = object_of ((codes "boolValue", boolean b) ∷ [])

-- a number of 64 bits is a text
abbrev pub integer_value : ℤ → Data
integer_value z = object_of (text_member (codes "intValue") (signed_decimal z))

abbrev pub text_value : List ℕ → Data
text_value s = object_of (text_member (codes "stringValue") s)

abbrev pub list_value : List Data → Data
list_value values =
    object_of (object_member (codes "arrayValue") (list_member (codes "values") values))

-- bytes in base64, with the standard alphabet and padding
abbrev pub bytes_value : List ℕ → Data
bytes_value bs = object_of (text_member (codes "bytesValue") (encode_of standard bs))

-- a map from keys to values, given as its pairs
abbrev pub map_value : List Data → Data
map_value pairs =
    object_of (object_member (codes "kvlistValue") (list_member (codes "values") pairs))

-- the items of an array, each as a value of its own; the protocol has no type of an array's items
abbrev pub array_values : ArrayValue → List Data
array_values (booleans bs) = map boolean_value bs
array_values (integers zs) = map integer_value zs
array_values (texts ss) = map text_value ss

-- the value of an attribute
abbrev pub any_value : AttributeValue → Data
any_value (value.boolean b) = boolean_value b
any_value (value.integer z) = integer_value z
any_value (value.text s) = text_value s
any_value (value.array xs) = list_value (array_values xs)

-- ---- KeyValue
abbrev pub pair : List ℕ → Data → Data
pair key value = object_of (text_member (codes "key") key ++ (codes "value", value) ∷ [])

-- an attribute of a span, a resource or a scope
abbrev pub key_value : Attribute → Data
key_value a = pair a.0 (any_value a.1)

-- the member `attributes`, left out if there are none
abbrev pub attributes_member : List Attribute → List Member
attributes_member xs = list_unless_empty (codes "attributes") (map key_value xs)

-- ---- the value of a tree
abbrev mutual
  pub tree_value : Tree → Data
  tree_value (any.integer z) = integer_value z
  tree_value (any.text s) = text_value s
  tree_value (any.boolean b) = boolean_value b
  tree_value (any.bytes bs) = bytes_value bs
  tree_value (any.list ts) = list_value (tree_values ts)
  tree_value (any.map es) = map_value (entry_values es)

  -- the values of a list, in order
  pub tree_values : Trees → List Data
  tree_values no_trees = []
  tree_values (more_trees t ts) = tree_value t ∷ tree_values ts

  -- the pairs of a map, in the order of its keys
  pub entry_values : Entries → List Data
  entry_values no_entries = []
  entry_values (more_entries k t es) = pair k (tree_value t) ∷ entry_values es

-- ---- Resource
abbrev pub resource : Parts → Data
resource r = object_of (attributes_member r.attributes)

-- ---- InstrumentationScope
-- each key once, with its last value at its first place
abbrev pub unique : List Attribute → List Attribute
unique xs = attributes.put_all [] xs

abbrev pub instrumentation_scope : Scope → Data
instrumentation_scope s =
    object_of (text_member (codes "name") s.name ++ text_if_given (codes "version") s.version
    ++ attributes_member (unique s.attributes))

-- ---- worked rows
false_example :
    compact_text (any_value (value.boolean false)) ≡ codes "{\"boolValue\":false}"
unfolding serde_json_on_literals
false_example = refl

empty_text_example : compact_text (any_value (value.text [])) ≡ codes "{\"stringValue\":\"\"}"
unfolding serde_json_on_literals
empty_text_example = refl

empty_array_example :
    compact_text (any_value (value.array (texts []))) ≡ codes "{\"arrayValue\":{\"values\":[]}}"
unfolding serde_json_on_literals
empty_array_example = refl

-- bytes 255, 254
bytes_example :
    compact_text (tree_value (any.bytes (255 ∷ 254 ∷ []))) ≡ codes "{\"bytesValue\":\"//4=\"}"
unfolding serde_json_on_literals base64_on_literals
bytes_example = refl

-- the map of a to "x"
map_example :
    compact_text (tree_value (any.map (more_entries (codes "a") (any.text (codes "x")) no_entries)))
    ≡ codes "{\"kvlistValue\":{\"values\":[{\"key\":\"a\","
    ++ codes "\"value\":{\"stringValue\":\"x\"}}]}}"
unfolding serde_json_on_literals
map_example = refl

empty_scope_example :
    compact_text (instrumentation_scope
    (record { name = []; version = Some []; schema_url = None; attributes = [] }))
    ≡ codes "{\"name\":\"\",\"version\":\"\"}"
unfolding serde_json_on_literals
empty_scope_example = refl
