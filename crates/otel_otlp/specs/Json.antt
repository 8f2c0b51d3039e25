-- JSON objects built from members, and the OTLP forms of numbers and ids [OpenTelemetry protocol,
-- "JSON Protobuf Encoding"].
use Rattle.std.specs.Prelude.{◌≡◌, ℕ, ◌==◌, ◌≤◌, false, List, [], ◌∷◌, length, Option, Some, None}
use Rattle.std.specs.Prelude.{if◌then◌else◌, decimal}
use Rattle.std.specs.Int.{w64, w128, to_be_bytes}
use Rattle.hex.specs.Hex.{encode_lower}
use Rattle.serde_json.specs.Data.{Data, object, string, array, number, unsigned}
use Rattle.serde_json.specs.Data.{Members, no_members, put}
use Rattle.serde_json.specs.Data.{depth}
use Rattle.serde_json.specs.Read.{read, max_depth}
use Rattle.serde_json.specs.View.{items_of}
use Rattle.serde_json.specs.Written.{has_float, compact_text, IsInOrder}

-- a name with its value
abbrev pub Member : Type 0
Member = List ℕ × Data

-- the members with each of these put in turn
abbrev pub put_all : Members → List Member → Members
put_all members [] = members
put_all members (m ∷ more) = put_all (put m.0 m.1 members) more

-- the object of these members, sorted by the bytes of their names
abbrev pub object_of : List Member → Data
object_of members = object (put_all no_members members)

-- ---- one member
abbrev pub text_member : List ℕ → List ℕ → List Member
text_member name text = (name, string text) ∷ []

abbrev pub number_member : List ℕ → ℕ → List Member
number_member name n = (name, number (unsigned n)) ∷ []

abbrev pub list_member : List ℕ → List Data → List Member
list_member name values = (name, array (items_of values)) ∷ []

abbrev pub object_member : List ℕ → List Member → List Member
object_member name members = (name, object_of members) ∷ []

-- a number of 64 bits is a text, its decimal digits
abbrev pub decimal_member : List ℕ → ℕ → List Member
decimal_member name n = text_member name (decimal n)

-- ---- members that may be left out
abbrev pub text_unless_empty : List ℕ → List ℕ → List Member
text_unless_empty name text = if length text == 0 then [] else text_member name text

abbrev pub number_unless_zero : List ℕ → ℕ → List Member
number_unless_zero name n = if n == 0 then [] else number_member name n

abbrev pub list_unless_empty : List ℕ → List Data → List Member
list_unless_empty name values = if length values == 0 then [] else list_member name values

abbrev pub text_if_given : List ℕ → Option (List ℕ) → List Member
text_if_given name None = []
text_if_given name (Some text) = text_member name text

abbrev pub number_if_given : List ℕ → Option ℕ → List Member
number_if_given name None = []
number_if_given name (Some n) = number_member name n

abbrev pub decimal_if_given : List ℕ → Option ℕ → List Member
decimal_if_given name None = []
decimal_if_given name (Some n) = decimal_member name n

-- ---- ids
-- 32 lower-case hexadecimal digits, not base64
abbrev pub trace_id_text : ℕ → List ℕ
trace_id_text id = encode_lower (to_be_bytes w128 id)

-- 16 lower-case hexadecimal digits
abbrev pub span_id_text : ℕ → List ℕ
span_id_text id = encode_lower (to_be_bytes w64 id)

-- ---- texts
-- the text is the compact JSON of the value, without spaces: it has the value's items and members
-- once each and in order, and reads back as the value unless it nests deeper than a reader accepts
pub record IsTextOf (text : List ℕ) (value : Data) : Type 0 where
  pub compact : has_float value ≡ false → text ≡ compact_text value
  pub in_order : IsInOrder text value
  pub reads_back : depth value ≤ max_depth → read text ≡ Some value
