-- How a resource is read from two texts (OpenTelemetry specification, "Specifying resource
-- information via an environment variable").
use Rattle.std.specs.Prelude.{◌≡◌, ℕ, Bool, true, false, not, ◌&&◌, ◌==◌, List, [], ◌∷◌, drop}
use Rattle.std.specs.Prelude.{Option, Some, None, MatchOption, Result, Ok, Err, is_some, position}
use Rattle.std.specs.Prelude.{codes, refl}
use Rattle.std.specs.Prelude.{if◌then◌else◌, map, length, filter_map, option_map}
use Rattle.std.specs.Char.{is_ascii_hexdigit, encode_utf8}
use Rattle.std.specs.List.{list_all, list_any, slice_split, before_first, after_first}
use Rattle.std.specs.Str.{is_utf8, chars}
use Rattle.std.specs.declared.vec.Vec.{Vec}
use denote.Ref.{Bor}
use Rattle.std.specs.declared.alloc.Global.{Global}
use Rattle.percent_encoding.specs.Percent.{percent_decode, percent_sign}
use Rattle.otel_base.specs.Blanks.{cut_blanks}
use Rattle.otel_ids.specs.Text.{is_comma, is_equals}
use Rattle.otel_base.specs.KeyValue.{Attribute}
use Rattle.otel_base.specs.View.{attribute_of}
use Rattle.otel_base.specs.declared.key_value.KeyValue.{KeyValue}
use Rattle.otel_sdk_base.specs.Attributes.{attributes_of, put, put_all}
use Rattle.otel_sdk_base.specs.Resource.{Parts, named}
use Rattle.otel_sdk_base.specs.declared.resource.texts.ResourceTextError.{ResourceTextError}

-- ---- escapes
-- whether the text begins with two hexadecimal digits
abbrev pub begins_with_byte : List ℕ → Bool
begins_with_byte [] = false
begins_with_byte (high ∷ []) = false
begins_with_byte (high ∷ low ∷ rest) = is_ascii_hexdigit high && is_ascii_hexdigit low

-- whether two hexadecimal digits follow each `%`
abbrev pub has_whole_escapes : List ℕ → Bool
has_whole_escapes t = list_all begins_with_byte (drop 1 (slice_split (λ b. b == percent_sign) t))

-- The text with each escape replaced by its byte (RFC 3986, section 2.1), or None if an escape is
-- incomplete or the bytes aren't UTF-8: `b%2C` is `b,`, and `%f` and `%ff` are None.
abbrev pub decoded : List ℕ → Option (List ℕ)
decoded t =
    if has_whole_escapes t && is_utf8 (percent_decode t) then Some (percent_decode t) else None

-- ---- pieces
-- the texts between the commas, in order
abbrev pub pieces : List ℕ → List (List ℕ)
pieces t = slice_split is_comma t

-- the key as it is written: the text before the first `=`, without the blanks at both ends
abbrev pub written_key : List ℕ → List ℕ
written_key piece = cut_blanks (before_first is_equals piece)

-- the value as it is written: the text after the first `=`, without the blanks at both ends
abbrev pub written_value : List ℕ → List ℕ
written_value piece = cut_blanks (after_first is_equals piece)

-- the key and the value of a piece as they are written, or None if it has no `=`
abbrev pub AreParts : List ℕ → Option (Bor (List ℕ) × Bor (List ℕ)) → Type 0
AreParts piece result = MatchOption result (list_any is_equals piece ≡ false) (λ parts.
    (list_any is_equals piece ≡ true)
    × (parts.0.now ≡ written_key piece)
    × (parts.1.now ≡ written_value piece))

-- the attribute of that key and value, if both exist and the key isn't empty
abbrev pub pair_of : Option (List ℕ) → Option (List ℕ) → Option Attribute
pair_of (Some (b ∷ key)) (Some value) = Some (named (b ∷ key) value)
pair_of (Some (b ∷ key)) None = None
pair_of (Some []) value = None
pair_of None value = None

-- the attribute that a piece denotes, if any
abbrev pub attribute_in : List ℕ → Option Attribute
attribute_in piece =
    if list_any is_equals piece
    then pair_of (decoded (written_key piece)) (decoded (written_value piece))
    else None

-- whether the piece is neither an attribute nor blank
abbrev pub is_fault : List ℕ → Bool
is_fault piece = not (is_some (attribute_in piece)) && not (length (cut_blanks piece) == 0)

-- the number of the first faulty piece, counted from 0
abbrev pub fault : List ℕ → Option ℕ
fault t = position is_fault (pieces t)

-- the piece that an error names, if there is an error
abbrev pub reported_piece : Option ResourceTextError → Option ℕ
reported_piece error = option_map (λ e. e.piece) error

-- the attributes that the pieces denote, set in turn
abbrev pub attributes_in : List ℕ → List Attribute
attributes_in t = put_all [] (filter_map attribute_in (pieces t))

-- A text is read as its attributes if it has no fault, otherwise as its first faulty piece.
abbrev pub IsReadAs : List ℕ → Result (Vec KeyValue Global) ResourceTextError → Type 0
IsReadAs t (Ok attributes) =
    (fault t ≡ None) × (map attribute_of attributes.items ≡ attributes_in t)
IsReadAs t (Err error) = fault t ≡ Some error.piece

-- ---- both texts
-- the attributes with this service name, unless it is blank
abbrev pub with_service_name : List ℕ → List Attribute → List Attribute
with_service_name name xs =
    if length (cut_blanks name) == 0 then xs
    else put xs (named (codes "service.name") (cut_blanks name))

-- `new` is `old` with this service name, unless it is blank
abbrev pub NamesService : List ℕ → Vec KeyValue Global → Vec KeyValue Global → Type 0
NamesService name old new = attributes_of new ≡ with_service_name name (attributes_of old)

-- The resource of an attribute text and a service name (the variables `OTEL_RESOURCE_ATTRIBUTES`
-- and `OTEL_SERVICE_NAME`). A text with a fault gives no attributes.
abbrev pub from_texts : List ℕ → List ℕ → Parts
from_texts t name = record {
  attributes = with_service_name name (if is_some (fault t) then [] else attributes_in t);
  schema_url = None;
}

-- ---- worked rows
abbrev some : List ℕ → List ℕ → List Attribute
some key value = named key value ∷ []

blanks_example : attributes_in (codes "key=value, k = v , a= x, a=z")
    ≡ named (codes "key") (codes "value") ∷ named (codes "k") (codes "v")
    ∷ some (codes "a") (codes "z")
unfolding percent_decode is_utf8 chars encode_utf8
blanks_example = refl

escapes_example : attributes_in (codes "a=b%2Cc%3dd,a%20b=c,c=%20,d=1+1")
    ≡ named (codes "a") (codes "b,c=d") ∷ named (codes "a b") (codes "c")
    ∷ named (codes "c") (codes " ")
    ∷ some (codes "d") (codes "1+1")
unfolding percent_decode is_utf8 chars encode_utf8
escapes_example = refl

equals_example :
    attributes_in (codes "a=1=2,,b=,") ≡ named (codes "a") (codes "1=2") ∷ some (codes "b") []
unfolding percent_decode is_utf8 chars encode_utf8
equals_example = refl

lacks_equals_example : fault (codes "a=1,b") ≡ Some 1
unfolding percent_decode is_utf8 chars encode_utf8
lacks_equals_example = refl

no_key_example : fault (codes "a=1,=x") ≡ Some 1
unfolding percent_decode is_utf8 chars encode_utf8
no_key_example = refl

half_escape_example : fault (codes "a=1,b=%f") ≡ Some 1
unfolding percent_decode is_utf8 chars encode_utf8
half_escape_example = refl

not_utf8_example : fault (codes "a=1,b=%ff") ≡ Some 1
unfolding percent_decode is_utf8 chars encode_utf8
not_utf8_example = refl

blank_example : fault (codes "   ") ≡ None
blank_example = refl

name_example : (from_texts (codes "service.name=x,k=v") (codes " bar ")).attributes
    ≡ named (codes "service.name") (codes "bar") ∷ some (codes "k") (codes "v")
unfolding percent_decode is_utf8 chars encode_utf8
name_example = refl

name_only_example : from_texts (codes "a") (codes "bar")
    ≡ record { attributes = some (codes "service.name") (codes "bar"); schema_url = None }
unfolding percent_decode is_utf8 chars encode_utf8
name_only_example = refl
