-- Value trees, which are the bodies and attributes of log records, read from JSON whoever wrote it
-- [OpenTelemetry protocol, "JSON Protobuf Encoding"; opentelemetry/proto/common/v1/common.proto].
use Rattle.std.specs.Prelude.{◌≡◌, ℕ, zero, suc, ℤ, Bool, List, codes}
use Rattle.std.specs.Prelude.{Option, Some, None, MatchOption, option_and_then}
use Rattle.std.specs.Bool.{MatchBool}
use Rattle.std.specs.Option.{option_or}
use Rattle.std.specs.Result.{result_ok}
use Rattle.base64.specs.Engines.{standard_pad_indifferent, url_safe_pad_indifferent}
use Rattle.base64.specs.GeneralPurpose.{decode_of}
use Rattle.otel_base.specs.AnyValue as any
use Rattle.otel_base.specs.AnyValue.{Tree, IsMapOf}
use Rattle.otel_base.specs.View.{trees_of}
use Rattle.otel_sdk_logs.specs.Attributes.{Attribute}
use Rattle.otel_otlp.specs.Json.{IsTextOf}
use Rattle.otel_otlp.specs.ReadMembers.{IsObject, member_of, has, text_in, AreIn}
use Rattle.otel_otlp.specs.ReadValues.{IsTruth, IsWhole}
use Rattle.serde_json.specs.Data.{Data, null, boolean, number, string, array, object}
use Rattle.serde_json.specs.Find.{as_str}

-- ---- bytes
-- the bytes that a text writes in base64 with the alphabet for URLs, with or without padding
abbrev pub url_safe_bytes_of : List ℕ → Option (List ℕ)
url_safe_bytes_of text = result_ok (decode_of url_safe_pad_indifferent text)

-- the same of either alphabet
abbrev pub bytes_of : List ℕ → Option (List ℕ)
bytes_of text =
    option_or (result_ok (decode_of standard_pad_indifferent text)) (url_safe_bytes_of text)

abbrev pub AreBytes : Data → Tree → Type 0
AreBytes d t =
    (bs : List ℕ) × (t ≡ any.bytes bs) × (option_and_then bytes_of (as_str d) ≡ Some bs)

-- ---- other leaves
-- trees have no floats: the text of the number instead
abbrev pub IsFloat : Data → Tree → Type 0
IsFloat null t = ⊥
IsFloat (boolean _) t = ⊥
IsFloat (number n) t = (text : List ℕ) × (t ≡ any.text text) × IsTextOf text (number n)
IsFloat (string text) t = t ≡ any.text text
IsFloat (array _) t = ⊥
IsFloat (object _) t = ⊥

-- the empty value is the empty text
abbrev pub IsText : Data → Tree → Type 0
IsText d t = (text : List ℕ) × (t ≡ any.text text) × (text_in (codes "stringValue") d ≡ Some text)

abbrev pub IsTextLike : Data → Tree → Type 0
IsTextLike d t =
    MatchOption (member_of (codes "bytesValue") d)
    (MatchOption (member_of (codes "doubleValue") d) (IsText d t) (λ float. IsFloat float t))
    (λ bytes. AreBytes bytes t)

abbrev pub IsLeaf : Data → Tree → Type 0
IsLeaf d t =
    MatchBool (has (codes "boolValue") d) ((b : Bool) × (t ≡ any.boolean b) × IsTruth d b)
    (MatchBool (has (codes "intValue") d) ((z : ℤ) × (t ≡ any.integer z) × IsWhole d z)
    (IsTextLike d t))

-- ---- lists and maps
-- the text of the JSON
abbrev pub IsItsJson : Data → Tree → Type 0
IsItsJson d t = (text : List ℕ) × (t ≡ any.text text) × IsTextOf text d

-- an AnyValue, by what its lists and maps are
abbrev pub IsAny : (Data → Tree → Type 0) → (Data → Tree → Type 0) → Data → Tree → Type 0
IsAny IsList IsMap d t = IsObject d × MatchOption (member_of (codes "arrayValue") d)
    (MatchOption (member_of (codes "kvlistValue") d) (IsLeaf d t) (λ map. IsMap map t))
    (λ list. IsList list t)

-- a KeyValue, by what its value is; an absent value is the empty text
abbrev pub HasTree : (Data → Tree → Type 0) → Data → Tree → Type 0
HasTree IsTree d t =
    MatchOption (member_of (codes "value") d) (t ≡ any.text (codes "")) (λ given. IsTree given t)

pub record IsPairOf (IsTree : Data → Tree → Type 0) (d : Data) (p : Attribute) : Type 0 where
  pub is_object : IsObject d
  pub key : text_in (codes "key") d ≡ Some p.0
  pub value : HasTree IsTree d p.1

-- the items of a list, by what each is
abbrev pub IsListOf : (Data → Tree → Type 0) → Data → Tree → Type 0
IsListOf IsTree d t =
    (ts : List Tree) × (t ≡ any.list (trees_of ts)) × AreIn IsTree (codes "values") d ts

-- the pairs of a map, by what the value of each is; the last value of a key wins
abbrev pub IsMapBy : (Data → Tree → Type 0) → Data → Tree → Type 0
IsMapBy IsTree d t =
    (ps : List Attribute) × IsMapOf ps t × AreIn (IsPairOf IsTree) (codes "values") d ps

abbrev mutual
  -- an ArrayValue, within which n lists and maps may be within each other; if none may, it is read
  -- as its JSON
  pub IsList : ℕ → Data → Tree → Type 0
  IsList zero d t = IsObject d × IsItsJson d t
  IsList (suc n) d t = IsObject d × IsListOf (IsAny (IsList n) (IsMap n)) d t

  -- a KeyValueList, likewise
  pub IsMap : ℕ → Data → Tree → Type 0
  IsMap zero d t = IsObject d × IsItsJson d t
  IsMap (suc n) d t = IsObject d × IsMapBy (IsAny (IsList n) (IsMap n)) d t

-- an AnyValue, likewise
abbrev pub IsTree : ℕ → Data → Tree → Type 0
IsTree n = IsAny (IsList n) (IsMap n)

abbrev pub IsValueIn : ℕ → Data → Tree → Type 0
IsValueIn n = HasTree (IsTree n)

abbrev pub IsPair : ℕ → Data → Attribute → Type 0
IsPair n = IsPairOf (IsTree n)

-- ---- members of a log record
-- the greatest number of lists and maps within each other that are read as such (own): an exporter
-- writes fewer
unfoldable pub levels : ℕ
levels = 32

abbrev pub HasAttributes : Data → List Attribute → Type 0
HasAttributes = AreIn (IsPair levels) (codes "attributes")

abbrev pub HasBody : Data → Option Tree → Type 0
HasBody d body =
    MatchOption (member_of (codes "body") d) (body ≡ None)
    (λ given. (t : Tree) × (body ≡ Some t) × IsTree levels given t)
