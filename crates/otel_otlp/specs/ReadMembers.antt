-- The members of the protocol's messages, read from JSON whoever wrote it: they are in any order,
-- unknown ones are ignored, one that is null counts as absent, and an absent one has the protocol's
-- default [OpenTelemetry protocol, "JSON Protobuf Encoding"].
use Rattle.std.specs.Prelude.{◌≡◌, ℕ, ◌<◌, ◌^◌, ℤ, Bool, true, false, ◌&&◌, not, List, [], ◌∷◌}
use Rattle.std.specs.Prelude.{length, ◌==◌}
use Rattle.std.specs.Prelude.{if◌then◌else◌, codes, FitsSigned, refl}
use Rattle.std.specs.Prelude.{Option, Some, None, is_some, MatchOption, option_map, option_and_then}
use Rattle.std.specs.Bool.{MatchBool}
use Rattle.std.specs.Int.{w64, w128, from_be_bytes}
use Rattle.std.specs.List.{AllZip, list_all}
use Rattle.std.specs.Option.{SomeIff}
use Rattle.std.specs.Result.{result_ok}
use Rattle.std.specs.Str.Parse.{IsNumeral, without_leading_sign, signed_digits_value}
use Rattle.hex.specs.Hex.{decode_sized}
use Rattle.hex.proofs.OnLiterals.{hex_on_literals}
use Rattle.otel_ids.specs.Reading.{Reads}
use Rattle.otel_ids.specs.TraceState.{Pair}
use Rattle.otel_otlp.specs.HttpResponse.{IsCount}
use Rattle.otel_otlp.specs.declared.read.error.Fault.{Fault}
use Rattle.otel_otlp.specs.declared.read.error.Fault.TheVariants as fault
use Rattle.serde_json.specs.Data.{Data, null, boolean, number, string, array, object}
use Rattle.serde_json.specs.Data.{Items, no_items, item}
use Rattle.serde_json.specs.Find.{get, as_null, as_i64, as_str, as_array, as_object}

-- ---- faults
-- the value was refused; memory didn't run out
abbrev pub IsRefused : Fault → Type 0
IsRefused (fault.Unexpected place wanted) = Unit {0}
IsRefused (fault.Memory e) = ⊥

-- ---- members
abbrev pub IsObject : Data → Type 0
IsObject d = is_some (as_object d) ≡ true

-- a value that is null counts as absent
abbrev pub unless_null : Data → Option Data
unless_null d = if is_some (as_null d) then None else Some d

abbrev pub member_of : List ℕ → Data → Option Data
member_of name d = option_and_then unless_null (get name d)

abbrev pub has : List ℕ → Data → Bool
has name d = is_some (member_of name d)

-- ---- texts
-- an absent text is empty
abbrev pub text_of : Option Data → Option (List ℕ)
text_of None = Some []
text_of (Some d) = as_str d

abbrev pub text_in : List ℕ → Data → Option (List ℕ)
text_in name d = text_of (member_of name d)

-- a text that may be absent
abbrev pub given_text_of : Option Data → Option (Option (List ℕ))
given_text_of None = Some None
given_text_of (Some d) = option_map (λ text. Some text) (as_str d)

abbrev pub given_text_in : List ℕ → Data → Option (Option (List ℕ))
given_text_in name d = given_text_of (member_of name d)

-- ---- numbers
-- an absent number is 0; one of 64 bits is a number or a decimal text
abbrev pub IsWideIn : List ℕ → Data → ℕ → Type 0
IsWideIn name d n = MatchOption (member_of name d) (n ≡ 0) (λ value. IsCount value (Some n))

-- a number of 64 bits that may be absent
abbrev pub IsGivenWideIn : List ℕ → Data → Option ℕ → Type 0
IsGivenWideIn name d n =
    MatchOption (member_of name d) (n ≡ None)
    (λ value. (given : ℕ) × (n ≡ Some given) × IsCount value (Some given))

-- a number of 32 bits
abbrev pub IsNarrowIn : List ℕ → Data → ℕ → Type 0
IsNarrowIn name d n = IsWideIn name d n × (n < 2 ^ 32)

-- a number of 32 bits that may be absent
abbrev pub IsGivenNarrowIn : List ℕ → Data → Option ℕ → Type 0
IsGivenNarrowIn name d n =
    MatchBool (has name d) ((given : ℕ) × (n ≡ Some given) × IsNarrowIn name d given) (n ≡ None)

-- the integer of 64 bits that a text of decimal digits after an optional sign writes
abbrev pub IsSignedDecimal : List ℕ → Option ℤ → Type 0
IsSignedDecimal text integer =
    SomeIff integer
    (IsNumeral 10 (without_leading_sign text) × FitsSigned w64 (signed_digits_value 10 text))
    (signed_digits_value 10 text)

-- an integer of 64 bits with its sign is a number or a decimal text
abbrev pub IsInteger : Data → Option ℤ → Type 0
IsInteger null integer = integer ≡ None
IsInteger (boolean _) integer = integer ≡ None
IsInteger (number n) integer = integer ≡ as_i64 n
IsInteger (string text) integer = IsSignedDecimal text integer
IsInteger (array _) integer = integer ≡ None
IsInteger (object _) integer = integer ≡ None

-- ---- ids
-- the bytes that twice as many hexadecimal digits of either case write
abbrev pub bytes_of : ℕ → List ℕ → Option (List ℕ)
bytes_of count text = result_ok (decode_sized text count)

-- 32 digits
abbrev pub trace_id_of : List ℕ → Option ℕ
trace_id_of text = option_map (from_be_bytes w128) (bytes_of 16 text)

-- 16 digits
abbrev pub span_id_of : List ℕ → Option ℕ
span_id_of text = option_map (from_be_bytes w64) (bytes_of 8 text)

-- an id has to be there
abbrev pub trace_id_in : Data → Option ℕ
trace_id_in d =
    option_and_then trace_id_of (option_and_then as_str (member_of (codes "traceId") d))

abbrev pub span_id_in : Data → Option ℕ
span_id_in d = option_and_then span_id_of (option_and_then as_str (member_of (codes "spanId") d))

-- the span id of the parent; a root's is absent or empty, and counts as 0
abbrev pub parent_id_of : List ℕ → Option ℕ
parent_id_of text = if length text == 0 then Some 0 else span_id_of text

abbrev pub parent_id_in : Data → Option ℕ
parent_id_in d = option_and_then parent_id_of (text_in (codes "parentSpanId") d)

-- the trace id of a log record, if there is one: an empty text counts as absent
abbrev pub given_trace_id_of : List ℕ → Option (Option ℕ)
given_trace_id_of text =
    if length text == 0 then Some None else option_map (λ id. Some id) (trace_id_of text)

abbrev pub given_trace_id_in : Data → Option (Option ℕ)
given_trace_id_in d = option_and_then given_trace_id_of (text_in (codes "traceId") d)

-- the span id of a log record, likewise
abbrev pub given_span_id_of : List ℕ → Option (Option ℕ)
given_span_id_of text =
    if length text == 0 then Some None else option_map (λ id. Some id) (span_id_of text)

abbrev pub given_span_id_in : Data → Option (Option ℕ)
given_span_id_in d = option_and_then given_span_id_of (text_in (codes "spanId") d)

-- ---- trace states
-- the text of a header
pub record HasState (d : Data) (pairs : List Pair) : Type 0 where
  pub text : List ℕ
  pub has_text : text_in (codes "traceState") d ≡ Some text
  pub reads : Reads text pairs

-- ---- lists
abbrev pub items : Items → List Data
items no_items = []
items (item d ds) = d ∷ items ds

-- an absent list is empty
abbrev pub list_of : Option Data → Option (List Data)
list_of None = Some []
list_of (Some d) = option_map items (as_array d)

abbrev pub list_in : List ℕ → Data → Option (List Data)
list_in name d = list_of (member_of name d)

-- the list says these, in order
pub record AreIn {A : Type 0} (Says : Data → A → Type 0) (name : List ℕ) (d : Data) (xs : List A)
    : Type 0 where
  pub values : List Data
  pub has_list : list_in name d ≡ Some values
  pub each : AllZip Says values xs

-- there are some, and all have the member
abbrev pub all_have : List ℕ → Option (List Data) → Bool
all_have name None = false
all_have name (Some values) = not (length values == 0) && list_all (has name) values

-- ---- worked rows
upper_case_example : span_id_of (codes "00F067AA0BA902B7") ≡ Some 67667974448284343
unfolding hex_on_literals
upper_case_example = refl

short_example : span_id_of (codes "00f067aa0ba902b") ≡ None
unfolding hex_on_literals
short_example = refl
