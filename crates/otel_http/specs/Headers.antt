-- A map of HTTP headers as a carrier: the values that are read, and the texts that are set (RFC
-- 9110, section 5; W3C trace-context-2 and baggage).
use Rattle.std.specs.Prelude.{◌≡◌, ◌⊎◌, ℕ, Bool, ◌||◌, List, [], ◌∷◌, flat_map, codes, refl}
use Rattle.std.specs.Prelude.{Option, Some, None, if◌then◌else◌}
use Rattle.std.specs.List.{filter_map, join_by}
use Rattle.std.specs.Option.{option_map_or}
use Rattle.std.specs.Str.{bytes_eq}
use Rattle.std.specs.FinMap as fin
use Rattle.http_header.specs.FieldValue.{FieldValue, plain_value, is_visible_text, IsVisibleAscii}
use Rattle.http_header.specs.HeaderMap.{Entries, get_all, keys, RefusesInsert}
use Rattle.http_header.specs.FieldName.{IsFieldName}
use Rattle.opentelemetry.specs.Carrier.{Pairs, TextMap, lower}

-- the model of a header map: its names in order, each with its values
abbrev pub Headers : Type 0
Headers = Entries FieldValue

-- the text of a value, if it is readable: each byte is a tab or 20 to 7e in hexadecimal
abbrev pub text : FieldValue → Option (List ℕ)
text value = if is_visible_text value.bytes then Some value.bytes else None

-- the text of the only value; none if there are two values, even if they are equal
abbrev pub only : List FieldValue → Option (List ℕ)
only [] = None
only (v ∷ []) = text v
only (v ∷ w ∷ values) = None

-- the texts of the readable values, joined by commas, if there are any (RFC 9110, section 5.3)
abbrev pub joined : List (List ℕ) → Option (List ℕ)
joined [] = None
joined (t ∷ ts) = Some (join_by (λ piece. piece) (codes ",") (t ∷ ts))

-- the text of the first value
abbrev pub first : List FieldValue → Option (List ℕ)
first [] = None
first (v ∷ values) = text v

-- whether the header is a list, whose values are joined [W3C trace-context-2, "tracestate Header";
-- W3C baggage, "Header Name"]
abbrev pub is_list : List ℕ → Bool
is_list name = bytes_eq name (codes "tracestate") || bytes_eq name (codes "baggage")

-- the text of a name with these values. A repeated `traceparent` is a fault [W3C trace-context-2,
-- "traceparent Header"]
abbrev pub text_of : List ℕ → List FieldValue → Option (List ℕ)
text_of name values =
    if bytes_eq name (codes "traceparent") then only values
    else (if is_list name then joined (filter_map text values) else first values)

-- the text of a name in lower case
abbrev pub text_at : Headers → List ℕ → Option (List ℕ)
text_at headers name = text_of name (get_all headers name)

-- the name with its text, if it has one
abbrev pub pair_at : Headers → List ℕ → Pairs
pair_at headers name = option_map_or (λ text. (name, text) ∷ []) (text_at headers name) []

-- the headers as a carrier: a finite map of texts
abbrev pub texts : Headers → TextMap
texts headers = fin.from_entries (flat_map (pair_at headers) (keys headers))

-- ---- writing

-- headers refuse a key that isn't a field name (RFC 9110, section 5.6.2) or has more than 65,535
-- bytes, a value that isn't readable, and a new name once they are full
abbrev pub Refuses : Headers → List ℕ → List ℕ → Type 0
Refuses headers key value =
    ¬ (IsFieldName key) ⊎ (¬ (IsVisibleAscii value) ⊎ RefusesInsert headers (lower key))

-- ---- examples

-- two values of a list are joined; an unreadable one is left out
lists_are_joined : text_of (codes "tracestate")
    (plain_value (codes "a=1") ∷ plain_value (255 ∷ []) ∷ plain_value (codes "b=2") ∷ [])
    ≡ Some (codes "a=1,b=2")
lists_are_joined = refl

-- two equal values of `traceparent` give none
two_parents_are_none : text_of (codes "traceparent")
    (plain_value (codes "00") ∷ plain_value (codes "00") ∷ []) ≡ None
two_parents_are_none = refl

-- for any other name, the first value is read
the_first_is_read : text_of (codes "x-id") (plain_value (codes "1") ∷ plain_value (codes "2") ∷ [])
    ≡ Some (codes "1")
the_first_is_read = refl
