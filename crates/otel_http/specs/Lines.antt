-- Lines `name: value`, each a header (RFC 9110, section 5).
use Rattle.std.specs.Prelude.{◌≡◌, ◌<◌, ℕ, Bool, ◌==◌, List, [], ◌∷◌, ◌++◌, length, codes, refl}
use Rattle.std.specs.List.{before_first, after_first, flat_map, position_or_len}
use Rattle.http_header.specs.FieldName.{IsFieldName}
use Rattle.http_header.specs.FieldValue.{FieldValue, IsFieldValue, plain_value}
use Rattle.http_header.specs.HeaderMap.{append, pairs}
use Rattle.http_header.specs.Token.{lowercase}
use Rattle.otel_base.specs.Blanks.{cut_blanks}
use Rattle.otel_http.specs.Headers.{Headers}

abbrev pub is_colon : ℕ → Bool
is_colon b = b == 58

abbrev pub HasColon : List ℕ → Type 0
HasColon line = position_or_len is_colon line < length line

-- the text before the first colon
abbrev pub name_part : List ℕ → List ℕ
name_part line = before_first is_colon line

-- the text after the first colon, without the blanks at its ends
abbrev pub value_part : List ℕ → List ℕ
value_part line = cut_blanks (after_first is_colon line)

-- a line is a header if its first colon is after a name and before a value of a header
abbrev pub IsHeaderLine : List ℕ → Type 0
IsHeaderLine line = HasColon line × IsFieldName (name_part line) × IsFieldValue (value_part line)

-- the name of the line's header, in lower case
abbrev pub line_name : List ℕ → List ℕ
line_name line = lowercase (name_part line)

-- the headers, and the line's header after those of its name
abbrev pub with_line : List ℕ → Headers → Headers
with_line line headers = append headers (line_name line) (plain_value (value_part line))

-- ---- writing

-- a header as a line
abbrev pub header_line : List ℕ × FieldValue → List ℕ
header_line header = header.0 ++ (codes ": " ++ (header.1.bytes ++ codes "\n"))

-- each header as a line, in order
abbrev pub header_lines : Headers → List ℕ
header_lines headers = flat_map header_line (pairs headers)

-- ---- examples

the_first_colon_counts : name_part (codes "Host: a:80") ≡ codes "Host"
the_first_colon_counts = refl

blanks_are_cut : value_part (codes "baggage:  a=1 ") ≡ codes "a=1"
blanks_are_cut = refl

two_values_are_two_lines : header_lines
    ((codes "baggage", plain_value (codes "a=1") ∷ plain_value (codes "b=2") ∷ []) ∷ [])
    ≡ codes "baggage: a=1\nbaggage: b=2\n"
two_values_are_two_lines = refl
