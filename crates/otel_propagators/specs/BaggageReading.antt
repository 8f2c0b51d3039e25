-- The reading of the header `baggage`, piece by piece. Each piece is a member or nothing.
use Rattle.std.specs.Prelude.{◌≡◌, ℕ, Bool, ◌&&◌, ◌==◌, List, [], ◌∷◌, fold, All, IsUtf8, codes}
use Rattle.std.specs.Prelude.{if◌then◌else◌, refl}
use Rattle.std.specs.List.{list_any, slice_split, before_first, after_first}
use Rattle.std.specs.Char.{encode_utf8}
use Rattle.std.specs.Str.{chars, is_utf8, trim, trim_start, trim_end}
use Rattle.percent_encoding.specs.Percent.{percent_decode}
use Rattle.otel_base.specs.Blanks.{cut_blanks}
use Rattle.otel_ids.specs.Text.{is_comma, is_equals}
use Rattle.otel_context.specs.Baggage.{IsBaggage, insert}
use Rattle.otel_context.specs.BaggageHeader.{header}
use Rattle.otel_context.specs.BaggageLaws.{HasNoComma}
use Rattle.otel_context.specs.BaggageMember.{Member, member_of}

-- whether the byte is a `;`
abbrev pub is_semicolon : ℕ → Bool
is_semicolon b = b == 59

-- the texts between the commas, in order (W3C baggage, `baggage-string`)
abbrev pub pieces : List ℕ → List (List ℕ)
pieces text = slice_split is_comma text

-- the text before the first `;` of a piece: a key, `=` and a value (W3C baggage, `list-member`)
abbrev pub key_and_value : List ℕ → List ℕ
key_and_value piece = before_first is_semicolon piece

-- the key: the text before the first `=`, without the blanks at both ends
abbrev pub key_in : List ℕ → List ℕ
key_in piece = cut_blanks (before_first is_equals (key_and_value piece))

-- the value as written: the text after the first `=`, without the blanks at both ends
abbrev pub written_value : List ℕ → List ℕ
written_value piece = cut_blanks (after_first is_equals (key_and_value piece))

-- the value: each `%` with two hexadecimal digits is decoded to a byte, and any other `%` is kept
-- (RFC 3986, section 2.1)
abbrev pub value_in : List ℕ → List ℕ
value_in piece = percent_decode (written_value piece)

-- the metadata: the text after the first `;`, without the Unicode white space at both ends (W3C
-- baggage, `property`)
abbrev pub metadata_in : List ℕ → List ℕ
metadata_in piece = trim (after_first is_semicolon piece)

-- the member of a piece
abbrev pub member_in : List ℕ → Member
member_in piece = member_of (key_in piece) (value_in piece) (metadata_in piece)

-- Whether a piece is a member: it has a `=` before its first `;`, and its value is UTF-8. `a;b=1`
-- and `a=%ff` aren't.
abbrev pub is_member : List ℕ → Bool
is_member piece = list_any is_equals (key_and_value piece) && is_utf8 (value_in piece)

-- the list after a piece: with its member inserted, if it has one and it is accepted
abbrev pub with_piece : List Member → List ℕ → List Member
with_piece ms piece = if is_member piece then insert ms (member_in piece) else ms

-- the list after these pieces, in order
abbrev pub with_pieces : List Member → List (List ℕ) → List Member
with_pieces ms ps = fold with_piece ms ps

-- The members read from a text: from its pieces in order, starting with the empty list (the Rust
-- crate's extraction by `BaggagePropagator`). Every text can be read; pieces that aren't members or
-- aren't accepted are skipped.
abbrev pub read_baggage : List ℕ → List Member
read_baggage text = with_pieces [] (pieces text)

skipped_example : read_baggage (codes " k = a%20b ;m=1 , x , y=%ff,z=%")
    ≡ member_of (codes "k") (codes "a b") (codes "m=1") ∷ member_of (codes "z") (codes "%") [] ∷ []
unfolding percent_decode is_utf8 chars trim_start trim_end encode_utf8
skipped_example = refl

repeated_example : read_baggage (codes "a=1,b=2,a=3")
    ≡ member_of (codes "a") (codes "3") [] ∷ member_of (codes "b") (codes "2") [] ∷ []
unfolding percent_decode is_utf8 chars trim_start trim_end encode_utf8
repeated_example = refl

-- The header of a baggage is read as that baggage, if no metadata contains a comma (not in the Rust
-- crate).
abbrev pub BaggageReads : Type 0
BaggageReads = (ms : List Member) → IsBaggage ms → All HasNoComma ms → read_baggage (header ms) ≡ ms

-- The condition is needed: the header of `a` with the value `1` and the metadata `x,b=2` is read as
-- `a` with `1` and `x`, followed by `b` with `2`.
comma_example : read_baggage (header (member_of (codes "a") (codes "1") (codes "x,b=2") ∷ []))
    ≡ member_of (codes "a") (codes "1") (codes "x") ∷ member_of (codes "b") (codes "2") [] ∷ []
unfolding percent_decode is_utf8 chars trim_start trim_end encode_utf8
comma_example = refl

-- The result of reading any text is a baggage, within the limits (not in the Rust crate).
abbrev pub ReadsBaggage : Type 0
ReadsBaggage = (text : List ℕ) → IsUtf8 text → IsBaggage (read_baggage text)
