-- The parts read from a piece of a `baggage` header. No public clause cites this file.
use Rattle.std.specs.Prelude.{◌≡◌, ℕ, Bool, ◌<◌, ◌≤◌, ◌==◌, ◌&&◌, nat_le, true, false}
use Rattle.std.specs.Prelude.{List, length, take}
use Rattle.std.specs.Prelude.{Option, Some, None, MatchOption, if◌then◌else◌}
use Rattle.std.specs.List.{list_any, before_first, after_first}
use Rattle.std.specs.Option.{option_map_or}
use Rattle.std.specs.Str.{is_utf8, trim}
use denote.Ref.{Bor}
use Rattle.percent_encoding.specs.Percent.{percent_decode, percent_sign}
use Rattle.otel_ids.specs.Text.{is_equals}
use Rattle.otel_context.specs.Baggage.{insert, max_len_of_all_pairs}
use Rattle.otel_context.specs.BaggageMember.{Member, member_of}
use Rattle.otel_propagators.specs.BaggageReading.{key_and_value, key_in, written_value, metadata_in}

-- the texts before and after the first `=`, or None if there is no `=`
abbrev pub IsSplitAtEquals : List ℕ → Option (Bor (List ℕ) × Bor (List ℕ)) → Type 0
IsSplitAtEquals text result = MatchOption result (list_any is_equals text ≡ false) (λ parts.
    (list_any is_equals text ≡ true)
    × (parts.0.now ≡ before_first is_equals text)
    × (parts.1.now ≡ after_first is_equals text))

-- the key, the value as written and the metadata of a piece, or None if it has no `=` before its
-- first `;`
abbrev pub ArePartsOf : List ℕ → Option (Bor (List ℕ) × Bor (List ℕ) × Bor (List ℕ)) → Type 0
ArePartsOf piece result = MatchOption result (list_any is_equals (key_and_value piece) ≡ false)
    (λ parts.
    (list_any is_equals (key_and_value piece) ≡ true)
    × (parts.0.now ≡ key_in piece)
    × (parts.1.now ≡ written_value piece)
    × (parts.2.now ≡ metadata_in piece))

-- whether the byte is a `%`
abbrev pub is_percent : ℕ → Bool
is_percent b = b == percent_sign

-- the decoded value fills the front of the buffer, which has this length, or None if it is longer
-- than the buffer
abbrev pub IsFilledWith : List ℕ → List ℕ → Option ℕ → Type 0
IsFilledWith value room result =
    MatchOption result (length room < length (percent_decode value))
    (λ len. (len ≤ length room) × (take len room ≡ percent_decode value))

-- the decoded value, if it is UTF-8 and no longer than `longest`
abbrev pub decoded_value : ℕ → List ℕ → Option (List ℕ)
decoded_value longest value =
    let decoded = percent_decode value in
    if is_utf8 decoded && nat_le (length decoded) longest then Some decoded else None

-- the same for a value of at most 1024 bytes as written, and for the longest that a baggage accepts
abbrev pub short_decoded : List ℕ → Option (List ℕ)
short_decoded value = decoded_value 1024 value

abbrev pub longest_decoded : List ℕ → Option (List ℕ)
longest_decoded value = decoded_value max_len_of_all_pairs value

-- the list after an insert of the member with these texts, the metadata without white space at its
-- ends
abbrev pub with_member : List Member → List ℕ → List ℕ → List ℕ → List Member
with_member ms key value metadata = insert ms (member_of key value (trim metadata))

-- the list after an insert of the member with these texts, if there is a value; without one, the
-- list unchanged
abbrev pub with_value : List Member → List ℕ → Option (List ℕ) → List ℕ → List Member
with_value ms key value metadata =
    option_map_or (λ text. insert ms (member_of key text metadata)) value ms
