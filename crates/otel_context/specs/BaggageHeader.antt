-- The header of a baggage.
use Rattle.std.specs.Prelude.{◌≡◌, ℕ, List, [], ◌∷◌, ◌++◌, map, codes, refl}
use Rattle.std.specs.List.{join_with_byte}
use Rattle.otel_context.specs.BaggageText.{escaped}
use Rattle.otel_context.specs.BaggageMember.{Member, member_of}

-- `;` (59) and the metadata as it is, unless it is empty.
abbrev pub metadata_text : List ℕ → List ℕ
metadata_text [] = []
metadata_text (b ∷ bs) = 59 ∷ b ∷ bs

-- The key, `=` (61), the escaped value, and the metadata (W3C baggage, `list-member`).
abbrev pub member_text : Member → List ℕ
member_text m = m.key ++ (61 ∷ escaped m.value ++ metadata_text m.metadata)

-- The members in order, joined by `,` (44) (W3C baggage, `baggage-string`; the Rust crate's
-- `Display` of `Baggage`).
abbrev pub header : List Member → List ℕ
header ms = join_with_byte 44 (map member_text ms)

header_example : header (member_of (codes "k") (codes "a b") (codes "m=1")
    ∷ member_of (codes "l") (codes "2") [] ∷ []) ≡ codes "k=a%20b;m=1,l=2"
header_example = refl

-- The maximum number of bytes of a header, 3 * 8192 - 1. Not in the Rust crate.
abbrev pub max_len_of_header : ℕ
max_len_of_header = 24575
