-- A member of a baggage: a key with its value and its metadata.
use Rattle.std.specs.Prelude.{◌≡◌, ℕ, ◌+◌, Bool, true, List, length, refl}
use Rattle.std.specs.Coded.{Coded, code_by, coded×, coded_ℕ, coded_list}
use Rattle.std.specs.Str.{bytes_eq, is_utf8}
use Rattle.otel_context.specs.BaggageText.{is_key, IsTrimmed}

-- A key, its value and its metadata, three texts (W3C baggage, `list-member`; the Rust crate's
-- `KeyValueMetadata`).
pub record Member : Type 0 where
  pub key : List ℕ
  pub value : List ℕ
  pub metadata : List ℕ

-- The member with these three texts.
abbrev pub member_of : List ℕ → List ℕ → List ℕ → Member
member_of k v m = record { key = k; value = v; metadata = m }

-- Whether the member has this key.
abbrev pub has_key : List ℕ → Member → Bool
has_key k m = bytes_eq k m.key

-- The number of bytes of its three texts (the Rust crate's `key_value_metadata_bytes_size`).
abbrev pub weight_of : Member → ℕ
weight_of m = length m.key + (length m.value + length m.metadata)

-- The key is valid, the value is UTF-8, as every text in Rust is, and the metadata has no white
-- space at its ends.
abbrev pub IsValidMember : Member → Type 0
IsValidMember m =
    (is_key m.key ≡ true) × (is_utf8 m.value ≡ true) × IsTrimmed m.metadata

-- A code of members, used in the values of models. Not in the Rust crate.
abbrev pub member_code : Coded Member
member_code =
    code_by (List ℕ × (List ℕ × List ℕ))
    (coded× (coded_list coded_ℕ) (coded× (coded_list coded_ℕ) (coded_list coded_ℕ)))
    (λ m. (m.key, (m.value, m.metadata))) (λ p. member_of p.0 p.1.0 p.1.1) (λ _. refl)
