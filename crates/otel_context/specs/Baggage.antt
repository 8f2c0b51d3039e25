-- The model of a baggage, a list of members in the order in which their keys were inserted, and the
-- effect of its calls on that list.
use Rattle.std.specs.Prelude.{◌≡◌, ℕ, ◌≤◌, Bool, true, not, ◌&&◌, ◌||◌, nat_le, nat_lt, List, []}
use Rattle.std.specs.Prelude.{◌∷◌, ◌++◌, length, map, filter, find, fold, sum_by, All, Option, None}
use Rattle.std.specs.Prelude.{option_map, Result, OnOk, OnErr, IfOk, if◌then◌else◌, codes, refl}
use Rattle.std.specs.List.{IsDistinct, list_any}
use Rattle.std.specs.Str.{bytes_eq}
use Rattle.otel_context.specs.BaggageText.{is_key}
use Rattle.otel_context.specs.BaggageMember.{Member, member_of, has_key, weight_of, IsValidMember}

-- The maximum number of members (W3C baggage, "Limits"; the Rust crate's `MAX_KEY_VALUE_PAIRS`).
abbrev pub max_key_value_pairs : ℕ
max_key_value_pairs = 64

-- The maximum number of bytes of all its texts together (the same; the Rust crate's
-- `MAX_LEN_OF_ALL_PAIRS`).
abbrev pub max_len_of_all_pairs : ℕ
max_len_of_all_pairs = 8192

-- The number of bytes of all members.
abbrev pub weight : List Member → ℕ
weight ms = sum_by weight_of ms

-- Holds for every baggage: at most 64 valid members with distinct keys, and at most 8192 bytes.
pub record IsBaggage (ms : List Member) : Type 0 where
  pub few : length ms ≤ max_key_value_pairs
  pub distinct : IsDistinct bytes_eq (map (λ m. m.key) ms)
  pub valid : All IsValidMember ms
  pub light : weight ms ≤ max_len_of_all_pairs

-- The member with the key, if any.
abbrev pub member_at : List Member → List ℕ → Option Member
member_at ms key = find (has_key key) ms

-- The value of the key (the Rust crate's `get`).
abbrev pub get : List Member → List ℕ → Option (List ℕ)
get ms key = option_map (λ m. m.value) (member_at ms key)

-- The value and the metadata of the key (the Rust crate's `get_with_metadata`).
abbrev pub get_with_metadata : List Member → List ℕ → Option (List ℕ × List ℕ)
get_with_metadata ms key = option_map (λ m. (m.value, m.metadata)) (member_at ms key)

-- The list with m in place of the member with its key, or with m last if there is none. The order
-- isn't in the Rust crate, whose map has none.
abbrev pub put : List Member → Member → List Member
put ms m =
    if list_any (has_key m.key) ms
    then map (λ other. if has_key m.key other then m else other) ms
    else (ms ++ m ∷ [])

put_example : put (member_of (codes "a") (codes "1") [] ∷ member_of (codes "b") (codes "2") [] ∷ [])
    (member_of (codes "a") (codes "3") (codes "m"))
    ≡ member_of (codes "a") (codes "3") (codes "m") ∷ member_of (codes "b") (codes "2") [] ∷ []
put_example = refl

-- Whether m may be put: the bytes then don't exceed the limit, and a new key is valid and there are
-- fewer than 64 members. A present key isn't checked again (the Rust crate's
-- `insert_with_metadata`).
abbrev pub accepts : List Member → Member → Bool
accepts ms m =
    nat_le (weight (put ms m)) max_len_of_all_pairs
    && (list_any (has_key m.key) ms || (is_key m.key && nat_lt (length ms) max_key_value_pairs))

-- The list after an insert of m: m is put if it is accepted, otherwise nothing changes (the Rust
-- crate's `insert_with_metadata`, and `insert`, whose metadata is empty).
abbrev pub insert : List Member → Member → List Member
insert ms m = if accepts ms m then put ms m else ms

-- The value and metadata that m replaces: none, if its key is new or m isn't accepted.
abbrev pub replaced : List Member → Member → Option (List ℕ × List ℕ)
replaced ms m = if accepts ms m then get_with_metadata ms m.key else None

-- The same, for the value only.
abbrev pub replaced_value : List Member → Member → Option (List ℕ)
replaced_value ms m = if accepts ms m then get ms m.key else None

-- The effect and the result of the two inserts; `given` is the part that m replaces. An error
-- leaves the list unchanged, and is returned only if m is accepted and its key is new.
pub record Inserts {X E : Type 0} (old new : List Member) (m : Member) (given : X)
    (result : Result X E) : Type 0 where
  pub ok : OnOk result (new ≡ insert old m)
  pub returned : IfOk result (λ x. x ≡ given)
  pub err : OnErr result (new ≡ old)
  pub err_accepted : OnErr result (accepts old m ≡ true)
  pub err_new : OnErr result (member_at old m.key ≡ None)

-- The other members, in their order (the Rust crate's `remove`).
abbrev pub remove : List Member → List ℕ → List Member
remove ms key = filter (λ m. not (has_key key m)) ms

-- The list after inserting each of the members in turn into an empty one (the Rust crate's
-- `FromIterator` of `Baggage`).
abbrev pub from_members : List Member → List Member
from_members ms = fold insert [] ms

from_members_example : from_members (member_of (codes "a") (codes "1") []
    ∷ member_of (codes "a b") (codes "2") [] ∷ member_of (codes "c") (codes "3") [] ∷ [])
    ≡ member_of (codes "a") (codes "1") [] ∷ member_of (codes "c") (codes "3") [] ∷ []
from_members_example = refl
