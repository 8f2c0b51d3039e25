-- A trace state is a list of at most 32 valid pairs, no two with the same key. Each method has its
-- definition here: `from_key_value`, `get`, `insert`, `delete`, `header_delimited`, `header`.
-- `Reading.antt` defines how `from_str` reads a text.
use Rattle.std.specs.Prelude.{◌≡◌, ℕ, ◌-◌, ◌≤◌, Bool, true, false, not, List, [], ◌∷◌, ◌++◌, length}
use Rattle.std.specs.Prelude.{map, filter, take, Option, Some, None, if◌then◌else◌, codes, refl}
use Rattle.std.specs.List.{AllByRecursion, flat_map}
use Rattle.std.specs.Str.{bytes_eq}
use denote.Ref.{Bor}
use Rattle.otel_ids.specs.Limits.{max_pairs}
use Rattle.otel_ids.specs.Text.{is_key, is_value}

-- a key with its value, each a list of bytes [W3C trace-context-2, "list": list-member]
pub record Pair : Type 0 where
  pub key : List ℕ
  pub value : List ℕ

-- the pair with this key and this value
abbrev pub pair_with : List ℕ → List ℕ → Pair
pair_with key value = record { key = key; value = value }

-- the key and the value are valid
abbrev pub IsValid : Pair → Type 0
IsValid p = (is_key p.key ≡ true) × (is_value p.value ≡ true)

-- whether the pair has this key
abbrev pub has_key : List ℕ → Pair → Bool
has_key key p = bytes_eq p.key key

-- none of the pairs has this key
abbrev pub LacksKey : List ℕ → List Pair → Type 0
LacksKey key ps = AllByRecursion (λ p. has_key key p ≡ false) ps

-- no two of the pairs have the same key
abbrev pub DistinctKeys : List Pair → Type 0
DistinctKeys [] = Unit {0}
DistinctKeys (p ∷ ps) = LacksKey p.key ps × DistinctKeys ps

-- at most 32 valid pairs, no two with the same key [W3C trace-context-2, "list": at most 32
-- list-members; "Combined Header Value": only one entry per key]
pub record IsState (pairs : List Pair) : Type 0 where
  pub few : length pairs ≤ max_pairs
  pub valid : AllByRecursion IsValid pairs
  pub distinct : DistinctKeys pairs

-- the value of the pair with the key: 1 for the key a in a=1,b=2 [`TraceState::get`]
abbrev pub get : List Pair → List ℕ → Option (List ℕ)
get [] key = None
get (p ∷ ps) key = if has_key key p then Some p.value else get ps key

-- the pairs without the pair that has the key: a=1,b=2 without a is b=2 [`TraceState::delete`]
abbrev pub delete : List Pair → List ℕ → List Pair
delete ps key = filter (λ p. not (has_key key p)) ps

-- the pair, followed by the first 31 of the others, without the old pair with its key: b=2 inserted
-- into a=1,b=1 gives b=2,a=1 [W3C trace-context-2, "Mutating the tracestate Field";
-- `TraceState::insert`]
abbrev pub insert : List Pair → List ℕ → List ℕ → List Pair
insert ps key value = pair_with key value ∷ take (max_pairs - 1) (delete ps key)

-- the pairs without each pair whose key an earlier one has [W3C trace-context-2, "Combined Header
-- Value"; the Rust crate keeps them]
abbrev pub first_of_each_key : List Pair → List Pair
first_of_each_key [] = []
first_of_each_key (p ∷ ps) = p ∷ delete (first_of_each_key ps) p.key

-- for a=1,b=2,a=3,b=4 these are a=1,b=2
first_of_each_key_example : first_of_each_key (
    pair_with (codes "a") (codes "1") ∷ pair_with (codes "b") (codes "2")
    ∷ pair_with (codes "a") (codes "3") ∷ pair_with (codes "b") (codes "4") ∷ []
    ) ≡ pair_with (codes "a") (codes "1") ∷ pair_with (codes "b") (codes "2") ∷ []
first_of_each_key_example = refl

-- the pair of a key and a value borrowed from a caller
abbrev pub lent_pair : Bor (List ℕ) × Bor (List ℕ) → Pair
lent_pair p = pair_with p.0.now p.1.now

-- the first 32 of the pairs borrowed from a caller
abbrev pub lent_pairs : List (Bor (List ℕ) × Bor (List ℕ)) → List Pair
lent_pairs ps = take max_pairs (map lent_pair ps)

-- the first pair of each key among the first 32 pairs borrowed from a caller
-- [`TraceState::from_key_value`]
abbrev pub from_key_value : List (Bor (List ℕ) × Bor (List ℕ)) → List Pair
from_key_value ps = first_of_each_key (lent_pairs ps)

-- the key, the delimiter and the value
abbrev pub entry : List ℕ → Pair → List ℕ
entry delimiter p = p.key ++ (delimiter ++ p.value)

-- the entries, with the list delimiter between them: a:1;b:2 for a=1,b=2 and the delimiters : and ;
-- [`TraceState::header_delimited`]
abbrev pub header_delimited : List Pair → List ℕ → List ℕ → List ℕ
header_delimited [] between list = []
header_delimited (p ∷ ps) between list =
    entry between p ++ flat_map (λ q. list ++ entry between q) ps

-- the entries with = and commas: a=1,b=2 [W3C trace-context-2, "list"; `TraceState::header`]
abbrev pub header : List Pair → List ℕ
header ps = header_delimited ps (61 ∷ []) (44 ∷ [])
