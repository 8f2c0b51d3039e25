-- The trace whose id begins with digits.
use Rattle.std.specs.Prelude.{ℕ, ◌==◌, Bool, false, List, [], ◌∷◌, ◌++◌, length, nat_eq, nat_lt}
use Rattle.std.specs.Prelude.{if◌then◌else◌}
use Rattle.std.specs.Int.{w128, to_be_bytes}
use Rattle.std.specs.List.{list_any, starts_with}
use Rattle.hex.specs.Hex.{encode_lower}

-- the 32 digits of an id, in lower case
abbrev pub digits_of : ℕ → List ℕ
digits_of id = encode_lower (to_be_bytes w128 id)

-- whether the id begins with the digits
abbrev pub begins_with : List ℕ → ℕ → Bool
begins_with digits id = starts_with nat_eq (digits_of id) digits

-- whether the id is one of these
abbrev pub is_known : ℕ → List ℕ → Bool
is_known id ids = list_any (λ known. known == id) ids

-- the different ids that were read, the first four of them
abbrev pub with_id : ℕ → List ℕ → List ℕ
with_id id ids = if is_known id ids then ids
    else (if nat_lt (length ids) 4 then ids ++ id ∷ [] else ids)

-- whether the id is the first that was read
abbrev pub is_first : ℕ → List ℕ → Bool
is_first id [] = false
is_first id (first ∷ others) = first == id
