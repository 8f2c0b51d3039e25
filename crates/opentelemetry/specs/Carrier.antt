-- The model of a carrier: a finite map from texts to texts, each the list of its bytes.
use Rattle.std.specs.Prelude.{◌≡◌, ℕ, List, [], ◌∷◌, ◌++◌, Option, None, Some, if◌then◌else◌}
use Rattle.std.specs.Prelude.{string_bytes, map, is_some}
use Rattle.std.specs.Borrow.{Bor}
use Rattle.std.specs.HashMap.{HashMap}
use Rattle.std.specs.Ordering.{nat_cmp}
use Rattle.std.specs.Cmp.Lexicographic.{slice_cmp}
use Rattle.std.specs.List.{list_any}
use Rattle.std.specs.List.Sorted.{IsStrictlySortedBy}
use Rattle.std.specs.Option.{option_map, option_or}
use Rattle.std.specs.Str.{bytes_eq, str_to_ascii_lowercase}
use Rattle.std.specs.FinMap as fin
use Rattle.std.specs.declared.string.String.{String}
use Rattle.std.specs.declared.vec.Vec.{Vec}

-- keys with their values, in the order in which they are set
abbrev pub Pairs : Type 0
Pairs = List (List ℕ × List ℕ)

-- a finite map from texts to texts, in the order of the bytes of its keys
abbrev pub TextMap : Type 0
TextMap = fin.FinMap (slice_cmp nat_cmp) (List ℕ)

-- The model of a carrier to which texts are written: its texts, and the number of its refusals. The
-- number exists only in contracts. Not in the Rust crate.
pub record CarrierState : Type 0 where
  pub texts : TextMap
  pub refusals : ℕ

-- the value of a key
abbrev pub at : TextMap → List ℕ → Option (List ℕ)
at m k = fin.get m k

-- The text with its ASCII letters in lower case (RFC 9110, section 5.1: names of fields are
-- case-insensitive). Other letters are unchanged: `Foo` gives `foo`, and U+00C9 stays U+00C9.
abbrev pub lower : List ℕ → List ℕ
lower k = str_to_ascii_lowercase k

-- The value of the last pair whose key is `k` in lower case.
-- Of the pairs (`Foo`, 1), (`foo`, 2), (`bar`, 3) it is 2 at `foo`, and there is none at `Foo`.
abbrev pub last_value : Pairs → List ℕ → Option (List ℕ)
last_value [] k = None
last_value (p ∷ ps) k =
    option_or (last_value ps k) (if bytes_eq (lower p.0) k then Some p.1 else None)

-- `new` is `old` with the pairs set: the lower case of a pair's key has the value of the last pair
-- with that key, and every other key is unchanged (the Rust crate's `Injector`, for ASCII letters).
pub record Sets (old : TextMap) (pairs : Pairs) (new : TextMap) : Type 0 where
  pub at_key : (k : List ℕ) → at new k ≡ option_or (last_value pairs k) (at old k)

-- `new` is `old` with this value set for the key
abbrev pub SetsValue : TextMap → List ℕ → List ℕ → TextMap → Type 0
SetsValue old key value new = Sets old ((key, value) ∷ []) new

-- `new` is `old` with a prefix of the pairs set. Not in the Rust crate.
pub record SetsBeginning (old : TextMap) (pairs : Pairs) (new : TextMap) : Type 0 where
  pub done : Pairs
  pub left : Pairs
  pub split : pairs ≡ done ++ left
  pub sets : Sets old done new

-- the value that an extractor has for a key, looked up in lower case (the Rust crate's `Extractor`,
-- for ASCII letters). With the texts `foo` = 1 and `Bar` = 2, it is 1 for `Foo` and none for `Bar`.
abbrev pub get : TextMap → List ℕ → Option (List ℕ)
get m k = at m (lower k)

-- all values that an extractor has for a key: one or none (the Rust crate's `Extractor`)
abbrev pub get_all : TextMap → List ℕ → Option (List (List ℕ))
get_all m k = option_map (λ v. v ∷ []) (get m k)

-- the texts behind a list of references
abbrev pub borrowed_texts : {A : Type 0} → Vec (Bor (List ℕ)) A → List (List ℕ)
borrowed_texts v = map (λ t. t.now) v.items

-- the texts are the keys of the map, as they are stored, in ascending order of their bytes
pub record AreKeys (m : TextMap) (keys : List (List ℕ)) : Type 0 where
  pub rising : IsStrictlySortedBy (slice_cmp nat_cmp) keys
  pub each : (k : List ℕ) → is_some (at m k) ≡ list_any (bytes_eq k) keys

-- one entry of a map of strings, as texts
abbrev pub text_pair : {A : Type 0} → String A × String A → List ℕ × List ℕ
text_pair p = (string_bytes p.0, string_bytes p.1)

-- the model of a map of strings
abbrev pub text_map : {A : Type 0} → List (String A × String A) → TextMap
text_map es = fin.from_entries (map text_pair es)

-- two maps of strings have the same texts
abbrev pub HasSameTexts : {A S : Type 0} → HashMap (String A) (String A) S
    → HashMap (String A) (String A) S → Type 0
HasSameTexts old new = text_map new.entries ≡ text_map old.entries

-- a map of strings as a carrier, which never refuses a text
abbrev pub map_state : {A : Type 0} → List (String A × String A) → CarrierState
map_state es = record { texts = text_map es; refusals = 0 }
