-- The tokens of JSON that are written for values, members and items.
use Rattle.std.specs.Prelude.{◌≡◌, List, [], ◌∷◌, ◌++◌, Result, OnOk, ⊤, Some, false}
use Rattle.std.specs.List.{All}
use Rattle.std.specs.declared.alloc.AllocError.{AllocError}
use Rattle.json.specs.Token.{Token, key}
use Rattle.json.specs.Tree.{json_tokens}
use Rattle.json.specs.Written.{Written}
use Rattle.serde_json.specs.Data.{Data}
use Rattle.serde_json.specs.Read.{of_json}
use Rattle.serde_json.specs.Written.{outline, blank, has_float}
use Rattle.otel_otlp.specs.Json.{Member}

-- the tokens of a value
abbrev pub value_tokens : Data → List Token
value_tokens d = json_tokens (outline d)

-- the tokens of members, without the braces around them
abbrev pub member_tokens : List Member → List Token
member_tokens [] = []
member_tokens (m ∷ more) = key m.0 ∷ (value_tokens m.1 ++ member_tokens more)

-- the tokens of items, without the brackets around them
abbrev pub item_tokens : List Data → List Token
item_tokens [] = []
item_tokens (d ∷ more) = value_tokens d ++ item_tokens more

-- the value has no float, and its tokens read back as it
pub record IsReadable (d : Data) : Type 0 where
  pub reads : of_json (outline d) ≡ Some d
  pub whole : blank (outline d) ≡ outline d
  pub exact : has_float d ≡ false

-- each value of the members is readable
abbrev pub AreReadable : List Member → Type 0
AreReadable = All (λ m. IsReadable m.1)

-- these tokens were appended
pub record Appended (old new : Written) (ts : List Token) : Type 0 where
  pub tokens : new.tokens ≡ old.tokens ++ ts
  pub before : new.before ≡ old.before

-- a value, members or items were appended, and they read back
pub record HasValue (old new : Written) (d : Data) : Type 0 where
  pub appended : Appended old new (value_tokens d)
  pub readable : IsReadable d

pub record HasMembers (old new : Written) (ms : List Member) : Type 0 where
  pub appended : Appended old new (member_tokens ms)
  pub readable : AreReadable ms

pub record HasItems (old new : Written) (ds : List Data) : Type 0 where
  pub appended : Appended old new (item_tokens ds)
  pub readable : All IsReadable ds

-- ---- what a function writes, unless out of memory
abbrev pub WritesValue : Result ⊤ AllocError → Written → Written → Data → Type 0
WritesValue result old new d = OnOk result (HasValue old new d)

abbrev pub WritesMembers : Result ⊤ AllocError → Written → Written → List Member → Type 0
WritesMembers result old new ms = OnOk result (HasMembers old new ms)

abbrev pub WritesItems : Result ⊤ AllocError → Written → Written → List Data → Type 0
WritesItems result old new ds = OnOk result (HasItems old new ds)
