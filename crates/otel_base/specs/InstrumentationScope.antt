-- Instrumentation scopes, and when two scopes are the same.
use Rattle.std.specs.Prelude.{◌≡◌, ℕ, List, [], ◌++◌, Bool, ◌&&◌, Option, Some, None}
use Rattle.std.specs.List.{list_all, flat_map}
use Rattle.std.specs.Str.{bytes_eq}
use Rattle.std.specs.Option.{option_eq}
use Rattle.std.specs.Cmp.Lexicographic.{pointwise}
use Rattle.std.specs.Hash as fed
use Rattle.std.specs.Hash.{HashWrites}
use Rattle.otel_base.specs.Value as Value
use Rattle.otel_base.specs.KeyValue as KeyValue
use Rattle.otel_base.specs.KeyValue.{Attribute, values_under}
use Rattle.otel_base.specs.KeyOrder.{in_key_order}

-- the parts, with the attributes in the given order (the Rust crate's `InstrumentationScope`)
pub record Scope : Type 0 where
  pub name : List ℕ
  pub version : Option (List ℕ)
  pub schema_url : Option (List ℕ)
  pub attributes : List Attribute

-- ---- the builder
-- a scope that has only a name (the Rust crate's `builder`)
abbrev pub builder : List ℕ → Scope
builder name = record { name = name; version = None; schema_url = None; attributes = [] }

-- the scope with this version instead of the earlier one (the Rust crate's `with_version`)
abbrev pub with_version : List ℕ → Scope → Scope
with_version version s = record s { version = Some version }

-- the scope with this schema URL instead of the earlier one (the Rust crate's `with_schema_url`)
abbrev pub with_schema_url : List ℕ → Scope → Scope
with_schema_url url s = record s { schema_url = Some url }

-- the scope with these attributes instead of the earlier ones (the Rust crate's `with_attributes`)
abbrev pub with_attributes : List Attribute → Scope → Scope
with_attributes ps s = record s { attributes = ps }

-- ---- equality and hash
-- the same texts and, for every key, the same list of values under it (the Rust crate's `PartialEq`
-- of `InstrumentationScope`, with ties in the given order): k=1, j=0, k=2 is the same as
-- j=0, k=1, k=2, but not as j=0, k=2, k=1
pub record IsSameScope (a b : Scope) : Type 0 where
  pub name : a.name ≡ b.name
  pub version : a.version ≡ b.version
  pub schema_url : a.schema_url ≡ b.schema_url
  pub values : (k : List ℕ) → values_under k a.attributes ≡ values_under k b.attributes

-- whether the values under k are the same
abbrev pub agree_under : List Attribute → List Attribute → List ℕ → Bool
agree_under xs ys k = pointwise Value.eq (values_under k xs) (values_under k ys)

-- whether the values are the same under each key that either list has
abbrev pub attributes_eq : List Attribute → List Attribute → Bool
attributes_eq xs ys =
    list_all (λ p. agree_under xs ys p.0) xs && list_all (λ p. agree_under xs ys p.0) ys

-- whether name, version and schema URL are the same
abbrev pub texts_eq : Scope → Scope → Bool
texts_eq a b =
    bytes_eq a.name b.name
    && option_eq bytes_eq a.version b.version
    && option_eq bytes_eq a.schema_url b.schema_url

-- `IsSameScope` as a test
abbrev pub eq : Scope → Scope → Bool
eq a b = texts_eq a b && attributes_eq a.attributes b.attributes

-- the data fed to a hasher: the texts, then the attributes in key order (the Rust crate's `Hash` of
-- `InstrumentationScope`)
abbrev pub hash : Scope → HashWrites
hash s =
    fed.str s.name
    ++ fed.option fed.str s.version
    ++ fed.option fed.str s.schema_url
    ++ flat_map KeyValue.hash (in_key_order s.attributes)
