-- The parts of a resource, and the effects of its calls.
use Rattle.std.specs.Prelude.{◌≡◌, ℕ, List, [], ◌∷◌, Option, Some, None, option_map}
use Rattle.std.specs.Prelude.{Bool, true, false, not, find, codes, refl, if◌then◌else◌}
use Rattle.std.specs.Option.{option_map_or}
use Rattle.std.specs.Str.{bytes_eq}
use Rattle.otel_base.specs.Value.{AttributeValue, text}
use Rattle.otel_base.specs.KeyValue.{Attribute, has_key}
use Rattle.otel_sdk_base.specs.Attributes.{put, put_all}

-- the attributes in order, and the URL of the schema that they obey (the Rust crate's `Resource`)
pub record Parts : Type 0 where
  pub attributes : List Attribute
  pub schema_url : Option (List ℕ)

-- a resource without attributes (the Rust crate's `builder_empty`)
abbrev pub empty : Parts
empty = record { attributes = []; schema_url = None }

-- an attribute whose value is a text
abbrev pub named : List ℕ → List ℕ → Attribute
named key value = (key, text value)

-- the attributes that each resource has by default (OpenTelemetry specification, "Telemetry SDK";
-- the service's name is own)
abbrev pub defaults : List Attribute
defaults =
    named (codes "service.name") (codes "unknown_service")
    ∷ named (codes "telemetry.sdk.language") (codes "rattle")
    ∷ named (codes "telemetry.sdk.name") (codes "otel_sdk")
    ∷ named (codes "telemetry.sdk.version") (codes "0.1.0")
    ∷ []

-- a resource of the defaults (the Rust crate's `builder`)
abbrev pub with_defaults : Parts
with_defaults = record { attributes = defaults; schema_url = None }

-- the resource with this attribute set (the Rust crate's `with_attribute`)
abbrev pub with_attribute : Attribute → Parts → Parts
with_attribute a r = record r { attributes = put r.attributes a }

-- the resource with each of these set in turn (the Rust crate's `with_attributes`)
abbrev pub with_attributes : List Attribute → Parts → Parts
with_attributes given r = record r { attributes = put_all r.attributes given }

-- the resource of that service (the Rust crate's `with_service_name`)
abbrev pub with_service_name : List ℕ → Parts → Parts
with_service_name name r = with_attribute (named (codes "service.name") name) r

-- the value of the key, if there is one (the Rust crate's `get`)
abbrev pub get : List ℕ → Parts → Option AttributeValue
get key r = option_map (λ p. p.1) (find (has_key key) r.attributes)

-- whether the value names a service: it isn't the default one
abbrev pub is_known : AttributeValue → Bool
is_known (text name) = not (bytes_eq name (codes "unknown_service"))
is_known _ = true

-- whether the resource names a service (own)
abbrev pub names_service : Parts → Bool
names_service r = option_map_or is_known (get (codes "service.name") r) false

-- the resource of that service, unless it names one (own)
abbrev pub for_service : List ℕ → Parts → Parts
for_service name r = if names_service r then r else with_service_name name r

-- the resource with this schema URL in place of the one before (the Rust crate's
-- `with_schema_url`)
abbrev pub with_schema_url : List ℕ → Parts → Parts
with_schema_url url r = record r { schema_url = Some url }

-- the URL, unless it is empty
abbrev pub given : Option (List ℕ) → Option (List ℕ)
given None = None
given (Some []) = None
given (Some (b ∷ bs)) = Some (b ∷ bs)

-- the URL if only one is given or both are equal, or none if they differ (OpenTelemetry
-- specification, "Merge"; the Rust crate's `merge`)
abbrev pub merged_url : Option (List ℕ) → Option (List ℕ) → Option (List ℕ)
merged_url None new = new
merged_url (Some old) None = Some old
merged_url (Some old) (Some new) = if bytes_eq old new then Some old else None

-- the old resource with the attributes of the updating one set in turn (OpenTelemetry
-- specification, "Merge"; the Rust crate's `merge`)
abbrev pub merge : Parts → Parts → Parts
merge old updating = record {
  attributes = put_all old.attributes updating.attributes;
  schema_url = merged_url (given old.schema_url) (given updating.schema_url);
}

-- ---- worked rows
merge_example :
    merge (record {
      attributes = named (codes "a") (codes "1") ∷ named (codes "b") (codes "2") ∷ [];
      schema_url = None;
    })
    (record {
      attributes = named (codes "b") (codes "3") ∷ named (codes "c") (codes "4") ∷ [];
      schema_url = Some (codes "u");
    })
    ≡ record {
      attributes =
          named (codes "a") (codes "1") ∷ named (codes "b") (codes "3")
          ∷ named (codes "c") (codes "4") ∷ [];
      schema_url = Some (codes "u");
    }
merge_example = refl

url_example : merged_url (given (Some (codes "u"))) (given (Some (codes "v"))) ≡ None
url_example = refl

service_example : (with_service_name (codes "cart") with_defaults).attributes
    ≡ named (codes "service.name") (codes "cart")
    ∷ named (codes "telemetry.sdk.language") (codes "rattle")
    ∷ named (codes "telemetry.sdk.name") (codes "otel_sdk")
    ∷ named (codes "telemetry.sdk.version") (codes "0.1.0") ∷ []
service_example = refl

unnamed_example : for_service (codes "cart") with_defaults
    ≡ with_service_name (codes "cart") with_defaults
unnamed_example = refl

named_example : for_service (codes "cart") (with_service_name (codes "shop") with_defaults)
    ≡ with_service_name (codes "shop") with_defaults
named_example = refl
