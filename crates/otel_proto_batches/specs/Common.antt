-- The messages that traces and logs share: resources, instrumentation scopes
-- [opentelemetry/proto/common/v1/common.proto, resource/v1/resource.proto].
use Rattle.std.specs.Prelude.{◌≡◌, ℕ, List, [], ◌∷◌, ◌++◌, Option, Some, None, codes, refl}
use Rattle.std.specs.Int.{w64, w128, to_be_bytes}
use Rattle.otel_base.specs.InstrumentationScope.{Scope}
use Rattle.otel_base.specs.KeyValue.{Attribute}
use Rattle.otel_sdk_base.specs.Attributes as attributes
use Rattle.otel_sdk_base.specs.Resource.{Parts}
use Rattle.otel_proto.specs.Common as common
use Rattle.otel_proto.specs.Wire.{Field, bytes}
use Rattle.otel_proto.specs.Written.{bytes_unless_empty, bytes_of, varint_bytes}

-- ---- one field
-- left out if there is none, or if it is empty
abbrev pub text_if_given : ℕ → Option (List ℕ) → List Field
text_if_given number None = []
text_if_given number (Some text) = bytes_unless_empty number text

-- an id is bytes, the highest first: 16 of a trace
abbrev pub trace_id : ℕ → ℕ → Field
trace_id number id = (number, bytes (to_be_bytes w128 id))

-- and 8 of a span
abbrev pub span_id : ℕ → ℕ → Field
span_id number id = (number, bytes (to_be_bytes w64 id))

-- ---- Resource
abbrev pub resource : Parts → List Field
resource r = common.attributes 1 r.attributes

-- ---- InstrumentationScope
-- each key once, with its last value at its first place
abbrev pub unique : List Attribute → List Attribute
unique xs = attributes.put_all [] xs

-- a scope with these attributes
abbrev pub scope_with : Scope → List Attribute → List Field
scope_with s xs =
    bytes_unless_empty 1 s.name ++ (text_if_given 2 s.version ++ common.attributes 3 xs)

abbrev pub scope : Scope → List Field
scope s = scope_with s (unique s.attributes)

-- ---- worked rows
lib_example :
    bytes_of (scope (record {
      name = codes "lib";
      version = Some (codes "1");
      schema_url = None;
      attributes = [];
    }))
    ≡ 0x0a ∷ 3 ∷ 0x6c ∷ 0x69 ∷ 0x62 ∷ 0x12 ∷ 1 ∷ 0x31 ∷ []
unfolding varint_bytes bytes_of
lib_example = refl
