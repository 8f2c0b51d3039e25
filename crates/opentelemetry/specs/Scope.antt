-- The scope of a tracer or a logger that is requested by its name only.
use Rattle.std.specs.Prelude.{ℕ, List, [], None}
use Rattle.otel_base.specs.InstrumentationScope.{Scope}

-- the scope named `name`, without version, schema URL and attributes [the Rust crate's
-- `TracerProvider::tracer` and `LoggerProvider::logger`]
abbrev pub scope_of_name : List ℕ → Scope
scope_of_name name = record { name = name; version = None; schema_url = None; attributes = [] }
