-- The source location of a record, as attributes.
use Rattle.std.specs.Prelude.{◌≡◌, ℕ, pos, List, [], Option, None, IfSome, codes, option_map}
use Rattle.std.specs.Borrow.{Bor}
use Rattle.std.specs.List.{FoldsTo}
use Rattle.log.specs.Kv.{Pair}
use Rattle.otel_base.specs.AnyValue.{Tree, integer, text}
use Rattle.otel_appender_log.specs.declared.attributes.SourceLocation.{SourceLocation}
use Rattle.otel_appender_log.specs.Attributes.{Attribute, TakesPair, with_absent}

-- a text, if it is known
abbrev pub text_of : Option (Bor (List ℕ)) → Option Tree
text_of known = option_map (λ s. text s.now) known

-- a number, if it is known
abbrev pub number_of : Option ℕ → Option Tree
number_of known = option_map (λ n. integer (pos n)) known

-- an unknown location
abbrev pub nowhere : SourceLocation
nowhere = record { file = None; line = None; «module» = None }

-- the attributes, followed by the known parts of the location, except under keys that are present
-- (OpenTelemetry semantic conventions, "Source Code Attributes"; `code.namespace` is the module, as
-- in the Rust crate `opentelemetry-appender-log`)
abbrev pub with_location : List Attribute → SourceLocation → List Attribute
with_location attributes location =
    let with_file = with_absent attributes (codes "code.file.path") (text_of location.file) in
    let with_line = with_absent with_file (codes "code.line.number") (number_of location.line) in
    with_absent with_line (codes "code.namespace") (text_of location.module)

-- the attributes of the pairs, if the pairs are known, followed by the ones of the location
abbrev pub IsLocated : Option (List Pair) → SourceLocation → List Attribute → Type 0
IsLocated pairs location attributes =
    (taken : List Attribute) × IfSome pairs (λ ps. FoldsTo TakesPair [] ps taken)
    × (attributes ≡ with_location taken location)
