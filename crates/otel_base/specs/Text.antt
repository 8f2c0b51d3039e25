-- The text of a `Key` or a `StringValue`.
use Rattle.std.specs.Prelude.{ℕ, List, string_bytes}
use Rattle.std.specs.Rc.{rc_str_bytes}
use Rattle.otel_base.specs.declared.text.Form.{Form}
use Rattle.otel_base.specs.declared.text.Form.TheVariants.{Owned, Static, Shared}

-- the UTF-8 bytes, owned, static or shared (the Rust crate's `as_str` of `Key`): the owned and the
-- static "a" are both [97]
abbrev pub text_of : Form → List ℕ
text_of (Owned s) = string_bytes s
text_of (Static s) = s.now
text_of (Shared s) = rc_str_bytes s
