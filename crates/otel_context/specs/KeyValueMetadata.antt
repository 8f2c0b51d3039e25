-- An attribute as a member of a baggage.
use Rattle.std.specs.Prelude.{[], List, All, IsTrue}
use Rattle.otel_base.specs.declared.key_value.KeyValue.{KeyValue}
use Rattle.otel_base.specs.Value.{display, is_text}
use Rattle.otel_base.specs.View.{value_of}
use Rattle.otel_context.specs.BaggageMember.{Member, member_of}

-- The key, the printed text of the value, and no metadata (the Rust crate's `From<KeyValue>`).
abbrev pub from_key_value : KeyValue → Member
from_key_value p = member_of p.key (display (value_of p.value)) []

-- Each value is a text, so printing it doesn't allocate. Not in the Rust crate.
abbrev pub AreTexts : List KeyValue → Type 0
AreTexts attributes = All (λ attribute. IsTrue (is_text (value_of attribute.value))) attributes
