-- The names of a map: its keys, and texts by which to look one up.
use Rattle.std.specs.Prelude.{ℕ, Bool, List, map, All, ⊤}
use Rattle.std.specs.Str.{bytes_eq}
use Rattle.otel_context.specs.BaggageView.{Entry}
use Rattle.otel_context.specs.declared.names.Name.{Name}
use Rattle.otel_context.specs.declared.names.Name.TheVariants.{Held, Asked}

-- its bytes
abbrev pub text_of : Name → List ℕ
text_of (Held key) = key
text_of (Asked text) = text.now

-- whether two names have the same text
abbrev pub has_same_text : Name → Name → Bool
has_same_text x y = bytes_eq (text_of x) (text_of y)

-- it is an owned key
abbrev pub IsHeld : Name → Type 0
IsHeld (Held key) = ⊤
IsHeld (Asked text) = ⊥

-- a name beside its value with metadata
abbrev pub Named : Type 0
Named = Name × (List ℕ × List ℕ)

-- the pair with the text in the place of the name
abbrev pub entry_of : Named → Entry
entry_of e = (text_of e.0, e.1)

-- the same for each
abbrev pub entries_of : List Named → List Entry
entries_of es = map entry_of es

-- each name is an owned key
abbrev pub AreHeld : List Named → Type 0
AreHeld es = All (λ e. IsHeld e.0) es
