-- How values are stored, and the value that contracts see: the pairs of a trace state are stored as
-- one text, their header, with the lengths of each key and value. Codes let the value of another
-- model contain these values. No public clause cites this.
use Rattle.std.specs.Prelude.{◌≡◌, ℕ, ◌+◌, ◌<◌, ◌≤◌, Bool, List, [], ◌∷◌, length, map, take, drop}
use Rattle.std.specs.Prelude.{slice_index}
use Rattle.std.specs.Prelude.{Option, Some, None, refl, ◌++◌, if◌then◌else◌}
use Rattle.std.specs.List.{list_any}
use Rattle.std.specs.Coded.{Coded, code_by, coded×, coded_ℕ, coded_bool, coded_list}
use Rattle.std.specs.Str.{IsUtf8}
use Rattle.std.specs.Global.{Global}
use Rattle.std.specs.declared.rc.Rc.{Rc}
use Rattle.otel_ids.specs.declared.pairs.Place.{Place}
use Rattle.otel_ids.specs.TraceState.{Pair, pair_with, has_key, header}
use Rattle.otel_ids.specs.SpanContext.{SpanContextRecord}

-- ---- a trace state

-- the lengths of a pair's key and value
abbrev pub place : Pair → Place
place p = record { key = length p.key; value = length p.value }

-- the pair at the front of a text, whose key and value are as long as the place says
abbrev pub front : Place → List ℕ → Pair
front p text = pair_with (take p.key text) (take p.value (drop (p.key + 1) text))

-- a text cut at its places, each a key, a byte, a value and a byte
abbrev pub cut : List Place → List ℕ → List Pair
cut [] text = []
cut (p ∷ ps) text = front p text ∷ cut ps (drop (p.key + 1 + p.value + 1) text)

-- the text is the header of the pairs that it is cut into, and the places are theirs
pub record IsStored (places : List Place) (text : List ℕ) : Type 0 where
  pub spelled : text ≡ header (cut places text)
  pub placed : places ≡ map place (cut places text)

-- the same for a text that begins within a header, if it is still a text
pub record IsLeft (places : List Place) (text : List ℕ) : Type 0 where
  pub stored : IsStored places text
  pub utf8 : IsUtf8 text

-- the pairs, with the pair after them if none of them has its key
abbrev pub with_new_key : List Pair → Pair → List Pair
with_new_key ps p = if list_any (has_key p.key) ps then ps else ps ++ p ∷ []

-- the pairs of an optional `Rc`; `None` has no pairs
abbrev pub shared : Option (Rc (List Pair) Global) → List Pair
shared None = []
shared (Some rc) = rc.value

-- the text before the next entry
abbrev pub separator : List Place → List ℕ
separator [] = []
separator (p ∷ ps) = 44 ∷ []

-- the text begins with a key, = and a value with the lengths in the place, and has a comma after
-- them if more text follows
pub record IsCut (p : Place) (text : List ℕ) : Type 0 where
  pub within : p.key + 1 + p.value ≤ length text
  pub equals : slice_index text p.key ≡ 61
  pub comma : p.key + 1 + p.value < length text → slice_index text (p.key + 1 + p.value) ≡ 44

-- ---- codes

-- a pair as its key and its value
abbrev pub pair_code : Coded Pair
pair_code = code_by (List ℕ × List ℕ) (coded× (coded_list coded_ℕ) (coded_list coded_ℕ))
    (λ p. (p.key, p.value)) (λ c. pair_with c.0 c.1) (λ _. refl)

-- a list of pairs as the list of these
abbrev pub pairs_code : Coded (List Pair)
pairs_code = coded_list pair_code

-- a span context as its five parts
abbrev pub span_context_code : Coded SpanContextRecord
span_context_code = code_by (ℕ × (ℕ × (ℕ × (Bool × List Pair))))
    (coded× coded_ℕ (coded× coded_ℕ (coded× coded_ℕ (coded× coded_bool pairs_code))))
    (λ s. (s.trace_id, (s.span_id, (s.trace_flags, (s.is_remote, s.trace_state)))))
    (λ c. record {
      trace_id = c.0;
      span_id = c.1.0;
      trace_flags = c.1.1.0;
      is_remote = c.1.1.1.0;
      trace_state = c.1.1.1.1;
    })
    (λ _. refl)
