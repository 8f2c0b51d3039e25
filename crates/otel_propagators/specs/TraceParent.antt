-- The contents of the header `traceparent`: two ids and flags [W3C trace-context-2, "traceparent
-- Header"].
use Rattle.std.specs.Prelude.{◌≡◌, ◌≢◌, ◌↔◌, ℕ, ◌^◌, ◌<◌, ◌==◌, nat_lt, Bool, ◌&&◌, not}
use Rattle.std.specs.Prelude.{List, ◌∷◌, ◌++◌, take, drop, length, Option, Some, None}
use Rattle.std.specs.Prelude.{if◌then◌else◌}
use Rattle.std.specs.Str.{bytes_eq}
use Rattle.otel_ids.specs.Ids.{id_text, number_of}
use Rattle.otel_base.specs.Blanks.{cut_blanks}

-- the ids of a trace and of a span in it, and the flags as a byte
pub record Parent : Type 0 where
  pub trace_id : ℕ
  pub span_id : ℕ
  pub flags : ℕ

-- these ids and flags as a record
abbrev pub parent_with : ℕ → ℕ → ℕ → Parent
parent_with trace_id span_id flags =
    record { trace_id = trace_id; span_id = span_id; flags = flags }

-- ids of 128 and of 64 bits, both nonzero, and flags of 8 bits [W3C trace-context-2, "trace-id",
-- "parent-id" and "trace-flags"]
pub record IsParent (p : Parent) : Type 0 where
  pub trace_fits : p.trace_id < 2 ^ 128
  pub trace_some : p.trace_id ≢ 0
  pub span_fits : p.span_id < 2 ^ 64
  pub span_some : p.span_id ≢ 0
  pub flags_fit : p.flags < 2 ^ 8

-- 00-, 32 lower-case hexadecimal digits of the trace id, -, 16 of the span id, -, 2 of the flags
-- [W3C trace-context-2, "version" and "version-format"]
unfoldable pub parent_text : Parent → List ℕ
parent_text p =
    48 ∷ 48 ∷ 45 ∷ (id_text 32 p.trace_id
    ++ (45 ∷ (id_text 16 p.span_id
    ++ (45 ∷ id_text 2 p.flags))))

-- without the blanks at its ends, the text is exactly the text of the ids and flags. So upper-case
-- digits, another version, an id of only zeros, and anything after the flags can't be read
pub record ReadsParent (text : List ℕ) (p : Parent) : Type 0 where
  pub spelled : cut_blanks text ≡ parent_text p
  pub valid : IsParent p

-- ---- the reading as a function

-- the number of the `count` characters starting at `place`
abbrev pub number_at : ℕ → ℕ → List ℕ → ℕ
number_at place count text = number_of (take count (drop place text))

-- the numbers at the places of the ids and the flags, whatever is written there
abbrev pub numbers_in : List ℕ → Parent
numbers_in text =
    parent_with (number_at 3 32 text) (number_at 36 16 text) (number_at 53 2 text)

-- `IsParent` as a test
abbrev pub is_parent : Parent → Bool
is_parent p =
    nat_lt p.trace_id (2 ^ 128) && not (p.trace_id == 0)
    && (nat_lt p.span_id (2 ^ 64) && not (p.span_id == 0))
    && nat_lt p.flags (2 ^ 8)

-- the numbers of a text without blanks at its ends, if it is exactly their text
abbrev pub parent_in : List ℕ → Option Parent
parent_in text =
    let p = numbers_in text in
    if bytes_eq text (parent_text p) && is_parent p then Some p else None

-- the ids and flags read from a text, if it can be read
unfoldable pub parent_of : List ℕ → Option Parent
parent_of text = parent_in (cut_blanks text)

-- ---- the properties of each text

-- `parent_of` returns exactly the ids and flags read from the text
abbrev pub ParentsAgree : Type 0
ParentsAgree = (text : List ℕ) (p : Parent) → ReadsParent text p ↔ (parent_of text ≡ Some p)

-- the text of ids and flags is read as the same ids and flags
abbrev pub ParentReads : Type 0
ParentReads = (p : Parent) → IsParent p → ReadsParent (parent_text p) p

-- a text is read as at most one trace id, span id and flags
abbrev pub OneParent : Type 0
OneParent = (text : List ℕ) (p q : Parent) → ReadsParent text p → ReadsParent text q → p ≡ q

-- each text of ids and flags has 55 bytes
abbrev pub ParentLength : Type 0
ParentLength = (p : Parent) → length (parent_text p) ≡ 55
