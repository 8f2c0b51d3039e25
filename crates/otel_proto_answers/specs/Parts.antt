-- The parts of a message that are read in turn.
use Rattle.std.specs.Prelude.{◌≡◌, ℕ, ◌<◌, ◌==◌, ◌%◌, ◌^◌, List, ◌∷◌, ◌++◌, length, Option, None}
use Rattle.std.specs.Prelude.{MatchOption, option_map, option_and_then, option_to_list}
use Rattle.std.specs.Prelude.{if◌then◌else◌}
use Rattle.std.specs.Borrow.{Bor}
use Rattle.std.specs.Int.{w32, w64, from_le_bytes}
use Rattle.otel_proto.specs.Wire as wire
use Rattle.otel_proto.specs.Wire.{items_within, fields_outside, read, varint_at, varint_within}
use Rattle.otel_proto.specs.Wire.{split, prefixed}
use Rattle.otel_proto_answers.specs.declared.wire.Content.{Content}
use Rattle.otel_proto_answers.specs.declared.wire.Content.TheVariants as contents
use Rattle.otel_proto_answers.specs.declared.wire.Field.{Field}
use Rattle.otel_proto_answers.specs.declared.wire.Item.{Item}
use Rattle.otel_proto_answers.specs.declared.wire.Item.TheVariants as items

-- ---- what the wire format has
abbrev pub content_of : Content → wire.Content
content_of (contents.Varint v) = wire.varint v
content_of (contents.Fixed64 v) = wire.fixed64 v
content_of (contents.Bytes s) = wire.bytes s.now
content_of (contents.Fixed32 v) = wire.fixed32 v

abbrev pub field_of : Field → wire.Field
field_of f = (f.number, content_of f.content)

abbrev pub item_of : Item → wire.Item
item_of (items.Field f) = wire.field (field_of f)
item_of (items.GroupStart n) = wire.group_start n
item_of (items.GroupEnd n) = wire.group_end n

-- ---- at the front of bytes
-- a call returns this value, seen by `view`, and the bytes after it
abbrev pub Reads : {X Y : Type 0} → (X → Y) → Option (X × Bor (List ℕ)) → Option (Y × List ℕ)
    → Type 0
Reads view result found = option_map (λ r. (view r.0, r.1.now)) result ≡ found

-- the low 64 bits of a varint of at most n bytes
abbrev pub varint_in : ℕ → List ℕ → Option (ℕ × List ℕ)
varint_in n bs = option_map (λ r. (r.0 % 2 ^ 64, r.1)) (varint_within n bs)

-- 8 and 4 bytes, the lowest first
abbrev pub fixed64_at : List ℕ → Option (ℕ × List ℕ)
fixed64_at bs = option_map (λ r. (from_le_bytes w64 r.0, r.1)) (split 8 bs)

abbrev pub fixed32_at : List ℕ → Option (ℕ × List ℕ)
fixed32_at bs = option_map (λ r. (from_le_bytes w32 r.0, r.1)) (split 4 bs)

-- a content of the wire type
abbrev pub content_at : ℕ → List ℕ → Option (wire.Content × List ℕ)
content_at kind bs =
    if kind == 0 then option_map (λ r. (wire.varint r.0, r.1)) (varint_at bs)
    else (if kind == 1 then option_map (λ r. (wire.fixed64 r.0, r.1)) (fixed64_at bs)
    else (if kind == 2 then option_map (λ r. (wire.bytes r.0, r.1)) (prefixed bs)
    else (if kind == 5 then option_map (λ r. (wire.fixed32 r.0, r.1)) (fixed32_at bs)
    else None)))

-- ---- groups
-- the fields outside of groups, of which those with these numbers have begun before the bytes
abbrev pub read_within : List ℕ → List ℕ → Option (List wire.Field)
read_within opened bs = option_and_then (fields_outside opened) (items_within (length bs) bs)

-- the bytes after the end of a group of the number, which has begun within as many others
abbrev pub IsAfterGroup : ℕ → ℕ → List ℕ → Option (Bor (List ℕ)) → Type 0
IsAfterGroup number depth bs rest =
    (opened : List ℕ) → length opened ≡ depth
    → read_within (number ∷ opened) bs ≡ option_and_then (λ r. read_within opened r.now) rest

-- the first field, or none if it is a group, and the bytes after it
abbrev pub IsFirst : List ℕ → Option (Option Field × Bor (List ℕ)) → Type 0
IsFirst bs first = MatchOption first (read bs ≡ None) (λ r.
    (read bs ≡ option_map (λ fs. option_to_list (option_map field_of r.0) ++ fs) (read r.1.now))
    × (length r.1.now < length bs))
