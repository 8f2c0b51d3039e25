-- The wire format of Protocol Buffers, as it is read [Protocol Buffers, "Encoding"].
use Rattle.std.specs.Prelude.{◌≡◌, ℕ, zero, suc, ◌+◌, ◌-◌, ◌*◌, ◌/◌, ◌%◌, ◌^◌, ◌==◌, ◌&&◌, nat_lt}
use Rattle.std.specs.Prelude.{nat_le, List, [], ◌∷◌, length, take, drop, Option, Some, None, refl}
use Rattle.std.specs.Prelude.{option_map, option_and_then, if◌then◌else◌, Bool}
use Rattle.std.specs.Int.{w32, w64, from_le_bytes}

-- ---- fields
-- the content of a field, by its wire type: a varint (type 0), 8 bytes (1), bytes after their
-- length (2), or 4 bytes (5)
pub data Content : Type 0 where
  varint : ℕ → Content
  fixed64 : ℕ → Content
  bytes : List ℕ → Content
  fixed32 : ℕ → Content

-- a number with a content
abbrev pub Field : Type 0
Field = ℕ × Content

-- ---- varints
-- the varint of at most n bytes at the front, and the bytes after it: 7 bits a byte, the lowest
-- first, with the top bit set in each byte but the last
abbrev pub varint_within : ℕ → List ℕ → Option (ℕ × List ℕ)
varint_within zero bs = None
varint_within (suc n) [] = None
varint_within (suc n) (b ∷ bs) =
    if nat_lt b 128 then Some (b, bs)
    else option_map (λ r. (b - 128 + 128 * r.0, r.1)) (varint_within n bs)

-- a varint has at most 10 bytes, and its low 64 bits count
abbrev pub varint_at : List ℕ → Option (ℕ × List ℕ)
varint_at bs = option_map (λ r. (r.0 % 2 ^ 64, r.1)) (varint_within 10 bs)

-- ---- one tag with the value after it
pub data Item : Type 0 where
  field : Field → Item
  group_start : ℕ → Item
  group_end : ℕ → Item

-- the first n bytes, and the bytes after them
abbrev pub split : ℕ → List ℕ → Option (List ℕ × List ℕ)
split n bs = if nat_le n (length bs) then Some (take n bs, drop n bs) else None

-- the bytes after their length
abbrev pub prefixed : List ℕ → Option (List ℕ × List ℕ)
prefixed bs = option_and_then (λ r. split r.0 r.1) (varint_at bs)

-- the item that a content gives
abbrev pub as_field : {A : Type 0} → ℕ → (A → Content) → A × List ℕ → Item × List ℕ
as_field number content r = (field (number, content r.0), r.1)

-- the value of a wire type, and the bytes after it; there are no types 6 and 7
abbrev pub value_at : ℕ → ℕ → List ℕ → Option (Item × List ℕ)
value_at number type bs =
    if type == 0 then option_map (as_field number varint) (varint_at bs)
    else (if type == 1 then
    option_map (as_field number (λ s. fixed64 (from_le_bytes w64 s))) (split 8 bs)
    else (if type == 2 then option_map (as_field number bytes) (prefixed bs)
    else (if type == 3 then Some (group_start number, bs)
    else (if type == 4 then Some (group_end number, bs)
    else (if type == 5 then
    option_map (as_field number (λ s. fixed32 (from_le_bytes w32 s))) (split 4 bs)
    else None)))))

-- whether it is the number of a field
abbrev pub is_number : ℕ → Bool
is_number n = nat_lt 0 n && nat_lt n (2 ^ 29)

-- the value after a tag, which is the number times 8 plus the wire type
abbrev pub after_tag : ℕ × List ℕ → Option (Item × List ℕ)
after_tag r =
    if is_number (r.0 / 8) then value_at (r.0 / 8) (r.0 % 8) r.1 else None

abbrev pub item_at : List ℕ → Option (Item × List ℕ)
item_at bs = option_and_then after_tag (varint_at bs)

-- the bytes as at most n items
abbrev pub items_within : ℕ → List ℕ → Option (List Item)
items_within n [] = Some []
items_within zero (b ∷ bs) = None
items_within (suc n) (b ∷ bs) =
    option_and_then (λ r. option_map (λ more. r.0 ∷ more) (items_within n r.1)) (item_at (b ∷ bs))

-- ---- groups, which are no longer used
-- the fields outside of groups; `opened` has the numbers of the groups that have begun, the
-- innermost first, of which there are at most 100
abbrev pub fields_outside : List ℕ → List Item → Option (List Field)
fields_outside [] [] = Some []
fields_outside (n ∷ opened) [] = None
fields_outside [] (field f ∷ more) = option_map (λ fs. f ∷ fs) (fields_outside [] more)
fields_outside (n ∷ opened) (field f ∷ more) = fields_outside (n ∷ opened) more
fields_outside opened (group_start m ∷ more) =
    if nat_lt (length opened) 100 then fields_outside (m ∷ opened) more else None
fields_outside [] (group_end m ∷ more) = None
fields_outside (n ∷ opened) (group_end m ∷ more) =
    if m == n then fields_outside opened more else None

-- ---- a message
-- the fields of the message that the bytes are, or `None` if they are no message
abbrev pub read : List ℕ → Option (List Field)
read bs = option_and_then (fields_outside []) (items_within (length bs) bs)

-- ---- worked rows
-- the last of two members of a oneof is read after the first
twice_example :
    read (0x18 ∷ 5 ∷ 0x18 ∷ 6 ∷ []) ≡ Some ((3, varint 5) ∷ (3, varint 6) ∷ [])
twice_example = refl

-- a length past the end
past_end_example : read (0x12 ∷ 0x10 ∷ 0xb7 ∷ []) ≡ None
past_end_example = refl

-- number 0
zero_example : read (0 ∷ []) ≡ None
zero_example = refl

-- 11 bytes
long_example :
    read (0x18 ∷ 255 ∷ 255 ∷ 255 ∷ 255 ∷ 255 ∷ 255 ∷ 255 ∷ 255 ∷ 255 ∷ 255 ∷ 1 ∷ []) ≡ None
long_example = refl

-- 10 bytes, with bit 63
low_example :
    read (0x18 ∷ 0x80 ∷ 0x80 ∷ 0x80 ∷ 0x80 ∷ 0x80 ∷ 0x80 ∷ 0x80 ∷ 0x80 ∷ 0x80 ∷ 1 ∷ [])
    ≡ Some ((3, varint (2 ^ 63)) ∷ [])
low_example = refl

-- a group of field 100 is skipped
group_example : read (0xa3 ∷ 6 ∷ 8 ∷ 1 ∷ 0xa4 ∷ 6 ∷ []) ≡ Some []
group_example = refl

-- a group without its end
open_example : read (0xa3 ∷ 6 ∷ []) ≡ None
open_example = refl

-- 8 bytes, and 8 bytes cut off
fixed_example :
    read (0x39 ∷ 1 ∷ 0 ∷ 0 ∷ 0 ∷ 0 ∷ 0 ∷ 0 ∷ 0 ∷ []) ≡ Some ((7, fixed64 1) ∷ [])
fixed_example = refl

cut_off_example : read (0x39 ∷ 1 ∷ []) ≡ None
cut_off_example = refl

-- wire type 7
type_example : read (0x0f ∷ []) ≡ None
type_example = refl
