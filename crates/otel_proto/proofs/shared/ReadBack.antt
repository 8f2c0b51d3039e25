-- The bytes of fields, read.
use Rattle.std.proofs.Common.{◌≡◌, ℕ, zero, suc, ◌+◌, ◌-◌, ◌*◌, ◌/◌, ◌%◌, ◌^◌, ◌<◌, ◌≤◌, List, [], ◌∷◌, ◌++◌, length, map, take, drop, Option, Some, None, Bool, true, false, inl, inr, if◌then◌else◌, refl, sym, ap, ◌∙◌, subst, append_assoc, length-append, arith}
use Rattle.std.specs.Prelude.{nat_lt, nat_le, option_map, option_and_then, ◌&&◌}
use Rattle.std.specs.Int.{w32, w64, to_le_bytes, from_le_bytes}
use Rattle.std.specs.List.{All, flat_map}
use Rattle.std.proofs.Math.Nat.{pow-suc, mod-eq_of_lt}
use Rattle.std.proofs.Math.Seq.{take-append_seam, drop-append_seam}
use Rattle.std.proofs.lemmas.Bool.{cases_lt}
use Rattle.std.proofs.lemmas.Bool.Decides.{nat_tests}
use Rattle.std.proofs.lemmas.List.Concat.{flat_map-cons}
use Rattle.std.proofs.lemmas.Nat.{from_le_bytes-to_le_bytes_4, from_le_bytes-to_le_bytes_8}
use Rattle.otel_proto.specs.Laws.{IsField, FitsType, WrittenFieldsReadBack, EqualBytesSaySame}
use Rattle.otel_proto.specs.Wire.{Content, Field, varint, fixed64, bytes, fixed32, Item, field, varint_within, varint_at, split, prefixed, as_field, value_at, is_number, after_tag, item_at, items_within, fields_outside, read}
use Rattle.otel_proto.specs.Written.{varint_bytes_within, varint_bytes, tag, head, content_bytes, field_bytes, bytes_of}

below : (a b : ℕ) → a < b → nat_lt a b ≡ true
below a b h = grind (arith, nat_tests)

not_below : (a b : ℕ) → b ≤ a → nat_lt a b ≡ false
not_below a b h = grind (arith, nat_tests)

at_most : (a b : ℕ) → a ≤ b → nat_le a b ≡ true
at_most a b h = grind (arith, nat_tests)

-- ---- varints
Numbers : Type 0
Numbers = Option (ℕ × List ℕ)

within_read : (n v : ℕ) (rest : List ℕ) → v < 128 ^ suc n → varint_within (suc n) (varint_bytes_within n v ++ rest) ≡ Some (v, rest)
within_read zero v rest h =
    let small : v < 128 = grind arith in
    ap (λ (b : Bool). if b then Some (v, rest) else option_map (λ (r : ℕ × List ℕ). (v - 128 + 128 * r.0, r.1)) (varint_within zero rest)) (below v 128 small)
within_read (suc n) v rest h =
    let step : 128 ^ suc (suc n) ≡ 128 ^ suc n * 128 = pow-suc 128 (suc n) in
    let less : v / 128 < 128 ^ suc n = omega arith in
    let more = varint_bytes_within n (v / 128) in
    let low = v % 128 + 128 in
    let in_one : List ℕ → Option (ℕ × List ℕ) = varint_within (suc (suc n)) in
    elim (cases_lt v 128) [
      | inl small ↦
          ap (λ (b : Bool). varint_within (suc (suc n)) ((if b then v ∷ [] else low ∷ more) ++ rest)) (below v 128 small)
          ∙ ap (λ (b : Bool). if b then Some (v, rest) else option_map (λ (r : ℕ × List ℕ). (v - 128 + 128 * r.0, r.1)) (varint_within (suc n) rest)) (below v 128 small)
      | inr large ↦
          let high : 128 ≤ low = omega arith in
          let whole : low - 128 + 128 * (v / 128) ≡ v = omega arith in
          ap (λ (b : Bool). varint_within (suc (suc n)) ((if b then v ∷ [] else low ∷ more) ++ rest)) (not_below v 128 large)
          ∙ ap (λ (b : Bool). if b then Some (low, more ++ rest) else option_map (λ (r : ℕ × List ℕ). (low - 128 + 128 * r.0, r.1)) (varint_within (suc n) (more ++ rest))) (not_below low 128 high)
          ∙ ap (option_map (λ (r : ℕ × List ℕ). (low - 128 + 128 * r.0, r.1))) (within_read n (v / 128) rest less)
          ∙ ap (λ (k : ℕ). Some (k, rest)) whole
    ]

varint_read : (v : ℕ) (rest : List ℕ) → v < 2 ^ 64 → varint_at (varint_bytes v ++ rest) ≡ Some (v, rest)
unfolding varint_bytes
varint_read v rest h =
    let fits : v < 128 ^ 10 = omega arith in
    ap (option_map (λ (r : ℕ × List ℕ). (r.0 % 2 ^ 64, r.1))) (within_read 9 v rest fits)
    ∙ ap (λ (k : ℕ). Some (k, rest)) (mod-eq_of_lt h)

-- ---- one field
split_read : (n : ℕ) (s rest : List ℕ) → n ≡ length s → split n (s ++ rest) ≡ Some (s, rest)
split_read n s rest e =
    let long : n ≤ length (s ++ rest) = grind (arith, length-append s rest) in
    ap (λ (b : Bool). if b then Some (take n (s ++ rest), drop n (s ++ rest)) else None) (at_most n (length (s ++ rest)) long)
    ∙ ap (λ (k : ℕ). Some (take k (s ++ rest), drop k (s ++ rest))) e
    ∙ (λ i. Some (take-append_seam s rest i, drop-append_seam s rest i))

impossible : (b : Bool) → b && false ≡ true → ⊥
impossible true h = cc
impossible false h = cc

in_range : (n : ℕ) → is_number n ≡ true → n < 2 ^ 29
in_range n h = elim (cases_lt n (2 ^ 29)) [
  | inl small ↦ small
  | inr large ↦ let no : nat_lt 0 n && false ≡ true = ap (λ (b : Bool). nat_lt 0 n && b) (sym (not_below n (2 ^ 29) large)) ∙ h in absurd (impossible (nat_lt 0 n) no)
]

tag_read : (number type : ℕ) (rest : List ℕ) → is_number number ≡ true → type < 8 → item_at (tag number type ++ rest) ≡ value_at number type rest
tag_read number type rest known small =
    let range : number < 2 ^ 29 = in_range number known in
    let fits : number * 8 + type < 2 ^ 64 = omega arith in
    let high : (number * 8 + type) / 8 ≡ number = omega arith in
    let low : (number * 8 + type) % 8 ≡ type = omega arith in
    ap (option_and_then after_tag) (varint_read (number * 8 + type) rest fits)
    ∙ ap (λ (k : ℕ). if is_number k then value_at k ((number * 8 + type) % 8) rest else None) high
    ∙ ap (λ (k : ℕ). if is_number number then value_at number k rest else None) low
    ∙ ap (λ (b : Bool). if b then value_at number type rest else None) known

prefixed_read : (s rest : List ℕ) → length s < 2 ^ 64 → prefixed (varint_bytes (length s) ++ (s ++ rest)) ≡ Some (s, rest)
prefixed_read s rest h =
    ap (option_and_then (λ (r : ℕ × List ℕ). split r.0 r.1)) (varint_read (length s) (s ++ rest) h)
    ∙ split_read (length s) s rest refl

field_read : (number : ℕ) (content : Content) (rest : List ℕ) → is_number number ≡ true → FitsType content → length (content_bytes number content) < 2 ^ 64 → item_at (content_bytes number content ++ rest) ≡ Some (field (number, content), rest)
field_read number (varint v) rest known fits short =
    ap item_at (append_assoc (tag number 0) (varint_bytes v) rest)
    ∙ tag_read number 0 (varint_bytes v ++ rest) known (omega arith)
    ∙ ap (option_map (as_field number varint)) (varint_read v rest fits)
field_read number (fixed64 v) rest known fits short =
    ap item_at (append_assoc (tag number 1) (to_le_bytes w64 v) rest)
    ∙ tag_read number 1 (to_le_bytes w64 v ++ rest) known (omega arith)
    ∙ ap (option_map (as_field number (λ (s : List ℕ). fixed64 (from_le_bytes w64 s)))) (split_read 8 (to_le_bytes w64 v) rest refl)
    ∙ ap (λ (k : ℕ). Some (field (number, fixed64 k), rest)) (from_le_bytes-to_le_bytes_8 v fits)
field_read number (bytes s) rest known fits short =
    let size = varint_bytes (length s) in
    ap item_at (append_assoc (tag number 2 ++ size) s rest ∙ append_assoc (tag number 2) size (s ++ rest))
    ∙ tag_read number 2 (size ++ (s ++ rest)) known (omega arith)
    ∙ ap (option_map (as_field number bytes)) (prefixed_read s rest (omega (arith, short, length-append (head number (length s)) s)))
field_read number (fixed32 v) rest known fits short =
    ap item_at (append_assoc (tag number 5) (to_le_bytes w32 v) rest)
    ∙ tag_read number 5 (to_le_bytes w32 v ++ rest) known (omega arith)
    ∙ ap (option_map (as_field number (λ (s : List ℕ). fixed32 (from_le_bytes w32 s)))) (split_read 4 (to_le_bytes w32 v) rest refl)
    ∙ ap (λ (k : ℕ). Some (field (number, fixed32 k), rest)) (from_le_bytes-to_le_bytes_4 v fits)

-- ---- fields
step : (n : ℕ) (bs rest : List ℕ) (it : Item) → item_at bs ≡ Some (it, rest) → items_within (suc n) bs ≡ option_map (λ (more : List Item). it ∷ more) (items_within n rest)
step n [] rest it h = cc
step n (b ∷ bs) rest it h = ap (option_and_then (λ (r : Item × List ℕ). option_map (λ (more : List Item). r.0 ∷ more) (items_within n r.1))) h

items_read : (n : ℕ) (fs : List Field) → length fs ≤ n → All IsField fs → length (flat_map field_bytes fs) < 2 ^ 64 → items_within n (flat_map field_bytes fs) ≡ Some (map field fs)
items_read zero [] enough h short = refl
items_read (suc n) [] enough h short = refl
items_read zero (f ∷ fs) enough h short = absurd (omega arith)
items_read (suc n) (f ∷ fs) enough h short =
    let first : IsField f = h 0 f (omega arith) in
    let others : All IsField fs = λ k d small. h (suc k) d (omega arith) in
    let rest = flat_map field_bytes fs in
    let whole : length (flat_map field_bytes (f ∷ fs)) ≡ length (field_bytes f ++ rest) = ap length (flat_map-cons field_bytes f fs) in
    let first_short : length (field_bytes f) < 2 ^ 64 = omega (arith, short, whole, length-append (field_bytes f) rest) in
    let rest_short : length rest < 2 ^ 64 = omega (arith, short, whole, length-append (field_bytes f) rest) in
    ap (items_within (suc n)) (flat_map-cons field_bytes f fs)
    ∙ step n (field_bytes f ++ rest) rest (field f) (field_read f.0 f.1 rest first.number first.content first_short)
    ∙ ap (option_map (λ (more : List Item). field f ∷ more)) (items_read n fs (omega arith) others rest_short)

outside_groups : (fs : List Field) → fields_outside [] (map field fs) ≡ Some fs
outside_groups [] = refl
outside_groups (f ∷ fs) = ap (option_map (λ (more : List Field). f ∷ more)) (outside_groups fs)

one_at_least : (n v : ℕ) → 1 ≤ length (varint_bytes_within n v)
one_at_least zero v = omega arith
one_at_least (suc n) v = elim (nat_lt v 128) as (λ (b : Bool). 1 ≤ length (if b then v ∷ [] else (v % 128 + 128) ∷ varint_bytes_within n (v / 128))) [
  | true ↦ omega arith
  | false ↦ omega arith
]

a_byte : (v : ℕ) → 1 ≤ length (varint_bytes v)
unfolding varint_bytes
a_byte v = one_at_least 9 v

with_tag : (v : ℕ) (rest : List ℕ) → 1 ≤ length (varint_bytes v ++ rest)
with_tag v rest = omega (arith, a_byte v, length-append (varint_bytes v) rest)

field_has_byte : (number : ℕ) (content : Content) → 1 ≤ length (content_bytes number content)
field_has_byte number (varint v) = with_tag (number * 8 + 0) (varint_bytes v)
field_has_byte number (fixed64 v) = with_tag (number * 8 + 1) (to_le_bytes w64 v)
field_has_byte number (bytes s) = omega (arith, with_tag (number * 8 + 2) (varint_bytes (length s)), length-append (head number (length s)) s)
field_has_byte number (fixed32 v) = with_tag (number * 8 + 5) (to_le_bytes w32 v)

as_many_bytes : (fs : List Field) → length fs ≤ length (flat_map field_bytes fs)
as_many_bytes [] = omega arith
as_many_bytes (f ∷ fs) =
    let e : length (flat_map field_bytes (f ∷ fs)) ≡ length (field_bytes f ++ flat_map field_bytes fs) = ap length (flat_map-cons field_bytes f fs) in
    omega (arith, e, length-append (field_bytes f) (flat_map field_bytes fs), field_has_byte f.0 f.1, as_many_bytes fs)

-- ---- messages
pub fields_read_back : WrittenFieldsReadBack
unfolding bytes_of
fields_read_back fs h short =
    ap (option_and_then (fields_outside [])) (items_read (length (flat_map field_bytes fs)) fs (as_many_bytes fs) h short)
    ∙ outside_groups fs

pub equal_bytes : EqualBytesSaySame
equal_bytes fs gs f g short same =
    let also_short : length (bytes_of gs) < 2 ^ 64 = subst (λ (bs : List ℕ). length bs < 2 ^ 64) same short in
    let e : Some fs ≡ Some gs = sym (fields_read_back fs f short) ∙ ap read same ∙ fields_read_back gs g also_short in cc
