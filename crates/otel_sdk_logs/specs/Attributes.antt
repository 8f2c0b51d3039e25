-- How an attribute is set in a log record under limits.
use Rattle.std.specs.Prelude.{◌≡◌, ℕ, ◌+◌, List, [], ◌∷◌, ◌++◌, length, Bool, true, false}
use Rattle.std.specs.Prelude.{◌||◌, nat_lt, fold, map, Option, None, is_some, codes, refl}
use Rattle.std.specs.Prelude.{if◌then◌else◌, position, slice_set, min}
use Rattle.std.specs.Option.{option_map_or}
use Rattle.std.specs.Str.{bytes_eq}
use Rattle.std.specs.declared.alloc.Global.{Global}
use Rattle.std.specs.declared.vec.Vec.{Vec}
use Rattle.otel_base.specs.AnyValue.{Tree, boolean}
use Rattle.otel_base.specs.View.{pairs_view}
use Rattle.otel_base.specs.declared.any_value.AnyValue.{AnyValue}
use Rattle.otel_sdk_logs.specs.Cuts.{cut}
use Rattle.otel_sdk_logs.specs.declared.limits.LogRecordLimits.{LogRecordLimits}

-- a key with its value
abbrev pub Attribute : Type 0
Attribute = List ℕ × Tree

-- the attributes, and the number of dropped attributes
pub record Held : Type 0 where
  pub attributes : List Attribute
  pub dropped : ℕ

-- these attributes, with this count
abbrev pub held : List Attribute → ℕ → Held
held attributes dropped = record { attributes = attributes; dropped = dropped }

-- the attributes of a list in the program, with this count
abbrev pub held_in : Vec (List ℕ × AnyValue) Global → ℕ → Held
held_in list dropped = held (pairs_view list.items) dropped

-- the place of the key, if an attribute has it
abbrev pub place : List ℕ → List Attribute → Option ℕ
place key held = position (λ a. bytes_eq a.0 key) held

-- the list with the attribute at the place of its key, or at the end if the key is new
-- (OpenTelemetry specification, "Attribute Collections"; the order is own)
abbrev pub put : List Attribute → Attribute → List Attribute
put held a = option_map_or (λ i. slice_set held i a) (place a.0 held) (held ++ a ∷ [])

-- whether the attribute is kept: its key is present, or there are fewer than the limit
-- (OpenTelemetry specification, "Attribute Limits")
abbrev pub keeps : ℕ → List Attribute → Attribute → Bool
keeps limit held a = is_some (place a.0 held) || nat_lt (length held) limit

-- the list after the attribute is set: it is put if it is kept, otherwise nothing changes
abbrev pub set : ℕ → List Attribute → Attribute → List Attribute
set limit held a = if keeps limit held a then put held a else held

-- one more, up to the greatest `u32`
abbrev pub one_more : ℕ → ℕ
one_more count = min (count + 1) 4294967295

-- the attributes and the count after the attribute is set: one that isn't kept is counted
abbrev pub with_one : ℕ → Held → Attribute → Held
with_one limit old a = record {
  attributes = set limit old.attributes a;
  dropped = if keeps limit old.attributes a then old.dropped else one_more old.dropped;
}

-- the same after each of them is set in turn
abbrev pub with_all : ℕ → Held → List Attribute → Held
with_all limit old given = fold (with_one limit) old given

-- ---- under the limits of a record
-- 128 attributes, and values of any length (OpenTelemetry logs SDK, "LogRecord Limits")
abbrev pub default_limits : LogRecordLimits
default_limits = record { max_attributes_per_record = 128; max_attribute_length = None }

-- the attribute is truncated, and then set
abbrev pub with_one_within : LogRecordLimits → Held → Attribute → Held
with_one_within limits old a =
    with_one limits.max_attributes_per_record old (cut limits.max_attribute_length a)

-- the attributes are truncated, and then each is set in turn
abbrev pub with_all_within : LogRecordLimits → Held → List Attribute → Held
with_all_within limits old given = with_all limits.max_attributes_per_record old
    (map (cut limits.max_attribute_length) given)

-- ---- worked rows
abbrev on : List ℕ → Attribute
on k = (k, boolean true)

abbrev off : List ℕ → Attribute
off k = (k, boolean false)

-- b=1, a=x, b=2 is b=2, a=x
in_place_example : with_all_within default_limits (record { attributes = []; dropped = 0 })
    (on (codes "b") ∷ on (codes "a") ∷ off (codes "b") ∷ [])
    ≡ record { attributes = off (codes "b") ∷ on (codes "a") ∷ []; dropped = 0 }
in_place_example = refl

-- a=x, b=x, a=1, b=1 within one attribute is a=1, with two dropped
dropped_example : with_all 1 (record { attributes = []; dropped = 0 })
    (on (codes "a") ∷ on (codes "b") ∷ off (codes "a") ∷ off (codes "b") ∷ [])
    ≡ record { attributes = off (codes "a") ∷ []; dropped = 2 }
dropped_example = refl
