-- From code to models: the views of the fields of a context, and the codes with which a model's
-- value contains contexts, slots, stacks and span tables. No public contract cites this file.
use Rattle.std.specs.Prelude.{ℕ, ◌+◌, ◌-◌, ◌*◌, ◌%◌, ◌≡◌, ◌<◌, ◌≤◌, List, [], ◌∷◌, Bool, Option, Some, None, T, map, refl}
use Rattle.std.specs.Prelude.{length, slice_index, All, HoldsAt, min, false, bytes_eq, nat_lt, if◌then◌else◌}
use Rattle.std.specs.declared.rc.Rc.{Rc}
use Rattle.std.specs.declared.alloc.Global.{Global}
use Rattle.std.specs.Coded.{Coded, code_by, coded×, coded_ℕ, coded_bool, coded_list, coded_option}
use Rattle.std.specs.FinMap.{FinMap, code, from_entries, get, is_sorted}
use Rattle.std.specs.Cmp.Lexicographic.{slice_cmp}
use Rattle.std.specs.Ordering.{nat_cmp}
use Rattle.std.specs.declared.cmp.Ordering.{Ordering}
use Rattle.otel_ids.specs.SpanContext.{SpanContextRecord}
use Rattle.otel_ids.specs.View.{span_context_code}
use Rattle.otel_base.specs.AnyValue.{Tree}
use Rattle.otel_base.specs.View.{tree_code}
use Rattle.otel_base.specs.View.{tree}
use Rattle.otel_context.specs.BaggageMember.{Member, member_code}
use Rattle.otel_context.specs.Context.{EntryMap, SpanPart, ContextRecord}
use Rattle.otel_context.specs.Slots.{SlotsState}
use Rattle.otel_context.specs.Spans.{SpansState}
use Rattle.otel_context.specs.Stack.{Live, StackState}
use Rattle.otel_context.specs.declared.context.entries.Entry.{Entry}
use Rattle.otel_context.specs.declared.span.spans.Slot.{Slot}
use Rattle.otel_context.specs.declared.span.spans.places.Place.{Place}

-- each key with the tree of its value
abbrev pub pairs : List (Rc Entry Global) → List (List ℕ × Tree)
pairs = map (λ e. (e.value.key, tree e.value.value))

-- the slot of a name: a mix of its length, its first byte and its last two
abbrev pub slot_number : List ℕ → ℕ
slot_number name =
    (if nat_lt (length name) 2 then slice_index name 0
    else 4 * (length name % 128) + slice_index name 0 + 10 * slice_index name (length name - 2)
    + slice_index name (length name - 1)) % 128

-- the order of two lists, of bytes or of a slot and bytes
abbrev pub text_cmp : List ℕ → List ℕ → Ordering
text_cmp = slice_cmp nat_cmp

-- an entry's slot and then its key: the entries are in the order of these lists
abbrev pub sort_key : Entry → List ℕ
sort_key e = e.slot ∷ e.key

-- the slots of entries
abbrev pub slots : List (Rc Entry Global) → List ℕ
slots = map (λ e. e.value.slot)

-- each slot and key with the tree of the value
abbrev pub rows : List (Rc Entry Global) → List (List ℕ × Tree)
rows = map (λ e. (sort_key e.value, tree e.value.value))

-- the order of an entry's slot and key, and these
abbrev pub by_key : List ℕ → Rc Entry Global → Ordering
by_key key e = text_cmp (sort_key e.value) key

-- each slot and key is less than those after it
abbrev pub IsRising : List (Rc Entry Global) → Type 0
IsRising entries = T (is_sorted text_cmp (rows entries))

-- the entry's slot is the one of its key
abbrev pub IsInSlot : Entry → Type 0
IsInSlot e = e.slot ≡ slot_number e.key

-- each entry's slot is the one of its key
abbrev pub AreInSlots : List (Rc Entry Global) → Type 0
AreInSlots = All (λ e. IsInSlot e.value)

-- the last s of the first n slots is at this index, or at 254 or above if this is 254, or nowhere
-- if this is 255
abbrev pub IsLast : List ℕ → ℕ → ℕ → ℕ → Type 0
IsLast slots n s last =
    (last < 255 → last < n)
    × (last < 254 → slice_index slots last ≡ s)
    × ((k : ℕ) → k < n → slice_index slots k ≡ s → (last < 255) × (min k 254 ≤ last))

-- each slot's last entry is where the table says
abbrev pub AreLasts : List ℕ → List (Rc Entry Global) → Type 0
AreLasts lasts entries =
    (s : ℕ) → s < 128 → IsLast (slots entries) (length entries) s (slice_index lasts s)

-- the entry at the index has another name
abbrev pub IsOtherAt : List ℕ → List (Rc Entry Global) → ℕ → Type 0
IsOtherAt name entries = HoldsAt (λ e. bytes_eq name e.value.key ≡ false) entries

-- the finite map held by a list of shared entries
abbrev pub entries_seen : List (Rc Entry Global) → EntryMap
entries_seen entries = from_entries (pairs entries)

-- the same context, without an active span
abbrev pub without_span : ContextRecord → ContextRecord
without_span context = record context { span = None }

-- a code of entries: the one of the map's pairs
abbrev pub entries_code : Coded EntryMap
entries_code = code (coded_list coded_ℕ) tree_code

-- a code of lists of members of a baggage
abbrev pub members_code : Coded (List Member)
members_code = coded_list member_code

-- a code of active spans: the one of the pair of their two fields
abbrev pub span_part_code : Coded SpanPart
span_part_code = code_by (SpanContextRecord × Option ℕ)
    (coded× span_context_code (coded_option coded_ℕ))
    (λ s. (s.context, s.number))
    (λ p. record { context = p.0; number = p.1 })
    (λ _. refl)

-- a code of contexts: the one of the tuple of their four parts
abbrev pub context_code : Coded ContextRecord
context_code = code_by (EntryMap × (Option (List Member) × (Option SpanPart × Bool)))
    (coded× entries_code
    (coded× (coded_option members_code) (coded× (coded_option span_part_code) coded_bool)))
    (λ c. (c.entries, (c.baggage, (c.span, c.suppressed))))
    (λ p. record { entries = p.0; baggage = p.1.0; span = p.1.1.0; suppressed = p.1.1.1 })
    (λ _. refl)

-- a code of the slots: the one of the tuple of the four fields
abbrev pub slots_code : Coded SlotsState
slots_code = code_by (List (Option ContextRecord) × (ℕ × (ℕ × ℕ)))
    (coded× (coded_list (coded_option context_code)) (coded× coded_ℕ (coded× coded_ℕ coded_ℕ)))
    (λ s. (s.slots, (s.capacity, (s.stepped, s.asked))))
    (λ p. record { slots = p.0; capacity = p.1.0; stepped = p.1.1.0; asked = p.1.1.1 })
    (λ _. refl)

-- a code of stacks: the one of the tuple of the three fields
abbrev pub stack_code : Coded StackState
stack_code = code_by (Live × (ℕ × ℕ))
    (coded× (coded_list (coded× coded_ℕ context_code)) (coded× coded_ℕ coded_ℕ))
    (λ s. (s.live, (s.accepted, s.stepped)))
    (λ p. record { live = p.0; accepted = p.1.0; stepped = p.1.1 })
    (λ _. refl)

-- an entry of that number in front, if it has a slot
abbrev pub with_entry : ℕ → Option ℕ → List (ℕ × ℕ) → List (ℕ × ℕ)
with_entry number None entries = entries
with_entry number (Some slot) entries = (number, slot) ∷ entries

-- the numbers that have a slot, with it
abbrev pub entries_of : List Place → List (ℕ × ℕ)
entries_of [] = []
entries_of (place ∷ places) = with_entry place.number place.slot (entries_of places)

-- the numbers of places rise, from the first number to below the next one
abbrev pub IsAscending : ℕ → List Place → ℕ → Type 0
IsAscending first [] next = first ≤ next
IsAscending first (place ∷ places) next =
    (first ≤ place.number) × IsAscending (place.number + 1) places next

-- the slots of numbers as a finite map
abbrev pub map_of : List Place → FinMap nat_cmp ℕ
map_of places = from_entries (entries_of places)

-- the spans in slots as a finite map
abbrev pub spans_of : {S : Type 0} → List (Slot S) → FinMap nat_cmp S
spans_of slots = from_entries (map (λ s. (s.number, s.span)) slots)

-- the map has each slot under its number, and nothing else
pub record IsIndex {S : Type 0} (slots : List (Slot S)) (index : FinMap nat_cmp ℕ) : Type 0 where
  pub has : (k : ℕ) → k < length slots → HoldsAt (λ s. get index s.number ≡ Some k) slots k
  pub only : (number k : ℕ) → get index number ≡ Some k
      → (k < length slots) × HoldsAt (λ s. s.number ≡ number) slots k

-- a code of span tables: the one of the pair of the two fields
abbrev pub spans_code : {S : Type 0} → Coded S → Coded (SpansState S)
spans_code {S} span_code = code_by (FinMap nat_cmp S × ℕ)
    (coded× (code coded_ℕ span_code) coded_ℕ)
    (λ t. (t.spans, t.next_number))
    (λ p. record { spans = p.0; next_number = p.1 })
    (λ _. refl)
