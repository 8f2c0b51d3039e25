-- The model of the vector of slots. No public contract cites this file.
use Rattle.std.specs.Prelude.{ℕ, List, refl}
use Rattle.std.specs.Coded.{Coded, code_by, coded×, coded_ℕ, coded_list}
use Rattle.otel_context.specs.declared.stack.slots.slot_vec.Slot.{Slot}
use Rattle.otel_context.specs.contracts.stack.slots.slot_vec.Slot as slot

-- the slots, the number that fits before more memory is requested, the number of emptied slots that
-- were stepped over, and the number of queries whether a position is live
pub record SlotVecState : Type 0 where
  pub items : List Slot
  pub capacity : ℕ
  pub stepped : ℕ
  pub asked : ℕ

-- a code of the vector: the one of the tuple of the four fields
abbrev pub slot_vec_code : Coded SlotVecState
slot_vec_code = code_by (List Slot × (ℕ × (ℕ × ℕ)))
    (coded× (coded_list slot.the_row.coded) (coded× coded_ℕ (coded× coded_ℕ coded_ℕ)))
    (λ s. (s.items, (s.capacity, (s.stepped, s.asked))))
    (λ p. record { items = p.0; capacity = p.1.0; stepped = p.1.1.0; asked = p.1.1.1 })
    (λ _. refl)
