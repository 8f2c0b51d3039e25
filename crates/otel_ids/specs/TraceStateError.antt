-- The faults of keys, values and texts, and the errors that report them.
use Rattle.std.specs.Prelude.{◌≡◌, ℕ, List, [], ◌∷◌, Option, Some, None, if◌then◌else◌}
use Rattle.std.specs.Prelude.{Result, Ok, Err, string_bytes}
use Rattle.otel_ids.specs.declared.error.TraceStateError.{TraceStateError}
use Rattle.otel_ids.specs.declared.error.TraceStateError.TheVariants as errors
use Rattle.otel_ids.specs.Text.{is_key, is_value}
use Rattle.otel_ids.specs.TraceState.{Pair}

-- a kind of fault, with the text that has it [`TraceStateError`]
pub data Fault : Type 0 where
  KeyFault : (text : List ℕ) → Fault
  ValueFault : (text : List ℕ) → Fault
  ListFault : (text : List ℕ) → Fault

-- the fault of a key that isn't valid [`TraceState::delete`]
abbrev pub key_fault : List ℕ → Option Fault
key_fault key = if is_key key then None else Some (KeyFault key)

-- the fault of a value that isn't valid
abbrev pub value_fault : List ℕ → Option Fault
value_fault value = if is_value value then None else Some (ValueFault value)

-- the fault of a pair: the fault of its key, else the fault of its value [`TraceState::insert`]
abbrev pub pair_fault : Pair → Option Fault
pair_fault p = if is_key p.key then value_fault p.value else Some (KeyFault p.key)

-- the first fault if there is one, else the second
abbrev pub first_of : Option Fault → Option Fault → Option Fault
first_of None second = second
first_of (Some fault) second = Some fault

-- the fault of the first pair that has one [`TraceState::from_key_value`]
abbrev pub pairs_fault : List Pair → Option Fault
pairs_fault [] = None
pairs_fault (p ∷ ps) = first_of (pair_fault p) (pairs_fault ps)

-- the error reports the fault with the text that has it, or reports out of memory
abbrev pub Reports : TraceStateError → Option Fault → Type 0
Reports (errors.Key text) fault = fault ≡ Some (KeyFault (string_bytes text))
Reports (errors.Value text) fault = fault ≡ Some (ValueFault (string_bytes text))
Reports (errors.List text) fault = fault ≡ Some (ListFault (string_bytes text))
Reports (errors.Memory e) fault = Unit {0}

-- the error reports out of memory
abbrev pub IsMemory : TraceStateError → Type 0
IsMemory (errors.Key text) = ⊥
IsMemory (errors.Value text) = ⊥
IsMemory (errors.List text) = ⊥
IsMemory (errors.Memory e) = Unit {0}

-- the call returns these pairs if there is no fault, else its error reports the fault; or
-- it runs out of memory [`TraceState::from_key_value`, `TraceState::insert`,
-- `TraceState::delete`]
abbrev pub Makes : List Pair → Option Fault → Result (List Pair) TraceStateError → Type 0
Makes pairs fault (Ok made) = (made ≡ pairs) × (fault ≡ None)
Makes pairs fault (Err error) = Reports error fault

-- the call returns these pairs, or it runs out of memory
abbrev pub Returns : Result (List Pair) TraceStateError → List Pair → Type 0
Returns (Ok read) pairs = read ≡ pairs
Returns (Err e) pairs = IsMemory e
