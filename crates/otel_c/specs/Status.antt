-- The outcome of a call in C, and the meaning of each error.
use Rattle.std.specs.Prelude.{◌≡◌, ◌⊎◌, ◌<◌, ℕ, false, List, length, Option, Some, None, Result, Ok}
use Rattle.std.specs.Prelude.{Err}
use Rattle.std.specs.Prelude.{IsUtf8}
use Rattle.http_header.specs.FieldValue.{is_visible_text}
use Rattle.otel_ids.specs.TraceStateError.{Fault, KeyFault, ValueFault, ListFault}
use Rattle.otel_c.specs.declared.status.Status.{Status}
use Rattle.otel_c.specs.declared.status.Status.TheVariants as status

-- the number of `enum otel_status`
abbrev pub number : Status → ℕ
number status.NoMemory = 1
number status.NotText = 2
number status.NoRoom = 3
number status.Absent = 4
number status.Key = 5
number status.Value = 6
number status.List = 7
number status.Invalid = 8
number status.Refused = 9
number status.Unsendable = 10

-- the number of an outcome: 0 is success, and only success
abbrev pub code_of : {A : Type 0} → Result A Status → ℕ
code_of (Ok done) = 0
code_of (Err status) = number status

-- the number is the one of a status for which this is the reason
pub record Refuses (Why : Status → Type 0) (n : ℕ) : Type 0 where
  pub status : Status
  pub is : n ≡ number status
  pub why : Why status

-- the status says that the bytes aren't UTF-8, and they aren't
pub record IsNoText (bytes : List ℕ) (s : Status) : Type 0 where
  pub status : s ≡ status.NotText
  pub is : ¬ IsUtf8 bytes

-- the status says that the room is shorter than the text, and it is
pub record HasNoRoom (text room : List ℕ) (s : Status) : Type 0 where
  pub status : s ≡ status.NoRoom
  pub short : length room < length text

-- the fault is in a key
pub record InKey (fault : Option Fault) : Type 0 where
  pub text : List ℕ
  pub is : fault ≡ Some (KeyFault text)

-- the fault is in a value
pub record InValue (fault : Option Fault) : Type 0 where
  pub text : List ℕ
  pub is : fault ≡ Some (ValueFault text)

-- the fault is a member without `=`
pub record InList (fault : Option Fault) : Type 0 where
  pub text : List ℕ
  pub is : fault ≡ Some (ListFault text)

-- the status names the fault, or says that the call is out of memory
abbrev pub Blames : Option Fault → Status → Type 0
Blames fault status.NoMemory = Unit {0}
Blames fault status.NotText = ⊥
Blames fault status.NoRoom = ⊥
Blames fault status.Absent = ⊥
Blames fault status.Key = InKey fault
Blames fault status.Value = InValue fault
Blames fault status.List = InList fault
Blames fault status.Invalid = ⊥
Blames fault status.Refused = ⊥
Blames fault status.Unsendable = ⊥

-- the status says that a handle is empty or holds something of another kind, and it does
pub record IsOtherKind {A : Type 0} (wanted : Option A) (s : Status) : Type 0 where
  pub status : s ≡ status.Invalid
  pub is : wanted ≡ None

-- the status says that the call is out of memory
abbrev pub IsOutOfMemory : Status → Type 0
IsOutOfMemory s = s ≡ status.NoMemory

-- the status says that the call is out of memory, or that the headers can't carry a text
abbrev pub IsOfCarrier : Status → Type 0
IsOfCarrier s = (s ≡ status.NoMemory) ⊎ (s ≡ status.Refused)

-- the status says that no header can carry the text, which has a byte other than tabs and the ASCII
-- characters from space to `~`
pub record IsUnsendable (text : List ℕ) (s : Status) : Type 0 where
  pub status : s ≡ status.Unsendable
  pub is : is_visible_text text ≡ false

-- the status says that there is no such entry, and there isn't
pub record IsNothing {A : Type 0} (found : Option A) (s : Status) : Type 0 where
  pub status : s ≡ status.Absent
  pub none : found ≡ None
