-- The effects of the calls on headers.
use Rattle.std.specs.Prelude.{◌≡◌, ◌⊎◌, ℕ, List, Option, Some}
use Rattle.http_header.specs.FieldName.{IsFieldName}
use Rattle.http_header.specs.Token.{lowercase}
use Rattle.http_header.specs.FieldValue.{FieldValue, IsFieldValue, plain_value}
use Rattle.http_header.specs.HeaderMap.{append, get, remove, RefusesAppend}
use Rattle.otel_http.specs.Headers.{Headers}
use Rattle.otel_c.specs.declared.object.Object.{Object}
use Rattle.otel_c.specs.declared.status.Status.{Status}
use Rattle.otel_c.specs.declared.status.Status.TheVariants as status
use Rattle.otel_c.specs.Object.{headers_of}
use Rattle.otel_c.specs.Status.{IsOutOfMemory, IsOtherKind, IsNothing}
use Rattle.otel_c.specs.Room.{Holds, IsLong}

-- the headers have the value after the earlier values of its name
pub record Appends (name value : List ℕ) (old new : Option Object) : Type 0 where
  pub headers : Headers
  pub from : headers_of old ≡ Some headers
  pub into : headers_of new ≡ Some (append headers (lowercase name) (plain_value value))

-- the status says that the text isn't a valid name of a header, and it isn't
pub record IsNoName (name : List ℕ) (s : Status) : Type 0 where
  pub status : s ≡ status.Key
  pub is : ¬ (IsFieldName name)

-- the status says that the text isn't a valid value of a header, and it isn't
pub record IsNoValue (value : List ℕ) (s : Status) : Type 0 where
  pub status : s ≡ status.Value
  pub is : ¬ (IsFieldValue value)

-- the status says that the headers are full, and they are
pub record AreFull (name : List ℕ) (headers : Headers) (s : Status) : Type 0 where
  pub status : s ≡ status.Refused
  pub is : RefusesAppend headers (lowercase name)

-- why a header wasn't appended to these
abbrev pub HeaderRefused : List ℕ → List ℕ → Headers → Status → Type 0
HeaderRefused name value headers s =
    (IsOutOfMemory s ⊎ IsNoName name s) ⊎ (IsNoValue value s ⊎ AreFull name headers s)

-- the headers of the object are unchanged, for that reason
pub record HasHeaderRefused (name value : List ℕ) (old : Option Object) (s : Status) : Type 0 where
  pub headers : Headers
  pub from : headers_of old ≡ Some headers
  pub why : HeaderRefused name value headers s

-- why nothing was appended
abbrev pub AppendRefused : List ℕ → List ℕ → Option Object → Status → Type 0
AppendRefused name value old s = IsOtherKind (headers_of old) s ⊎ HasHeaderRefused name value old s

-- the headers have no value of the name
pub record Removes (name : List ℕ) (old new : Option Object) : Type 0 where
  pub headers : Headers
  pub from : headers_of old ≡ Some headers
  pub into : headers_of new ≡ Some (remove headers (lowercase name))

-- the room holds the first value of the name
pub record GetsHeader (object : Option Object) (name old new : List ℕ) (written : ℕ) : Type 0 where
  pub headers : Headers
  pub value : FieldValue
  pub from : headers_of object ≡ Some headers
  pub found : get headers (lowercase name) ≡ Some value
  pub holds : Holds value.bytes old new written

-- the headers have no value of the name, and the status says so
pub record LacksHeader (object : Option Object) (name : List ℕ) (s : Status) : Type 0 where
  pub headers : Headers
  pub from : headers_of object ≡ Some headers
  pub none : IsNothing (get headers (lowercase name)) s

-- the first value of the name is longer than the room
pub record HeaderIsLong (object : Option Object) (name old : List ℕ) (written : ℕ) (s : Status)
    : Type 0 where
  pub headers : Headers
  pub value : FieldValue
  pub from : headers_of object ≡ Some headers
  pub found : get headers (lowercase name) ≡ Some value
  pub long : IsLong value.bytes old written s

-- why no value was written
abbrev pub GetHeaderRefused : Option Object → List ℕ → List ℕ → ℕ → Status → Type 0
GetHeaderRefused object name old written s =
    IsOtherKind (headers_of object) s
    ⊎ (LacksHeader object name s ⊎ HeaderIsLong object name old written s)
