-- Ids as hexadecimal digits.
use Rattle.std.specs.Prelude.{◌≡◌, ℕ, List, IsErr}
use Rattle.hex.specs.Hex.{decode_sized}
use Rattle.otel_c.specs.declared.status.Status.{Status}
use Rattle.otel_c.specs.declared.status.Status.TheVariants as status

-- the status says that the text isn't the digits of so many bytes, and it isn't
pub record IsNoHex (text : List ℕ) (count : ℕ) (s : Status) : Type 0 where
  pub status : s ≡ status.Value
  pub is : IsErr (decode_sized text count)
