-- A text that is appended to a `String`.
use Rattle.std.specs.Prelude.{◌≡◌, ◌+◌, ◌<◌, ◌≤◌, ℕ, List, length, ◌++◌, OnOk, OnErr, Result}
use Rattle.std.specs.Prelude.{String, string_bytes, string_len, string_capacity}
use Rattle.std.specs.declared.alloc.AllocError.{AllocError}
use Rattle.std.specs.declared.alloc.Global.{Global}

-- s became t: `Ok` appended the text, and an error was returned only if the spare capacity of s was
-- too small for it: `[1]` is always appended if three bytes are spare
pub record Appends (r : Result (Unit {0}) AllocError) (s : String Global) (text : List ℕ)
    (t : String Global) : Type 0 where
  pub ok : OnOk r (string_bytes t ≡ string_bytes s ++ text)
  pub full : OnErr r (string_capacity s < string_len s + length text)
  pub capacity : string_capacity s ≤ string_capacity t
