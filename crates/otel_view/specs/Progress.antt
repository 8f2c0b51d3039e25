-- How much of a file was read.
use Rattle.std.specs.Prelude.{ℕ, ◌+◌, ◌/◌, ◌^◌, List, ◌∷◌, ◌++◌, codes}
use Rattle.std.specs.Fmt.{decimal}
use Rattle.opentelemetry.specs.Clock.{within_u64}
use Rattle.otel_view.specs.declared.progress.Count.{Count}

-- one more line of this many bytes
abbrev pub with_line : ℕ → Count → Count
with_line bytes count = record {
  lines = within_u64 (count.lines + 1);
  bytes = within_u64 (count.bytes + bytes);
}

-- the number of steps of 16 MiB
abbrev pub steps : Count → ℕ
steps count = count.bytes / 2 ^ 24

-- the MiB and the lines, from the start of the terminal's line
abbrev pub text : Count → List ℕ
text count =
    13 ∷ (decimal (count.bytes / 2 ^ 20) ++ (codes " MiB, " ++ (decimal count.lines
    ++ codes " lines")))
