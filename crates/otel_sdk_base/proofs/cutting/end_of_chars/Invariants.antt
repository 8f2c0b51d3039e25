use Rattle.std.proofs.Common.{◌≡◌, ◌++◌, take, drop}
use Rattle.std.specs.Fmt.{take_chars}
use Rattle.otel_sdk_base.proofs.cutting.end_of_chars.Given as goal

abbrev pub invariant-loop-index : goal.invariant-loop-index
invariant-loop-index l =
    take l.index l.bytes ++ take_chars l.left (drop l.index l.bytes) ≡ take_chars l.length l.bytes
