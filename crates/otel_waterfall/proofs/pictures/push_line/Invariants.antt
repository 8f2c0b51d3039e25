-- The characters so far are appended.
use Rattle.std.proofs.Common.{◌≡◌, ◌++◌, take, encode_utf8_all}
use Rattle.std.specs.String.{string_bytes}
use Rattle.otel_waterfall.proofs.pictures.push_line.Given as goal

abbrev pub invariant-loop-c : goal.invariant-loop-c
invariant-loop-c l =
    string_bytes l.text ≡ string_bytes l.initial.text ++ encode_utf8_all (take l.c-index l.line)
