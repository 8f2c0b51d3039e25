use Rattle.std.proofs.Common.{◌≡◌, ◌++◌, map, string_bytes}
use Rattle.otel_examples.proofs.api.header_names.header_names.Given as goal

abbrev pub invariant-loop-name : goal.invariant-loop-name
invariant-loop-name g l =
    map string_bytes l.names.items ++ l.name-iterator ≡ map string_bytes l.initial.names.items ++ l.initial.name-iterator
