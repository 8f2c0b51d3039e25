use Rattle.std.proofs.Common.{◌≡◌, ◌++◌, string_bytes}
use Rattle.std.specs.List.{flat_map}
use Rattle.otel_ids.specs.TraceState.{entry, header_delimited}
use Rattle.otel_ids.proofs.from_pairs.delimited.Given as goal

abbrev pub invariant-loop-pair : goal.invariant-loop-pair
invariant-loop-pair l = string_bytes l.text ++ flat_map (λ q. l.list_delimiter ++ entry l.entry_delimiter q) l.pair-iterator ≡ header_delimited l.fn.pairs l.entry_delimiter l.list_delimiter
