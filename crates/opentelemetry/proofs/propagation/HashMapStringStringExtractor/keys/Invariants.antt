use Rattle.std.proofs.Common.{◌≡◌, ◌++◌, map, string_bytes}
use Rattle.std.specs.HashMap.{keys}
use Rattle.opentelemetry.proofs.propagation.HashMapStringStringExtractor.keys.Given as goal

abbrev pub invariant-loop-key : goal.invariant-loop-key
invariant-loop-key g l = map (λ k. k.now) l.all.items ++ map string_bytes l.key-iterator ≡ map string_bytes (keys l.self)
