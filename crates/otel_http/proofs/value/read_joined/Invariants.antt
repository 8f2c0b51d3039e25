use Rattle.std.proofs.Common.{◌≡◌, ◌++◌, map}
use Rattle.std.specs.List.{filter_map}
use Rattle.otel_http.specs.Headers.{text}
use Rattle.otel_http.proofs.value.read_joined.Given as goal

abbrev pub invariant-loop-value : goal.invariant-loop-value
invariant-loop-value l = map (λ p. p.now) l.pieces.items ++ filter_map text l.value-iterator ≡ filter_map text l.values
