use Rattle.std.proofs.Common.{◌≡◌, map, take, string_bytes}
use Rattle.otel_examples.proofs.api.headers.HeadersExtractor.keys.Given as goal

abbrev pub invariant-loop-name : goal.invariant-loop-name
invariant-loop-name l = map (λ name. name.now) l.names.items ≡ map (λ pair. string_bytes pair.0) (take l.name-index l.self.pairs.items)
