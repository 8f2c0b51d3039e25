use Rattle.std.proofs.Common.{◌≡◌, ◌≤◌, ℕ, List, ◌∷◌, length}
use Rattle.otel_proto_answers.specs.Parts.{read_within}
use Rattle.otel_proto_answers.proofs.parts.+after_group.Given as goal

abbrev pub decreases-after_group : goal.decreases-after_group
decreases-after_group l = length l.bytes.now

abbrev pub invariant-loop-rest : goal.invariant-loop-rest
invariant-loop-rest l = record {
  bound : length l.rest ≤ length l.bytes;
  same : (opened : List ℕ) → length opened ≡ l.depth
      → read_within (l.number ∷ opened) l.bytes ≡ read_within (l.number ∷ opened) l.rest;
}

abbrev pub decreases-loop-rest : goal.decreases-loop-rest
decreases-loop-rest l = length l.rest
