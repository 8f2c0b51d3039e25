use Rattle.std.proofs.Common.{◌≡◌, length, drop}
use Rattle.otel_ids.specs.Reading.{pieces, list_members, list_fault}
use Rattle.otel_ids.proofs.Turns.{IsReadUpTo}
use Rattle.otel_ids.proofs.reading.read_pairs.Given as goal

abbrev pub invariant-loop-piece : goal.invariant-loop-piece
invariant-loop-piece l = IsReadUpTo (length l.yielded) (pieces l.text) l.read × (list_fault (list_members (drop (length l.yielded) (pieces l.text))) ≡ list_fault (list_members (pieces l.text)))
