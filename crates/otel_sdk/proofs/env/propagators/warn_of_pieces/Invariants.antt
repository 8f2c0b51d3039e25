-- The pieces read so far were warned about.
use Rattle.std.proofs.Common.{◌≡◌, ◌++◌, length, take}
use Rattle.std.specs.List.{flat_map}
use Rattle.otel_sdk.specs.EnvPropagators as spec
use Rattle.otel_sdk.proofs.env.propagators.warn_of_pieces.Given as goal

abbrev pub invariant-loop-piece : goal.invariant-loop-piece
invariant-loop-piece l =
    l.warnings.items ≡ l.initial.warnings.items
    ++ flat_map (spec.piece_warnings l.others l.instead) (take (length l.yielded) (spec.pieces l.text))
