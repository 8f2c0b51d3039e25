-- The pieces read so far name the propagators.
use Rattle.std.proofs.Common.{◌≡◌, length, take, fold, []}
use Rattle.otel_sdk.specs.EnvPropagators as spec
use Rattle.otel_sdk.proofs.env.propagators.listed.Given as goal

abbrev pub invariant-loop-piece : goal.invariant-loop-piece
invariant-loop-piece l =
    l.known.items ≡ fold spec.with_piece [] (take (length l.yielded) (spec.pieces l.text))
