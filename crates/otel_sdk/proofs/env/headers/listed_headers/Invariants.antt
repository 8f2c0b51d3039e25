-- The headers among the pieces read so far are listed.
use Rattle.std.proofs.Common.{◌≡◌, length, take, fold, [], string_bytes}
use Rattle.otel_sdk_base.specs.ResourceTexts.{pieces}
use Rattle.otel_sdk.specs.EnvHeaders as spec
use Rattle.otel_sdk.proofs.env.headers.listed_headers.Given as goal

abbrev pub invariant-loop-piece : goal.invariant-loop-piece
invariant-loop-piece l =
    string_bytes l.listed ≡ fold spec.with_header [] (take (length l.yielded) (pieces l.text))
