use Rattle.std.proofs.Common.{◌≡◌, ◌+◌, ◌≤◌, ◌==◌, not, length, take}
use Rattle.std.specs.List.{suffix_len}
use Rattle.otel_otlp.proofs.otlp_http.stream_client.request.user_len.Given as goal

abbrev pub invariant-loop-len : goal.invariant-loop-len
invariant-loop-len l =
    (l.len ≤ length l.authority) × (l.len + suffix_len (λ b. not (b == 64)) l.authority ≡ length l.authority + suffix_len (λ b. not (b == 64)) (take l.len l.authority))

abbrev pub decreases-loop-len : goal.decreases-loop-len
decreases-loop-len l = l.len
