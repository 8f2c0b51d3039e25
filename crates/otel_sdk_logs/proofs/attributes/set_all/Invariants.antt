use Rattle.std.proofs.Common.{◌≡◌, ◌≤◌, ◌+◌, length, vec_len, vec_capacity}
use Rattle.otel_base.specs.View.{pairs_view}
use Rattle.otel_sdk_logs.specs.Attributes as spec
use Rattle.otel_sdk_logs.specs.Attributes.{Held}
use Rattle.otel_sdk_logs.proofs.attributes.set_all.Given as goal

abbrev pub invariant-loop-key : goal.invariant-loop-key
invariant-loop-key l =
    let now : Held = record { attributes = pairs_view l.held.items; dropped = l.dropped } in
    let first : Held = record { attributes = pairs_view l.initial.held.items; dropped = l.initial.dropped } in
    record {
      set : now ≡ spec.with_all l.limits.max_attributes_per_record first (pairs_view l.yielded);
      room : vec_len l.held + length l.key-iterator.rest.items ≤ vec_capacity l.held;
    }
