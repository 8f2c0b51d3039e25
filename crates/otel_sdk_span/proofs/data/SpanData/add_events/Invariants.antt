use Rattle.std.proofs.Common.{◌≡◌, map}
use Rattle.std.specs.Prelude.{fold}
use Rattle.opentelemetry.specs.View.{event_of}
use Rattle.otel_sdk_span.specs.Span as spec
use Rattle.otel_sdk_span.proofs.data.SpanData.add_events.Given as goal

abbrev pub invariant-loop-event : goal.invariant-loop-event
invariant-loop-event l =
    l.self ≡ fold (spec.with_event l.limits) l.initial.self (map event_of l.yielded)
