use Rattle.std.proofs.Common.{◌≡◌, map}
use Rattle.std.specs.Prelude.{fold}
use Rattle.opentelemetry.specs.View.{link_of}
use Rattle.otel_sdk_span.specs.Span as spec
use Rattle.otel_sdk_span.proofs.data.SpanData.add_links.Given as goal

abbrev pub invariant-loop-link : goal.invariant-loop-link
invariant-loop-link l =
    l.self ≡ fold (spec.with_link l.limits) l.initial.self (map link_of l.yielded)
