use Rattle.std.proofs.Common.{◌≡◌, map}
use Rattle.std.specs.Prelude.{fold}
use Rattle.otel_base.specs.View.{attribute_of}
use Rattle.otel_sdk_span.specs.Span as spec
use Rattle.otel_sdk_span.proofs.data.SpanData.set_attributes.Given as goal

abbrev pub invariant-loop-attribute : goal.invariant-loop-attribute
invariant-loop-attribute l =
    l.self ≡ fold (spec.with_attribute l.limits) l.initial.self (map attribute_of l.yielded)
