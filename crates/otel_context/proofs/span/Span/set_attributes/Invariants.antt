use Rattle.std.proofs.Common.{map}
use Rattle.otel_base.specs.View.{attribute_of}
use Rattle.otel_context.specs.SpanEffects.{SetSoFar, attributes_of}
use Rattle.otel_context.proofs.span.Span.set_attributes.Given as goal

abbrev pub invariant-loop-attribute : goal.invariant-loop-attribute
invariant-loop-attribute g l = SetSoFar g.Self.Span.after_attribute l.fn.self (attributes_of l.fn.attributes) l.self (map attribute_of l.yielded) (map attribute_of l.attribute-iterator.rest.items)
