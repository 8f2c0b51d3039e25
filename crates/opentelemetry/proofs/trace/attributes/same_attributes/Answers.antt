use Rattle.std.proofs.Common.{◌∙◌, sym}
use Rattle.std.specs.Cmp.Derive.Mapped.{pointwise-map}
use Rattle.otel_base.specs.KeyValue as attribute
use Rattle.otel_base.specs.View.{attribute_of}
use Rattle.opentelemetry.proofs.trace.attributes.same_attributes.Goals as goal

pub returns : goal.returns
returns c = c.eq.ensures ∙ sym (pointwise-map attribute_of attribute.eq c.args.left.now.items c.args.right.now.items)
