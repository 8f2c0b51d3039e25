use Rattle.std.proofs.Common.{◌≡◌, ap, subst, ◌∙◌, IfOk, ℕ, List}
use Rattle.otel_base.specs.KeyValue.{Attribute}
use Rattle.otel_base.specs.Value.{text}
use Rattle.otel_sdk_base.specs.Resource as spec
use Rattle.otel_sdk_base.proofs.resource.ResourceBuilder.with_service_name.Goals as goal

pub returns : goal.returns
returns c =
    subst (λ (a : Attribute). IfOk c.with_attribute.result (λ b. b ≡ spec.with_attribute a c.args.self))
    (c.new.ensures ∙ ap (λ (k : List ℕ). (k, text c.args.name)) c.from.ensures)
    c.with_attribute.ensures
