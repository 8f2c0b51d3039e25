use Rattle.std.proofs.Common.{◌++◌, ◌∷◌, [], ap, ◌∙◌, rules, map, string_bytes}
use Rattle.otel_base.specs.View.{attribute_of}
use Rattle.otel_context.proofs.SpanEffectLemmas.{error_event}
use Rattle.otel_context.proofs.span.Span.record_error.Goals as goal

pub returns-clause-ok : goal.returns-clause-ok
returns-clause-ok g c =
    error_event g.Self.Span.records g.Self.Span.after_event c.args.self.now _ _ c.add_event.result _ c.from-2.result (string_bytes c.in_ok-text.text) _
    (search rules) c.in_ok-text.ensures.ok (search rules)
    (ap (map attribute_of) (c.in_ok-push.ensures.items ∙ ap (λ l. l ++ c.new-message.result ∷ []) c.new-attributes.ensures.items) ∙ ap (λ p. p ∷ []) (c.new-message.ensures ∙ (λ i. (c.from_static_str-key.ensures i, c.from.ensures i)))) c.add_event.ensures.ok
