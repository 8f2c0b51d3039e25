-- The properties of every context, if it has no baggage.
use Rattle.std.proofs.Common.{◌≡◌, [], Option, None, ap, ◌∙◌, subst, sym}
use Rattle.std.specs.Option.{option_map, option_map_or}
use Rattle.otel_ids.specs.SpanContext.{SpanContextRecord}
use Rattle.otel_context.specs.Baggage.{IsBaggage}
use Rattle.otel_context.specs.BaggageMember.{Member}
use Rattle.otel_context.specs.Context.{ContextRecord, span_context}
use Rattle.otel_propagators.specs.Laws.{IsSpanContext, IsContext}
use Rattle.otel_propagators.proofs.PieceReads.{no_members}
use denote.Ref.{Bor}
use Rattle.std.specs.Prelude.{List}

pub without_baggage : (context : ContextRecord) (s : SpanContextRecord) → s ≡ span_context context → IsSpanContext s
    → (o : Option (Bor (List Member))) → o ≡ None → option_map (λ b. b.now) o ≡ context.baggage → IsContext context
without_baggage context s e i o none is =
    let absent : None ≡ context.baggage = ap (option_map (λ (b : Bor (List Member)). b.now)) (sym none) ∙ is in
    record {
      span_context = subst IsSpanContext e i;
      members = subst (λ b. IsBaggage (option_map_or (λ ms. ms) b [])) absent no_members;
    }
