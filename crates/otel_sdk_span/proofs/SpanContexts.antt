-- No call changes the span context.
use Rattle.std.proofs.Common.{◌≡◌, Bool, true, false, List, [], ◌∷◌, refl, ◌∙◌}
use Rattle.std.specs.Prelude.{fold, if◌then◌else◌}
use Rattle.otel_base.specs.KeyValue.{Attribute}
use Rattle.opentelemetry.specs.Event.{EventRecord, LinkRecord}
use Rattle.otel_sdk_span.specs.Span as spec
use Rattle.otel_sdk_span.specs.SpanData.{SpanRecord}
use Rattle.otel_sdk_span.specs.declared.limits.SpanLimits.{SpanLimits}

module _ (limits : SpanLimits) where
  of_attributes : (d : SpanRecord) (xs : List Attribute)
      → (fold (spec.with_attribute limits) d xs).span_context ≡ d.span_context
  of_attributes d [] = refl
  of_attributes d (x ∷ xs) = of_attributes (spec.with_attribute limits d x) xs

  of_events : (d : SpanRecord) (es : List EventRecord)
      → (fold (spec.with_event limits) d es).span_context ≡ d.span_context
  of_events d [] = refl
  of_events d (e ∷ es) = of_events (spec.with_event limits d e) es

  of_link : (d : SpanRecord) (l : LinkRecord) (b : Bool)
      → (if b then d else spec.with_kept_link limits d l).span_context ≡ d.span_context
  of_link d l true = refl
  of_link d l false = refl

  of_links : (d : SpanRecord) (ls : List LinkRecord)
      → (fold (spec.with_link limits) d ls).span_context ≡ d.span_context
  of_links d [] = refl
  of_links d (l ∷ ls) =
      of_links (spec.with_link limits d l) ls ∙ of_link d l (spec.says_nothing l)

  pub of_within : (d : SpanRecord) → (spec.keep_within limits d).span_context ≡ d.span_context
  of_within d =
      let empty = record d { attributes = []; events = []; links = [] } in
      let attributes = fold (spec.with_attribute limits) empty d.attributes in
      of_links (fold (spec.with_event limits) attributes d.events) d.links
      ∙ of_events attributes d.events
      ∙ of_attributes empty d.attributes
