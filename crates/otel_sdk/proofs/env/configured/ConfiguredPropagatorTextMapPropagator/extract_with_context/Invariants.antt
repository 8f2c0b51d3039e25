use Rattle.std.proofs.Common.{◌≡◌, length, fold}
use Rattle.otel_sdk.specs.ConfiguredPropagator.{extracted_by}
use Rattle.otel_sdk.proofs.env.configured.ConfiguredPropagatorTextMapPropagator.extract_with_context.Given as goal

abbrev pub invariant-loop-member : goal.invariant-loop-member
invariant-loop-member g l =
    fold (λ given name. extracted_by name given ((goal.Extractor-dyn g l.extractor.now).texts l.extractor.now.1)) l.given l.rest
    ≡ fold (λ given name. extracted_by name given ((goal.Extractor-dyn g l.extractor.now).texts l.extractor.now.1)) l.context l.self

abbrev pub decreases-loop-member : goal.decreases-loop-member
decreases-loop-member g l = length l.rest
