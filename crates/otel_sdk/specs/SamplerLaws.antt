-- Laws of samplers.
use Rattle.std.specs.Prelude.{◌≡◌, if◌then◌else◌}
use Rattle.otel_context.specs.Context.{span_context}
use Rattle.otel_ids.specs.SpanContext.{IsValidSpanContext}
use Rattle.otel_ids.specs.TraceFlags.{is_sampled}
use Rattle.otel_sdk.specs.Sampler.{Asked, Answer, parent_based, unchanged}
use Rattle.otel_sdk.specs.declared.trace.sampler.SamplingDecision.TheVariants.{Drop}
use Rattle.otel_sdk.specs.declared.trace.sampler.SamplingDecision.TheVariants.{RecordAndSample}

-- Under a valid parent, the answer doesn't depend on the root sampler.
abbrev pub RootIsNotAsked : Type 0
RootIsNotAsked = (root other remote_on remote_off local_on local_off : Asked → Answer)
    (asked : Asked) → IsValidSpanContext (span_context asked.parent)
    → parent_based root remote_on remote_off local_on local_off asked
    ≡ parent_based other remote_on remote_off local_on local_off asked

-- With the samplers of `ParentBased::new`, a span under a valid parent is sampled if and only if
-- the parent is.
abbrev pub ParentIsFollowed : Type 0
ParentIsFollowed = (root : Asked → Answer) (asked : Asked)
    → IsValidSpanContext (span_context asked.parent)
    → (parent_based root (unchanged RecordAndSample) (unchanged Drop)
    (unchanged RecordAndSample) (unchanged Drop) asked).decision
    ≡ (if is_sampled (span_context asked.parent).trace_flags then RecordAndSample else Drop)

-- With `AlwaysOff` as the root sampler, no span without a valid parent is sampled.
abbrev pub NoRootIsSampled : Type 0
NoRootIsSampled = (remote_on remote_off local_on local_off : Asked → Answer) (asked : Asked)
    → ¬ IsValidSpanContext (span_context asked.parent)
    → (parent_based (unchanged Drop) remote_on remote_off local_on local_off asked).decision ≡ Drop
