-- A sampler of at most a number of roots in each second. Not in the Rust crate.
use Rattle.std.specs.Prelude.{◌≡◌, ℕ, ◌+◌, ◌*◌, ◌/◌, ◌^◌, ◌≤◌, ◌==◌, ◌&&◌, Bool, true, false, not, max}
use Rattle.std.specs.Prelude.{nat_lt, List, [], ◌∷◌, ◌++◌, Option, None, Some, option_map, codes, refl}
use Rattle.std.specs.Prelude.{if◌then◌else◌}
use Rattle.std.specs.Fmt.{decimal}
use Rattle.std.specs.List.{count_by}
use Rattle.std.specs.Option.{option_map_or}
use Rattle.otel_context.specs.Context.{ContextRecord, span_context}
use Rattle.otel_ids.specs.TraceFlags.{is_sampled}
use Rattle.otel_sdk.specs.Sampler.{Answer, Asked, has_parent, unchanged}
use Rattle.otel_sdk.specs.declared.trace.sampler.SamplingDecision.{SamplingDecision}
use Rattle.otel_sdk.specs.declared.trace.sampler.SamplingDecision.TheVariants.{Drop}
use Rattle.otel_sdk.specs.declared.trace.sampler.SamplingDecision.TheVariants.{RecordAndSample}
use Rattle.otel_sdk_span.specs.Span.{SpanState}

-- the maximum number of sampled roots in a second, the newest second in which one began, counted
-- from 1970, and how many began in it
pub record RateLimit : Type 0 where
  pub maximum : ℕ
  pub second : ℕ
  pub sampled : ℕ

-- no root has begun
abbrev pub new : ℕ → RateLimit
new maximum = record { maximum = maximum; second = 0; sampled = 0 }

-- the second of a timestamp in nanoseconds
abbrev pub second_of : ℕ → ℕ
second_of timestamp = timestamp / 1000000000

-- The second in which a root counts that starts then. A second that is over gets no more roots: one
-- that starts earlier than the newest counts in its second.
abbrev pub second_at : Option ℕ → RateLimit → ℕ
second_at start limit = max limit.second (option_map_or second_of start 0)

-- how many roots began in the second, which isn't over
abbrev pub sampled_in : ℕ → RateLimit → ℕ
sampled_in second limit = if second == limit.second then limit.sampled else 0

-- whether a root that starts then is sampled
abbrev pub admits : Option ℕ → RateLimit → Bool
admits start limit = nat_lt (sampled_in (second_at start limit) limit) limit.maximum

-- a root began that starts then
abbrev pub after_root : Option ℕ → RateLimit → RateLimit
after_root start limit =
    if admits start limit
    then record limit {
      second = second_at start limit;
      sampled = sampled_in (second_at start limit) limit + 1;
    }
    else limit

-- a root is sampled if it is admitted, and another span if its parent is
abbrev pub decision : RateLimit → Asked → SamplingDecision
decision limit asked =
    let parent = span_context asked.parent in
    if (if has_parent parent then is_sampled parent.trace_flags else admits asked.start_time limit)
    then RecordAndSample else Drop

-- (`RateLimitingSampler::should_sample`)
abbrev pub answer : RateLimit → Asked → Answer
answer limit asked = unchanged (decision limit asked) asked

-- whether the span is a root that is sampled
abbrev pub is_sampled_root : ContextRecord → SpanState → Bool
is_sampled_root parent span =
    not (has_parent (span_context parent)) && is_sampled span.context.trace_flags

-- the span began: only a root that is sampled counts (`RateLimitingSampler::on_start`)
abbrev pub after_start : ContextRecord → SpanState → RateLimit → RateLimit
after_start parent span limit =
    if is_sampled_root parent span
    then after_root (option_map (λ d. d.start_time) span.recorded) limit else limit

-- (`RateLimitingSampler::description`)
abbrev pub description : RateLimit → List ℕ
description limit = codes "RateLimitingSampler{" ++ decimal limit.maximum ++ codes "}"

-- ---- the law

-- the timestamps don't fall, from this one on
abbrev pub NeverFall : ℕ → List ℕ → Type 0
NeverFall from [] = Unit {0}
NeverFall from (start ∷ later) = (from ≤ start) × NeverFall start later

-- of roots that start at these timestamps, one after the other, the timestamps of the sampled ones
abbrev pub sampled_of : List ℕ → RateLimit → List ℕ
sampled_of [] limit = []
sampled_of (start ∷ later) limit =
    if admits (Some start) limit
    then start ∷ sampled_of later (after_root (Some start) limit) else sampled_of later limit

-- By a clock that isn't set back, at most the maximum number of roots is sampled in each second.
abbrev pub AtMostInEachSecond : Type 0
AtMostInEachSecond = (maximum : ℕ) (starts : List ℕ) → NeverFall 0 starts → (second : ℕ)
    → count_by (λ start. second_of start == second) (sampled_of starts (new maximum)) ≤ maximum

-- ---- worked rows
two_a_second_example : sampled_of (1000000000 ∷ 1000000001 ∷ 1999999999 ∷ 2000000000 ∷ []) (new 2)
    ≡ 1000000000 ∷ 1000000001 ∷ 2000000000 ∷ []
two_a_second_example = refl

set_back_example : sampled_of (5000000000 ∷ 1000000000 ∷ 6000000000 ∷ []) (new 1)
    ≡ 5000000000 ∷ 6000000000 ∷ []
set_back_example = refl

none_example : sampled_of (1000000000 ∷ []) (new 0) ≡ []
none_example = refl
