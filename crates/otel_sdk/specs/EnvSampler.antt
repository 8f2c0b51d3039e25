-- The sampler that the environment names.
use Rattle.std.specs.Prelude.{◌≡◌, ℕ, Bool, not, ◌||◌, List, [], ◌∷◌, ◌++◌}
use Rattle.std.specs.Prelude.{Option, Some, None, is_some, codes, refl, to_bits, from_bits, nat_le}
use Rattle.std.specs.Prelude.{if◌then◌else◌}
use Rattle.std.specs.Float.{Float, binary64}
use Rattle.std.specs.Float.Parse.{parse_float}
use Rattle.std.specs.Option.{unwrap_or, option_and_then}
use Rattle.otel_sdk.specs.EnvTexts.{Variables, is_named, text_of, warned, warning}
use Rattle.otel_sdk.specs.Ratio.{one}
use Rattle.otel_sdk.specs.Sampler.{Asked, Answer, decision_of, parent_based, unchanged}
use Rattle.otel_sdk.specs.Sampler.{IsDescription, DescribesParentBased}
use Rattle.otel_sdk.specs.declared.env.sampler.EnvSampler.{EnvSampler}
use Rattle.otel_sdk.specs.declared.env.sampler.EnvSampler.TheVariants.{Plain, ParentBased}
use Rattle.otel_sdk.specs.declared.env.warning.EnvWarning.{EnvWarning}
use Rattle.otel_sdk.specs.declared.env.warning.Instead.TheVariants.{Number, ParentBasedAlwaysOn}
use Rattle.otel_sdk.specs.declared.trace.sampler.Sampler.{Sampler}
use Rattle.otel_sdk.specs.declared.trace.sampler.Sampler.TheVariants.{AlwaysOn, AlwaysOff}
use Rattle.otel_sdk.specs.declared.trace.sampler.Sampler.TheVariants.{TraceIdRatioBased}

-- ---- what it answers

-- the answer of the sampler with that decision
abbrev pub plain_answer : Sampler → Asked → Answer
plain_answer sampler asked = unchanged (decision_of sampler asked.trace_id) asked

-- the sampler's answer; one that follows the parent asks its sampler only about a root
abbrev pub answer_of : EnvSampler → Asked → Answer
answer_of (Plain sampler) = plain_answer sampler
answer_of (ParentBased root) = parent_based (plain_answer root) (plain_answer AlwaysOn)
    (plain_answer AlwaysOff) (plain_answer AlwaysOn) (plain_answer AlwaysOff)

-- the text describes the sampler
abbrev pub Describes : EnvSampler → List ℕ → Type 0
Describes (Plain sampler) = IsDescription sampler
Describes (ParentBased root) = DescribesParentBased (IsDescription root) (IsDescription AlwaysOn)
    (IsDescription AlwaysOff) (IsDescription AlwaysOn) (IsDescription AlwaysOff)

-- ---- how it is read

-- the float 1
abbrev pub all : Float
all = from_bits binary64 one

-- the float, if it is from 0 to 1 and has no sign
abbrev pub as_ratio : Float → Option Float
as_ratio x = if nat_le (to_bits binary64 x) one then Some x else None

-- the ratio that the text denotes
abbrev pub ratio : List ℕ → Option Float
ratio text = option_and_then as_ratio (parse_float binary64 text)

-- whether the name is of a sampler with a ratio
abbrev pub takes_ratio : List ℕ → Bool
takes_ratio name =
    is_named name (codes "traceidratio") || is_named name (codes "parentbased_traceidratio")

-- the sampler of the name, in any case, with the ratio
abbrev pub named : List ℕ → Float → Option EnvSampler
named name share =
    if is_named name (codes "always_on") then Some (Plain AlwaysOn)
    else (if is_named name (codes "always_off") then Some (Plain AlwaysOff)
    else (if is_named name (codes "traceidratio") then Some (Plain (TraceIdRatioBased share))
    else (if is_named name (codes "parentbased_always_on") then Some (ParentBased AlwaysOn)
    else (if is_named name (codes "parentbased_always_off") then Some (ParentBased AlwaysOff)
    else (if is_named name (codes "parentbased_traceidratio")
    then Some (ParentBased (TraceIdRatioBased share)) else None)))))

-- the texts of the name and of its argument
abbrev pub name_text : Variables → List ℕ
name_text vars = text_of (codes "OTEL_TRACES_SAMPLER") vars

abbrev pub arg_text : Variables → List ℕ
arg_text vars = text_of (codes "OTEL_TRACES_SAMPLER_ARG") vars

-- the sampler of the two texts: of all traces whose parent, if there is one, is sampled if no
-- sampler has the name, and of all traces if the argument isn't a ratio
abbrev pub sampler_in : List ℕ → List ℕ → EnvSampler
sampler_in name arg = unwrap_or (named name (unwrap_or (ratio arg) all)) (ParentBased AlwaysOn)

-- the sampler of `OTEL_TRACES_SAMPLER` and `OTEL_TRACES_SAMPLER_ARG`
abbrev pub sampler : Variables → EnvSampler
sampler vars = sampler_in (name_text vars) (arg_text vars)

-- the warnings about both; the argument of a sampler without a ratio doesn't matter
abbrev pub warnings_in : List ℕ → List ℕ → List EnvWarning
warnings_in name arg =
    warned (is_some (named name (unwrap_or (ratio arg) all)))
    (codes "OTEL_TRACES_SAMPLER") name ParentBasedAlwaysOn
    ++ warned (not (takes_ratio name) || is_some (ratio arg))
    (codes "OTEL_TRACES_SAMPLER_ARG") arg (Number 1)

abbrev pub sampler_warnings : Variables → List EnvWarning
sampler_warnings vars = warnings_in (name_text vars) (arg_text vars)

-- ---- worked rows
unset_example : (sampler [] ≡ ParentBased AlwaysOn) × (sampler_warnings [] ≡ [])
unset_example = (refl, refl)

abbrev name_warning : List ℕ → List EnvWarning
name_warning text = warning (codes "OTEL_TRACES_SAMPLER") text ParentBasedAlwaysOn ∷ []

case_example : (sampler_in (codes "ALWAYS_OFF") [] ≡ Plain AlwaysOff)
    × (warnings_in (codes "ALWAYS_OFF") [] ≡ [])
case_example = (refl, refl)

unknown_example : (sampler_in (codes "sometimes") [] ≡ ParentBased AlwaysOn)
    × (warnings_in (codes "sometimes") [] ≡ name_warning (codes "sometimes"))
unknown_example = (refl, refl)
