-- The sampler that follows the parent's decision.
use Rattle.std.specs.Prelude.{◌≡◌, ℕ, List, string_bytes}
use Rattle.std.specs.declared.string.String.{String}
use Rattle.otel_sdk.specs.Sampler.{parent_based_text}
use Rattle.otel_sdk.specs.declared.trace.sampler.Sampler.{Sampler}
use Rattle.otel_sdk.specs.declared.trace.sampler.Sampler.TheVariants.{AlwaysOn, AlwaysOff}
use Rattle.otel_sdk.specs.declared.trace.sampler.parent_based.ParentBased.{ParentBased}

-- the sampler that asks `root` for a root, and samples any other span if its parent is sampled
-- [OpenTelemetry trace SDK, "ParentBased"]
abbrev pub after_parent : {Root : Type 0} → Root → ParentBased Root Sampler Sampler Sampler Sampler
after_parent root = record {
  root = root;
  remote_parent_sampled = AlwaysOn;
  remote_parent_not_sampled = AlwaysOff;
  local_parent_sampled = AlwaysOn;
  local_parent_not_sampled = AlwaysOff;
}

-- the text is the description made from descriptions of the five samplers
abbrev pub IsParentBasedText : {A : Type 0} → List ℕ → List ℕ → List ℕ → List ℕ → List ℕ
    → String A → Type 0
IsParentBasedText root remote_on remote_off local_on local_off text =
    string_bytes text ≡ parent_based_text root remote_on remote_off local_on local_off
