-- What a warning about the text of an environment variable prints.
use Rattle.std.specs.Prelude.{◌≡◌, List, ℕ, ◌++◌, codes, Option, Some, refl}
use Rattle.std.specs.Fmt.{◌++?◌, debug_escape, debug_str, decimal}
use Rattle.otel_sdk.specs.EnvTexts.{warning}
use Rattle.otel_sdk.specs.declared.env.warning.EnvFault.{EnvFault}
use Rattle.otel_sdk.specs.declared.env.warning.EnvFault.TheVariants as fault
use Rattle.otel_sdk.specs.declared.env.warning.EnvWarning.{EnvWarning}
use Rattle.otel_sdk.specs.declared.env.warning.Instead.{Instead}
use Rattle.otel_sdk.specs.declared.env.warning.Instead.TheVariants as to

-- why a variable counts as unset
abbrev pub fault_text : EnvFault → List ℕ
fault_text fault.Length = codes "it has more than 65000 bytes"
fault_text fault.Url = codes "it isn't a URL with a host"
fault_text fault.Scheme = codes "its scheme isn't http or https"
fault_text fault.UserInfo = codes "it has user information"
fault_text fault.Query = codes "it has a query or a fragment"
fault_text fault.Unsupported = codes "it is not supported"

-- what counts instead
abbrev pub instead_text : Instead → List ℕ
instead_text (to.Number n) = decimal n ++ codes " counts instead"
instead_text to.NoLimit = codes "there is no limit"
instead_text to.Nothing = codes "it is left out"
instead_text to.False = codes "false counts instead"
instead_text to.ParentBasedAlwaysOn = codes "parentbased_always_on counts instead"
instead_text to.Otlp = codes "otlp counts instead"
instead_text to.HttpJson = codes "http/json counts instead"
instead_text to.W3cPropagators = codes "tracecontext,baggage counts instead"
instead_text (to.Unset fault) = fault_text fault ++ codes ", and counts as unset"

-- the variable's name, its text, quoted and escaped, and what counts instead; it says nothing of a
-- text that isn't ASCII
abbrev pub warning_text : EnvWarning → Option (List ℕ)
warning_text w =
    Some w.name ++? Some (codes " can't be ") ++? debug_str w.value
    ++? Some (codes ": ") ++? Some (instead_text w.instead)

-- ---- worked rows
quoted_example : warning_text (warning (codes "A") (codes "-1\"") to.NoLimit)
    ≡ Some (codes "A can't be \"-1\\\"\": there is no limit")
unfolding debug_escape
quoted_example = refl

unset_example : warning_text (warning (codes "E") (codes "a:1") (to.Unset fault.Scheme))
    ≡ Some (codes "E can't be \"a:1\": its scheme isn't http or https, and counts as unset")
unfolding debug_escape
unset_example = refl
