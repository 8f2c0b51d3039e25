-- The variables of the names so far were warned about.
use Rattle.std.proofs.Common.{◌≡◌, ◌++◌, length, take}
use Rattle.std.specs.List.{flat_map}
use Rattle.std.specs.Str.Lines.{lines}
use Rattle.otel_sdk.specs.EnvTexts.{variables_of}
use Rattle.otel_sdk.specs.EnvUnsupported as spec
use Rattle.otel_sdk.proofs.env.unsupported.warn_of_variables.Given as goal

abbrev pub invariant-loop-name : goal.invariant-loop-name
invariant-loop-name l =
    l.warnings.items ≡ l.initial.warnings.items
    ++ flat_map (spec.variable_warnings (variables_of l.vars)) (take (length l.yielded) (lines l.names))
