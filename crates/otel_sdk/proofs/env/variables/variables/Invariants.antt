-- The variables of the lines so far are read.
use Rattle.std.proofs.Common.{length, take}
use Rattle.std.specs.List.{flat_map}
use Rattle.std.specs.Str.Lines.{lines}
use Rattle.otel_sdk.specs.EnvTexts.{variables_of}
use Rattle.otel_sdk.specs.EnvVariables.{AreRead, name_in}
use Rattle.otel_sdk.proofs.env.variables.variables.Given as goal

abbrev pub invariant-loop-line : goal.invariant-loop-line
invariant-loop-line g l =
    AreRead g.R.VariableSource.may_be (flat_map name_in (take (length l.yielded) (lines l.help)))
    (variables_of l.vars.items)
