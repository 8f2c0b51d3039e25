-- The variables left have the text of the name.
use Rattle.std.proofs.Common.{◌≡◌, drop}
use Rattle.otel_sdk.specs.EnvTexts as spec
use Rattle.otel_sdk.specs.EnvTexts.{variables_of}
use Rattle.otel_sdk.proofs.env.texts.text_of.Given as goal

abbrev pub invariant-loop-var : goal.invariant-loop-var
invariant-loop-var l =
    spec.text_of l.name (variables_of (drop l.var-index l.vars)) ≡ spec.text_of l.name (variables_of l.vars)
