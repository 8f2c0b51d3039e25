use Rattle.std.proofs.Common.{◌≡◌, ℕ, List, Bool, ◌++◌, subst, codes}
use Rattle.otel_sdk.specs.EnvExport.{is_switch}
use Rattle.otel_sdk.specs.EnvTexts.{warned}
use Rattle.otel_sdk.specs.declared.env.warning.Instead.TheVariants.{False}
use Rattle.otel_sdk.proofs.env.export.is_disabled.Goals as goal

pub returns-clause-warnings : goal.returns-clause-warnings
returns-clause-warnings c =
    let old = c.args.warnings.now.items in
    let new = c.warn.new.warnings.items in
    let name = codes "OTEL_SDK_DISABLED" in
    let switch = subst (λ (b : Bool). new ≡ old ++ warned b name c.text_of-text.result.now False) c.is_switch.ensures c.in_ok-warn.ensures in
    subst (λ (t : List ℕ). new ≡ old ++ warned (is_switch t) name t False) c.text_of-text.ensures switch
