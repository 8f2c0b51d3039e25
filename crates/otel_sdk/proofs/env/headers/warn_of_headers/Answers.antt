use Rattle.std.proofs.Common.{◌≡◌, ◌++◌, List, ℕ, codes, subst}
use Rattle.otel_sdk.specs.EnvHeaders.{text_warnings}
use Rattle.otel_sdk.proofs.EnvLemmas.{then_more}
use Rattle.otel_sdk.proofs.env.headers.warn_of_headers.Goals as goal

pub returns : goal.returns
returns c =
    let one = subst (λ (t : List ℕ). c.warn_of_list.new.warnings.items ≡ c.args.warnings.now.items ++ text_warnings (codes "OTEL_EXPORTER_OTLP_HEADERS") t) c.text_of.ensures c.in_ok-warn_of_list.ensures in
    let two = subst (λ (t : List ℕ). c.warn_of_list-2.new.warnings.items ≡ c.warn_of_list.new.warnings.items ++ text_warnings (codes "OTEL_EXPORTER_OTLP_TRACES_HEADERS") t) c.text_of-2.ensures c.in_ok-warn_of_list-2.ensures in
    let three = subst (λ (t : List ℕ). c.warn_of_list-3.new.warnings.items ≡ c.warn_of_list-2.new.warnings.items ++ text_warnings (codes "OTEL_EXPORTER_OTLP_LOGS_HEADERS") t) c.text_of-3.ensures c.in_ok-warn_of_list-3.ensures in
    let both = then_more _ _ _ c.warn_of_list.new.warnings.items c.warn_of_list-2.new.warnings.items one two in
    then_more _ _ _ c.warn_of_list-2.new.warnings.items c.warn_of_list-3.new.warnings.items both three
