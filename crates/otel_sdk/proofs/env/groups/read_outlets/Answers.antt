use Rattle.otel_sdk.proofs.EnvLemmas.{then_more}
use Rattle.otel_sdk.proofs.env.groups.read_outlets.Goals as goal

pub returns-clause-warnings : goal.returns-clause-warnings
returns-clause-warnings c =
    let both = then_more _ _ _ c.exporter.new.warnings.items c.exporter-2.new.warnings.items c.in_ok-traces_exporter.ensures.warnings c.in_ok-logs_exporter.ensures.warnings in
    let otlp = then_more _ _ _ c.exporter-2.new.warnings.items c.read_destinations.new.warnings.items both c.in_ok-otlp.ensures.warnings in
    let time = then_more _ _ _ c.read_destinations.new.warnings.items c.timeout_millis.new.warnings.items otlp c.in_ok-otlp_timeout_millis.ensures.warnings in
    then_more _ _ _ c.timeout_millis.new.warnings.items c.warn_of_all.new.warnings.items time c.in_ok-warn_of_all.ensures
