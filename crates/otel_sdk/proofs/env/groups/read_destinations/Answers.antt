use Rattle.otel_sdk.proofs.EnvLemmas.{then_more}
use Rattle.otel_sdk.proofs.env.groups.read_destinations.Goals as goal

pub returns-clause-warnings : goal.returns-clause-warnings
returns-clause-warnings c =
    then_more _ _ _ c.endpoint_faults.new.warnings.items c.warn_of_headers.new.warnings.items c.in_ok-faults.ensures.warnings c.in_ok-warn_of_headers.ensures

pub returns-clause-read : goal.returns-clause-read
returns-clause-read c = record {
  faults = c.in_ok-faults.ensures.faults;
  traces = c.in_ok-traces.ensures;
  logs = c.in_ok-logs.ensures;
}
