use Rattle.std.proofs.Common.{◌≡◌, ◌++◌, List, ap, ◌∙◌}
use Rattle.otel_sdk.specs.EnvConfig.{config_of, env_config, joined, choice_warnings, limits_warnings, outlet_warnings}
use Rattle.otel_sdk.specs.EnvTexts.{variables_of}
use Rattle.otel_sdk.specs.declared.env.warning.EnvWarning.{EnvWarning}
use Rattle.otel_sdk.proofs.env.EnvConfig.from_vars.Goals as goal

pub returns : goal.returns
returns c =
    let vars = variables_of c.args.vars.now in
    let faults = c.in_ok-outlets.outlets.otlp.faults in
    let one : c.read_choices.new.warnings.items ≡ choice_warnings vars =
    c.in_ok-choices.ensures.warnings ∙ ap (λ (l : List EnvWarning). l ++ choice_warnings vars) c.new-warnings.ensures.items in
    let two = c.in_ok-limits.ensures.warnings ∙ ap (λ (l : List EnvWarning). l ++ limits_warnings vars) one in
    let three = c.in_ok-outlets.ensures.warnings ∙ ap (λ (l : List EnvWarning). l ++ outlet_warnings faults vars) two in
    let same : config_of (joined c.in_ok-choices.choices c.in_ok-limits.limits c.in_ok-outlets.outlets c.read_outlets.new.warnings) ≡ env_config faults vars = λ i. record {
      is_disabled = c.in_ok-choices.ensures.disabled i;
      service_name = c.in_ok-choices.ensures.service i;
      resource_attributes = c.in_ok-choices.ensures.resource i;
      propagators = c.in_ok-choices.ensures.propagators i;
      sampler = c.in_ok-choices.ensures.sampler i;
      span_limits = c.in_ok-limits.ensures.spans i;
      log_limits = c.in_ok-limits.ensures.logs i;
      span_batches = c.in_ok-limits.ensures.span_batches i;
      log_batches = c.in_ok-limits.ensures.log_batches i;
      traces_exporter = c.in_ok-outlets.ensures.traces i;
      logs_exporter = c.in_ok-outlets.ensures.logs i;
      otlp_traces = c.in_ok-outlets.ensures.otlp.traces i;
      otlp_logs = c.in_ok-outlets.ensures.otlp.logs i;
      otlp_timeout_millis = c.in_ok-outlets.ensures.timeout i;
      warnings = three i;
    } in
    (faults, c.in_ok-outlets.ensures.otlp.faults, ap config_of c.joined.ensures ∙ same)
