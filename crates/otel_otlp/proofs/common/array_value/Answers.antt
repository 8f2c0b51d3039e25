use Rattle.otel_otlp.proofs.Tokens.{last, whole_values}
use Rattle.otel_otlp.proofs.common.array_value.Goals as goal

pub returns : goal.returns
returns c =
    last c.end_values.result c.end_values.ensures (whole_values c.in_ok-begin_values.ensures c.in_ok-array_values.ensures)
