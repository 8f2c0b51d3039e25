use Rattle.otel_otlp.proofs.Tokens.{last_token, whole_list}
use Rattle.otel_otlp.proofs.groups.put_items.Goals as goal

pub returns : goal.returns
returns g c =
    last_token c.end_array.result c.end_array.ensures (whole_list c.in_ok-begin_list.ensures c.in_ok-values.ensures)
