use Rattle.otel_appender_log.proofs.ValueLemmas.{null_value, bool_value}
use Rattle.otel_appender_log.proofs.value.attribute_value.Goals as goal

pub returns-in-Null : goal.returns-in-Null
returns-in-Null g c = null_value _ _ c.in-Null.is

pub returns-in-Bool : goal.returns-in-Bool
returns-in-Bool g c = bool_value _ _ _ _ c.in-Bool.is c.from.ensures
