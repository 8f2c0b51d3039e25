use Rattle.std.proofs.Common.{rules, sym, ◌∙◌}
use Rattle.std.proofs.lemmas.Int.{ints}
use Rattle.otel_appender_log.proofs.ValueLemmas.{number_value}
use Rattle.otel_appender_log.proofs.value.number_or_text.Goals as goal

pub returns-in-Some : goal.returns-in-Some
returns-in-Some g c =
    number_value g.D.Display.output c.args.value.now _ _ (sym c.in-Some.is ∙ c.to_i64.ensures) (search (rules, ints))
