use Rattle.std.proofs.Common.{sym, ap, ◌∙◌}
use Rattle.std.specs.List.{list_any}
use Rattle.std.proofs.lemmas.Bool.{not-true}
use Rattle.otel_propagators.specs.BaggagePieces.{is_percent}
use Rattle.otel_propagators.proofs.PieceReads.{plain_value}
use Rattle.otel_propagators.proofs.baggage.reading.is_plain.Goals as goal

pub returns-clause-itself : goal.returns-clause-itself
returns-clause-itself c = λ t. plain_value c.args.value.now c.utf8.value (sym (c.contains.ensures.value ∙ ap (list_any is_percent) c.as_bytes.ensures.value) ∙ not-true c.contains.result t)
