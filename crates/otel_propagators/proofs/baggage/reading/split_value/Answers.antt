use Rattle.std.proofs.Common.{lit<}
use Rattle.otel_ids.specs.Text.{is_equals}
use Rattle.otel_base.proofs.shared.Searches.{list_any_none}
use Rattle.otel_propagators.proofs.baggage.reading.split_value.Goals as goal

pub returns-in_err-key : goal.returns-in_err-key
returns-in_err-key c = rw c.from_residual.ensures (list_any_none is_equals c.args.member.now (c.in_err-key.ensures.byte (lit< tt) (λ w o f. f)))
