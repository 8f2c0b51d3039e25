use Rattle.std.proofs.Common.{lit<, refl}
use Rattle.otel_ids.specs.Text.{is_equals}
use Rattle.otel_base.proofs.shared.Searches.{list_any_none}
use Rattle.otel_sdk.proofs.env.headers.shown.Goals as goal

pub returns-in-None : goal.returns-in-None
returns-in-None c = rw (list_any_none is_equals c.args.piece.now (c.in-None.ensures.byte (lit< tt) (λ w o f. f))) refl
