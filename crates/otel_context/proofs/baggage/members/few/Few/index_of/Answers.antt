use Rattle.std.proofs.Common.{ap, ◌∙◌, position}
use Rattle.std.specs.Str.{bytes_eq}
use Rattle.otel_context.proofs.BaggageStores.{position_on_keys}
use Rattle.otel_context.proofs.baggage.members.few.Few.index_of.Goals as goal

pub returns : goal.returns
returns c =
    c.walk.ensures
    ∙ ap (λ l. position (λ e. bytes_eq c.args.key.now e.0) l) (c.deref.ensures.value ∙ c.self.view_is)
    ∙ position_on_keys (bytes_eq c.args.key.now) c.args.self.now
