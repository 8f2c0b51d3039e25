use Rattle.std.proofs.Common.{sym, ap, ◌∙◌}
use Rattle.std.specs.Option.{option_copied}
use Rattle.otel_context.specs.Baggage.{get_with_metadata}
use Rattle.otel_context.proofs.shared.BaggagePuts.{found_pair, not_found}
use Rattle.otel_context.proofs.baggage.Baggage.get_with_metadata.Goals as goal

pub returns-in_err-index : goal.returns-in_err-index
returns-in_err-index c =
    ap option_copied c.from_residual.ensures
    ∙ sym (not_found c.self.inside.inner c.args.key.now (sym c.index_of.ensures ∙ c.in_err-index.was))
    ∙ ap (λ l. get_with_metadata l c.args.key.now) c.self.view_is

pub returns : goal.returns
returns c =
    c.pair_at.ensures
    ∙ found_pair c.self.inside.inner c.args.key.now c.in_ok-index.index (sym c.index_of.ensures ∙ c.in_ok-index.was)
    ∙ ap (λ l. get_with_metadata l c.args.key.now) c.self.view_is
