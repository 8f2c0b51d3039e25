use Rattle.std.proofs.Common.{◌∙◌, sym, ap, option_copied}
use Rattle.std.specs.Prelude.{option_map}
use Rattle.otel_c.specs.TraceState.{key_at}
use Rattle.otel_c.proofs.Nth.{LentPair, nth_pair}
use Rattle.otel_c.proofs.trace_state.key_at.Goals as goal

pub returns-in_err-key : goal.returns-in_err-key
returns-in_err-key c =
    ap option_copied c.from_residual.ensures
    ∙ sym (ap (option_map (λ (p : LentPair). p.0.now)) c.in_err-key.was)
    ∙ nth_pair c.iter.result c.nth.new.self c.nth.result c.args.position c.nth.ensures.ran
    ∙ ap (λ l. key_at l c.args.position) c.iter.ensures.pairs

pub returns : goal.returns
returns c =
    sym (ap (option_map (λ (p : LentPair). p.0.now)) c.in_ok-key.was)
    ∙ nth_pair c.iter.result c.nth.new.self c.nth.result c.args.position c.nth.ensures.ran
    ∙ ap (λ l. key_at l c.args.position) c.iter.ensures.pairs
