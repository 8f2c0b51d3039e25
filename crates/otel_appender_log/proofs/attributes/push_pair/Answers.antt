use Rattle.std.proofs.Common.{◌∙◌}
use Rattle.otel_appender_log.proofs.PairLemmas.{pushed}
use Rattle.otel_appender_log.proofs.attributes.push_pair.Goals as goal

pub returns-in_ok-push : goal.returns-in_ok-push
returns-in_ok-push g c = (
  _,
  c.in_ok-value.ensures,
  pushed c.args.pairs.now.items _ _ _ _ _ c.in-Some.is
      (c.from-key.ensures ∙ c.in_ok-from_str.ensures.ok) c.in_ok-push.ensures.items,
)
