use Rattle.otel_sdk.proofs.RateLemmas.{law}
use Rattle.otel_sdk.proofs.trace.sampler.laws.rates_are_limited.Goals as goal

pub returns : goal.returns
returns c = law
