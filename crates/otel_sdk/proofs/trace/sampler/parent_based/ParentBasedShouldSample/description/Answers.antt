use Rattle.otel_sdk.proofs.Outcomes.{weaken}
use Rattle.otel_sdk.proofs.trace.sampler.parent_based.ParentBasedShouldSample.description.Goals as goal

pub returns : goal.returns
returns g c = weaken _ _ (λ text e. (
  c.as_str.result.now,
  c.as_str-2.result.now,
  c.as_str-3.result.now,
  c.as_str-4.result.now,
  c.as_str-5.result.now,
  rw c.as_str.ensures.value c.in_ok-root.ensures,
  rw c.as_str-2.ensures.value c.in_ok-remote_on.ensures,
  rw c.as_str-3.ensures.value c.in_ok-remote_off.ensures,
  rw c.as_str-4.ensures.value c.in_ok-local_on.ensures,
  rw c.as_str-5.ensures.value c.in_ok-local_off.ensures,
  e,
)) c.joined.result c.joined.ensures
