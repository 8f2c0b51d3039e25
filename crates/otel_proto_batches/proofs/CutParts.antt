-- A count to which no part is added.
use Rattle.std.proofs.Common.{◌≡◌, ℕ, ◌<◌, arith}
use Rattle.std.proofs.lemmas.Grind.{common_steps}
use Rattle.otel_sdk_base.specs.Attributes.{up_by}

pub up_by_zero : (c : ℕ) → c < 4294967296 → up_by c 0 ≡ c
up_by_zero c h = grind (arith, common_steps)
