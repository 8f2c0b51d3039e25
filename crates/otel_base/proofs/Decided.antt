-- A boolean that a test computes.
use Rattle.std.proofs.Common.{◌≡◌, Bool, subst}
use Rattle.std.specs.Bool.{Decides}

-- a boolean that equals the test decides the same proposition
pub decided : (P : Type 0) (test r : Bool) → test ≡ r → Decides test P → Decides r P
decided P test r e d = let D : Bool → Type 0 = λ b. Decides b P in subst D e d
