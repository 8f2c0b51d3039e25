-- The first of several options.
use Rattle.std.proofs.Common.{◌≡◌, Option, None, Some, refl}
use Rattle.std.specs.Option.{option_or}

pub option_or-assoc : {A : Type 0} (a b c : Option A) → option_or (option_or a b) c ≡ option_or a (option_or b c)
option_or-assoc None b c = refl
option_or-assoc (Some x) b c = refl

pub option_or-none : {A : Type 0} (a : Option A) → option_or a None ≡ a
option_or-none None = refl
option_or-none (Some x) = refl
