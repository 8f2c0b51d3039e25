-- The consequences of a given value.
use Rattle.std.proofs.Common.{Result, Ok, Err, IfOk}

pub weaken : {T E : Type 0} (P Q : T → Type 0) → ((x : T) → P x → Q x)
    → (r : Result T E) → IfOk r P → IfOk r Q
weaken P Q f (Ok x) h = f x h
weaken P Q f (Err e) h = h
