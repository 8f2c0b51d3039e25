-- The messages of attributes, and of a target after them.
use Rattle.std.proofs.Common.{◌≡◌, ℕ, List, [], ◌∷◌, ◌++◌, refl, ap}
use Rattle.otel_proto.specs.Wire.{Field}
use Rattle.otel_proto.specs.Written.{message, messages}

-- the messages of elements before others
pub messages_both : {A : Type 0} (number : ℕ) (f : A → List Field) (xs ys : List A) → messages number f xs ++ messages number f ys ≡ messages number f (xs ++ ys)
messages_both number f [] ys = refl
messages_both number f (x ∷ xs) ys = ap (λ fs. message number (f x) ∷ fs) (messages_both number f xs ys)
