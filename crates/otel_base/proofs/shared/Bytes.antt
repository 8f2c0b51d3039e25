-- Whether two texts are equal.
use Rattle.std.proofs.Common.{◌≡◌, ◌≢◌, ℕ, List, true, false, refl, ◌∙◌}
use Rattle.std.specs.Cmp.Lexicographic.{nat_list_eq_equiv}
use Rattle.std.specs.Str.{bytes_eq}
use Rattle.std.proofs.lemmas.Slice.Eq.{bytes_eq-Decides}

pub bytes_eq-sym : (x y : List ℕ) → bytes_eq x y ≡ bytes_eq y x
bytes_eq-sym x y = nat_list_eq_equiv.symm x y

pub turned : (x y : List ℕ) → bytes_eq x y ≡ false → bytes_eq y x ≡ false
turned x y h = bytes_eq-sym y x ∙ h

pub differs : (x y : List ℕ) → x ≢ y → bytes_eq x y ≡ false
differs x y h = elim (bytes_eq x y) as (λ b. bytes_eq x y ≡ b → b ≡ false) [
  | true ↦ λ is. absurd (h ((bytes_eq-Decides x y).0 is))
  | false ↦ λ is. refl
] refl
