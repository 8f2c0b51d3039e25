-- Texts that grow at their end.
use Rattle.std.proofs.Common.{◌≡◌, ℕ, ◌+◌, ◌<◌, List, [], ◌∷◌, ◌++◌, length, map, take, get_or, sym, ap, ◌∙◌, append_assoc}
use Rattle.std.specs.Prelude.{Option, Some, None, Result, Ok, Err, OnOk}
use Rattle.std.specs.List.{flat_map}
use Rattle.std.specs.Option.{option_map_or}
use Rattle.std.proofs.lemmas.Grind.{flat_map-append}
use Rattle.std.proofs.lemmas.List.{append-nil, map-append, take_more}

-- one more item of a loop
more : {B : Type 0} (f : B → List ℕ) (ys : List B) (y : B) (t₀ t u : List ℕ) → t ≡ t₀ ++ flat_map f ys → u ≡ t ++ f y → u ≡ t₀ ++ flat_map f (ys ++ y ∷ [])
more f ys y t₀ t u so_far grown =
    grown ∙ ap (λ (l : List ℕ). l ++ f y) so_far ∙ append_assoc t₀ (flat_map f ys) (f y)
    ∙ ap (λ (l : List ℕ). t₀ ++ l) (ap (λ (l : List ℕ). flat_map f ys ++ l) (sym (append-nil (f y))) ∙ sym (flat_map-append f ys (y ∷ [])))

pub plain_turn : {B : Type 0} (f : B → List ℕ) (xs : List B) (i : ℕ) (d : B) (t₀ t u : List ℕ) → i < length xs
    → t ≡ t₀ ++ flat_map f (take i xs) → u ≡ t ++ f (get_or xs i d) → u ≡ t₀ ++ flat_map f (take (i + 1) xs)
plain_turn f xs i d t₀ t u below so_far grown =
    more f (take i xs) (get_or xs i d) t₀ t u so_far grown ∙ ap (λ l. t₀ ++ flat_map f l) (sym (take_more xs i d below))

pub mapped_turn : {A B : Type 0} (f : B → List ℕ) (g : A → B) (xs : List A) (i : ℕ) (x : A) (t₀ t u : List ℕ) → i < length xs → x ≡ get_or xs i x
    → t ≡ t₀ ++ flat_map f (map g (take i xs)) → u ≡ t ++ f (g x) → u ≡ t₀ ++ flat_map f (map g (take (i + 1) xs))
mapped_turn f g xs i x t₀ t u below at so_far grown =
    more f (map g (take i xs)) (g x) t₀ t u so_far grown
    ∙ ap (λ l. t₀ ++ flat_map f l)
    (sym (map-append g (take i xs) (x ∷ [])) ∙ ap (λ y. map g (take i xs ++ y ∷ [])) at ∙ ap (map g) (sym (take_more xs i x below)))

-- the text of an item that is there, and of one that isn't
pub some_of : {A : Type 0} (f : A → List ℕ) (o : Option A) (x : A) → o ≡ Some x → option_map_or f o [] ≡ f x
some_of f o x e = ap (λ p. option_map_or f p []) e

pub none_of : {A : Type 0} (f : A → List ℕ) (o : Option A) → o ≡ None → option_map_or f o [] ≡ []
none_of f o e = ap (λ p. option_map_or f p []) e

-- ---- parts of a text, one after another
join : (a b t₀ t₁ t₂ : List ℕ) → t₁ ≡ t₀ ++ a → t₂ ≡ t₁ ++ b → t₂ ≡ t₀ ++ (a ++ b)
join a b t₀ t₁ t₂ first then = then ∙ ap (λ (l : List ℕ). l ++ b) first ∙ append_assoc t₀ a b

pub chain3 : (a b c t₀ t₁ t₂ t₃ : List ℕ) → t₁ ≡ t₀ ++ a → t₂ ≡ t₁ ++ b → t₃ ≡ t₂ ++ c → t₃ ≡ t₀ ++ (a ++ (b ++ c))
chain3 a b c t₀ t₁ t₂ t₃ e₁ e₂ e₃ = join a (b ++ c) t₀ t₁ t₃ e₁ (join b c t₁ t₂ t₃ e₂ e₃)

pub chain4 : (a b c d t₀ t₁ t₂ t₃ t₄ : List ℕ) → t₁ ≡ t₀ ++ a → t₂ ≡ t₁ ++ b → t₃ ≡ t₂ ++ c → t₄ ≡ t₃ ++ d → t₄ ≡ t₀ ++ (a ++ (b ++ (c ++ d)))
chain4 a b c d t₀ t₁ t₂ t₃ t₄ e₁ e₂ e₃ e₄ = join a (b ++ (c ++ d)) t₀ t₁ t₄ e₁ (chain3 b c d t₁ t₂ t₃ t₄ e₂ e₃ e₄)

pub chain5 : (a b c d e t₀ t₁ t₂ t₃ t₄ t₅ : List ℕ) → t₁ ≡ t₀ ++ a → t₂ ≡ t₁ ++ b → t₃ ≡ t₂ ++ c → t₄ ≡ t₃ ++ d → t₅ ≡ t₄ ++ e → t₅ ≡ t₀ ++ (a ++ (b ++ (c ++ (d ++ e))))
chain5 a b c d e t₀ t₁ t₂ t₃ t₄ t₅ e₁ e₂ e₃ e₄ e₅ = join a (b ++ (c ++ (d ++ e))) t₀ t₁ t₅ e₁ (chain4 b c d e t₁ t₂ t₃ t₄ t₅ e₂ e₃ e₄ e₅)

pub chain6 : (a b c d e f t₀ t₁ t₂ t₃ t₄ t₅ t₆ : List ℕ) → t₁ ≡ t₀ ++ a → t₂ ≡ t₁ ++ b → t₃ ≡ t₂ ++ c → t₄ ≡ t₃ ++ d → t₅ ≡ t₄ ++ e → t₆ ≡ t₅ ++ f → t₆ ≡ t₀ ++ (a ++ (b ++ (c ++ (d ++ (e ++ f)))))
chain6 a b c d e f t₀ t₁ t₂ t₃ t₄ t₅ t₆ e₁ e₂ e₃ e₄ e₅ e₆ = join a (b ++ (c ++ (d ++ (e ++ f)))) t₀ t₁ t₆ e₁ (chain5 b c d e f t₁ t₂ t₃ t₄ t₅ t₆ e₂ e₃ e₄ e₅ e₆)

pub chain7 : (a b c d e f g t₀ t₁ t₂ t₃ t₄ t₅ t₆ t₇ : List ℕ) → t₁ ≡ t₀ ++ a → t₂ ≡ t₁ ++ b → t₃ ≡ t₂ ++ c → t₄ ≡ t₃ ++ d → t₅ ≡ t₄ ++ e → t₆ ≡ t₅ ++ f → t₇ ≡ t₆ ++ g → t₇ ≡ t₀ ++ (a ++ (b ++ (c ++ (d ++ (e ++ (f ++ g))))))
chain7 a b c d e f g t₀ t₁ t₂ t₃ t₄ t₅ t₆ t₇ e₁ e₂ e₃ e₄ e₅ e₆ e₇ = join a (b ++ (c ++ (d ++ (e ++ (f ++ g))))) t₀ t₁ t₇ e₁ (chain6 b c d e f g t₁ t₂ t₃ t₄ t₅ t₆ t₇ e₂ e₃ e₄ e₅ e₆ e₇)

-- the same part in other words
pub says : {X E : Type 0} (r : Result X E) (old t u new : List ℕ) → t ≡ u → OnOk r (new ≡ old ++ t) → OnOk r (new ≡ old ++ u)
says (Ok x) old t u new e p = p ∙ ap (λ (l : List ℕ). old ++ l) e
says (Err x) old t u new e p = tt
