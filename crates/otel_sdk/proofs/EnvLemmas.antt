-- Numbers in the texts of environment variables, and warnings in turn.
use Rattle.std.proofs.Common.{◌≡◌, ℕ, ◌+◌, ◌<◌, ◌≤◌, ◌^◌, true, cond, List, [], ◌++◌, length, drop, take, fold, get_or, Some, None, sym, ap, ◌∙◌, arith, rules, string_bytes, append_assoc}
use Rattle.std.specs.Prelude.{◌&&◌, nat_le, nat_lt, not}
use Rattle.std.specs.Str.{bytes_eq}
use Rattle.std.specs.Str.Parse.{digits_value}
use Rattle.std.specs.declared.string.String.{String}
use Rattle.std.proofs.lemmas.Bool.{cond-true, cond-false, and_from, and_parts, false_from_ne_true, ne_eqb, leb-true, le-leb, lt-ltb, ltb-true}
use Rattle.std.proofs.lemmas.Str.Parse.{IsNumeralModel, numerals_by_value}
use Rattle.std.specs.List.{flat_map}
use Rattle.std.proofs.lemmas.List.{take_all}
use Rattle.otel_base.proofs.shared.Steps.{next_element, fold-take_more, flat_map-take_more}
use Rattle.otel_base.specs.Blanks.{cut_blanks}
use Rattle.otel_sdk.specs.EnvPropagators.{with_piece}
use Rattle.otel_sdk.specs.declared.env.propagators.EnvPropagator.{EnvPropagator}
use Rattle.otel_sdk.specs.EnvTexts.{variables_of, text_of, number, is_number, has_digits, is_in_range, is_unset}

-- one turn of the search for a name
pub text_at : {A : Type 0} (name : List ℕ) (vs : List (String A × String A)) (n : ℕ) (v : String A × String A)
    → (n < length vs) × (v ≡ get_or vs n v)
    → text_of name (variables_of (drop n vs))
    ≡ cond (bytes_eq (string_bytes v.0) name) (cut_blanks (string_bytes v.1)) (text_of name (variables_of (drop (n + 1) vs)))
text_at {A} name vs n v turn = ap (λ (l : List (String A × String A)). text_of name (variables_of l)) (next_element vs n v turn)

-- ---- numbers
pub own : IsNumeralModel (λ ds. has_digits ds ≡ true) (digits_value 10)
own = numerals_by_value _ (search rules)

-- what a number in range is
pub record IsIn (least : ℕ) (t : List ℕ) : Type 0 where
  pub some : 0 < length t
  pub digits : has_digits t ≡ true
  pub enough : least ≤ digits_value 10 t
  pub fits : digits_value 10 t < 2 ^ 32

pub to_number : (least : ℕ) (t : List ℕ) → IsIn least t → is_number least t ≡ true
to_number least t h =
    let v = digits_value 10 t in
    and_from (not (is_unset t) && has_digits t) (is_in_range least v)
    (and_from (not (is_unset t)) (has_digits t) (ap not (ne_eqb (length t) 0 (λ e. omega (arith, e, h.some)))) h.digits)
    (and_from (nat_le least v) (nat_lt v (2 ^ 32)) (le-leb least v h.enough) (lt-ltb v (2 ^ 32) h.fits))

pub from_number : (least : ℕ) (t : List ℕ) → is_number least t ≡ true → IsIn least t
from_number least t h =
    let v = digits_value 10 t in
    let outer = and_parts (not (is_unset t) && has_digits t) (is_in_range least v) h in
    let inner = and_parts (not (is_unset t)) (has_digits t) outer.0 in
    let range = and_parts (nat_le least v) (nat_lt v (2 ^ 32)) outer.1 in
    record {
      some = grind (arith, inner.0);
      digits = inner.1;
      enough = leb-true least v range.0;
      fits = ltb-true v (2 ^ 32) range.1;
    }

pub number_is : (least n : ℕ) (t : List ℕ) → n ≡ digits_value 10 t → IsIn least t → Some n ≡ number least t
number_is least n t e h =
    ap Some e ∙ sym (cond-true (is_number least t) (Some (digits_value 10 t)) None (to_number least t h))

pub no_number : (least : ℕ) (t : List ℕ) → (IsIn least t → ⊥) → None ≡ number least t
no_number least t h =
    sym (cond-false (is_number least t) (Some (digits_value 10 t)) None
    (false_from_ne_true (is_number least t) (λ e. h (from_number least t e))))

-- ---- warnings
pub then_more : {X : Type 0} (old a b x y : List X) → x ≡ old ++ a → y ≡ x ++ b → y ≡ old ++ (a ++ b)
then_more old a b x y h k = k ∙ ap (λ (l : List _). l ++ b) h ∙ append_assoc old a b

-- ---- pieces
pub piece_more : (ps : List (List ℕ)) (n k : ℕ) (piece : List ℕ) (known more : List EnvPropagator) → k ≡ n + 1
    → (n < length ps) × (piece ≡ get_or ps n piece) → more ≡ with_piece known piece → known ≡ fold with_piece [] (take n ps)
    → more ≡ fold with_piece [] (take k ps)
piece_more ps n k piece known more next turn step h =
    step ∙ ap (λ (l : List EnvPropagator). with_piece l piece) h ∙ sym (fold-take_more with_piece [] ps n piece turn.0 turn.1)
    ∙ ap (λ (i : ℕ). fold with_piece [] (take i ps)) (sym next)

pub warned_more : {X Y : Type 0} (f : X → List Y) (ps : List X) (n k : ℕ) (piece : X) (old ws more : List Y) → k ≡ n + 1
    → (n < length ps) × (piece ≡ get_or ps n piece) → more ≡ ws ++ f piece → ws ≡ old ++ flat_map f (take n ps)
    → more ≡ old ++ flat_map f (take k ps)
warned_more f ps n k piece old ws more next turn step h =
    then_more old (flat_map f (take n ps)) (f piece) ws more h step
    ∙ ap (λ (l : List _). old ++ l) (sym (flat_map-take_more f ps n piece turn.0 turn.1) ∙ ap (λ (i : ℕ). flat_map f (take i ps)) (sym next))

pub warned_all : {X Y : Type 0} (f : X → List Y) (ps : List X) (n : ℕ) (old ws : List Y) → length ps ≤ n
    → ws ≡ old ++ flat_map f (take n ps) → ws ≡ old ++ flat_map f ps
warned_all f ps n old ws h is = is ∙ ap (λ (l : List _). old ++ flat_map f l) (take_all n ps h)

-- the same for any chain of steps
pub folded_more : {A X : Type 0} (f : List A → X → List A) (ps : List X) (n k : ℕ) (piece : X) (known more : List A) → k ≡ n + 1
    → (n < length ps) × (piece ≡ get_or ps n piece) → more ≡ f known piece → known ≡ fold f [] (take n ps) → more ≡ fold f [] (take k ps)
folded_more f ps n k piece known more next turn step h =
    step ∙ ap (λ (l : List _). f l piece) h ∙ sym (fold-take_more f [] ps n piece turn.0 turn.1) ∙ ap (λ (i : ℕ). fold f [] (take i ps)) (sym next)
