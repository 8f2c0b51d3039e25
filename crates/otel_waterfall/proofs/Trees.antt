-- The rows of a tree.
use Rattle.std.proofs.Common.{◌≡◌, ℕ, zero, suc, ◌+◌, ◌-◌, ◌<◌, ◌≤◌, List, [], ◌∷◌, ◌++◌, length, reverse, refl, sym, ap, ◌∙◌, arith, subst}
use Rattle.std.specs.Prelude.{All}
use Rattle.std.proofs.lemmas.List.{append-nil, nil_from_length, reverse-append, reverse-reverse}
use Rattle.std.proofs.lemmas.List.Elements.{All-append, All-cons, All-nil, All-tail, All-weaker}
use Rattle.std.proofs.lemmas.List.Sorted.{All-permutation, IsPermutation-reverse}
use Rattle.otel_waterfall.specs.Rows.{Progress, draw, draw_tree, draw_waiting, siblings, undrawn}
use Rattle.otel_waterfall.specs.declared.rows.Node.{Node}
use Rattle.otel_waterfall.specs.declared.rows.Parent.{Parent}
use Rattle.otel_waterfall.specs.declared.rows.Parent.TheVariants as parent
use Rattle.otel_waterfall.specs.declared.rows.Row.{Row}
use Rattle.otel_waterfall.specs.declared.rows.Row.TheVariants.{Span}
use Rattle.otel_waterfall.specs.declared.rows.Waiting.{Waiting}

-- ---- the order of waiting rows
turned : (ws old xs : List Waiting) → ws ≡ old ++ reverse xs → reverse ws ≡ xs ++ reverse old
turned ws old xs e = ap reverse e ∙ reverse-append old (reverse xs) ∙ ap (λ (ys : List Waiting). ys ++ reverse old) (reverse-reverse xs)

module _ (count : ℕ) (children : Parent → List Node) where
  pub tree_start : (top : Row) (above : Parent) (a b : Progress) (none ws : List Waiting) → b ≡ draw top a → none ≡ []
      → ws ≡ none ++ reverse (siblings 1 (undrawn b (children above)))
      → draw_waiting count children (count - 0) (reverse ws) b ≡ draw_tree count children top above a
  tree_start top above a b none ws drawn empty pushed =
      ap (λ (n : ℕ). draw_waiting count children n (reverse ws) b) (let e : count - 0 ≡ count = omega arith in e)
      ∙ ap (λ (xs : List Waiting). draw_waiting count children count xs b)
      (turned ws none (siblings 1 (undrawn b (children above))) pushed
      ∙ ap (λ (xs : List Waiting). siblings 1 (undrawn b (children above)) ++ reverse xs) empty
      ∙ append-nil (siblings 1 (undrawn b (children above))))
      ∙ ap (λ (d : Progress). draw_waiting count children count (siblings 1 (undrawn d (children above))) d) drawn

  pub tree_more : (i : ℕ) (a b : Progress) (w : Waiting) (rest old new : List Waiting) → i < count
      → old ≡ rest ++ w ∷ [] → b ≡ draw (Span w.place w.depth w.follows) a
      → new ≡ rest ++ reverse (siblings (w.depth + 1) (undrawn b (children (parent.At w.place))))
      → draw_waiting count children (count - (i + 1)) (reverse new) b ≡ draw_waiting count children (count - i) (reverse old) a
  tree_more i a b w rest old new below popped drawn pushed =
      let n = count - (i + 1) in
      let kids = λ (d : Progress). siblings (w.depth + 1) (undrawn d (children (parent.At w.place))) in
      let one_more : suc n ≡ count - i = omega arith in
      ap (λ (xs : List Waiting). draw_waiting count children n xs b) (turned new rest (kids b) pushed)
      ∙ ap (λ (d : Progress). draw_waiting count children n (kids d ++ reverse rest) d) drawn
      ∙ ap (λ (m : ℕ). draw_waiting count children m (w ∷ reverse rest) a) one_more
      ∙ ap (λ (xs : List Waiting). draw_waiting count children (count - i) xs a) (sym (reverse-append rest (w ∷ [])) ∙ ap reverse (sym popped))

  -- nothing waits, or as many rows are drawn as there are spans
  none_left : (n : ℕ) (a : Progress) → draw_waiting count children n [] a ≡ a
  none_left zero a = refl
  none_left (suc n) a = refl

  pub tree_ends : (n : ℕ) (ws : List Waiting) (a : Progress) → length ws ≡ 0 → draw_waiting count children n (reverse ws) a ≡ a
  tree_ends n ws a e = ap (λ (xs : List Waiting). draw_waiting count children n (reverse xs) a) (nil_from_length ws e) ∙ none_left n a

  pub tree_is_full : (i : ℕ) (ws : List Waiting) (a : Progress) → count ≤ i → draw_waiting count children (count - i) (reverse ws) a ≡ a
  tree_is_full i ws a e = ap (λ (n : ℕ). draw_waiting count children n (reverse ws) a) (let z : count - i ≡ 0 = omega arith in z)

-- ---- depths
abbrev pub IsWithin : ℕ → Waiting → Type 0
IsWithin depth w = w.depth ≤ depth

at_depth : (n depth : ℕ) → depth ≤ n → (nodes : List Node) → All (IsWithin n) (siblings depth nodes)
at_depth n depth h [] = All-nil (IsWithin n)
at_depth n depth h (x ∷ nodes) = All-cons (IsWithin n) _ (siblings depth nodes) h (at_depth n depth h nodes)

pub depths_pushed : (n depth : ℕ) (nodes : List Node) (rest new : List Waiting) → depth ≤ n → new ≡ rest ++ reverse (siblings depth nodes)
    → All (IsWithin n) rest → All (IsWithin n) new
depths_pushed n depth nodes rest new h pushed all =
    subst (All (IsWithin n)) (sym pushed)
    (All-append (IsWithin n) rest (reverse (siblings depth nodes)) all
    (All-permutation (IsWithin n) (siblings depth nodes) (reverse (siblings depth nodes)) (IsPermutation-reverse (siblings depth nodes)) (at_depth n depth h nodes)))

-- the depth of the next row, and those of the others
pub depths_popped : (n : ℕ) (w : Waiting) (rest old : List Waiting) → old ≡ rest ++ w ∷ [] → All (IsWithin n) old → All (IsWithin n) rest × (w.depth ≤ n)
depths_popped n w rest old popped all =
    let turned_all : All (IsWithin n) (w ∷ reverse rest) =
    subst (All (IsWithin n)) (reverse-append rest (w ∷ []))
    (All-permutation (IsWithin n) (rest ++ w ∷ []) (reverse (rest ++ w ∷ [])) (IsPermutation-reverse (rest ++ w ∷ [])) (subst (All (IsWithin n)) popped all)) in (
      subst (All (IsWithin n)) (reverse-reverse rest) (All-permutation (IsWithin n) (reverse rest) (reverse (reverse rest)) (IsPermutation-reverse (reverse rest)) (All-tail (IsWithin n) w (reverse rest) turned_all)),
      turned_all 0 w (omega arith),
    )

pub depths_more : (n : ℕ) (ws : List Waiting) → All (IsWithin n) ws → All (IsWithin (n + 1)) ws
depths_more n ws all = All-weaker (IsWithin n) (IsWithin (n + 1)) (λ w h. omega (arith, h)) ws all

pub no_depths : (n : ℕ) (ws : List Waiting) → ws ≡ [] → All (IsWithin n) ws
no_depths n ws e = subst (All (IsWithin n)) (sym e) (All-nil (IsWithin n))
