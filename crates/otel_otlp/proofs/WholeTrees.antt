-- Trees of which no part is counted as cut.
use Rattle.std.proofs.Common.{◌≡◌, ℕ, ◌+◌, ◌-◌, ◌==◌, Bool, true, false, if◌then◌else◌, refl, ap, ◌∙◌, codes, arith}
use Rattle.otel_base.specs.AnyValue as any
use Rattle.otel_base.specs.AnyValue.{Tree, Trees, no_trees, more_trees, Entries, no_entries, more_entries}
use Rattle.otel_otlp.specs.Trees.{cut_trees, cut_entries, cut_parts, cut_parts_of_trees, cut_parts_of_entries, UncountedTreesAreWhole}

-- a list or map that isn't counted isn't at the limit
inside : (b : Bool) (p : ℕ) (t u : Tree) → (p ≡ 0 → u ≡ t) → (if b then 1 else p) ≡ 0 → (if b then any.text (codes "..") else u) ≡ t
inside true p t u same e = absurd (omega (arith, e))
inside false p t u same e = same e

pub first : (p q : ℕ) → p + q ≡ 0 → p ≡ 0
first p q e = omega (arith, e)

pub others : (p q : ℕ) → p + q ≡ 0 → q ≡ 0
others p q e = omega (arith, e)

mutual
  pub whole : UncountedTreesAreWhole
  whole n (any.integer z) e = refl
  whole n (any.text s) e = refl
  whole n (any.boolean b) e = refl
  whole n (any.bytes bs) e = refl
  whole n (any.list ts) e =
      inside (n == 0) (cut_parts_of_trees (n - 1) ts) (any.list ts) (any.list (cut_trees (n - 1) ts)) (λ h. ap any.list (whole_trees (n - 1) ts h)) e
  whole n (any.map es) e =
      inside (n == 0) (cut_parts_of_entries (n - 1) es) (any.map es) (any.map (cut_entries (n - 1) es)) (λ h. ap any.map (whole_entries (n - 1) es h)) e

  whole_trees : (n : ℕ) (ts : Trees) → cut_parts_of_trees n ts ≡ 0 → cut_trees n ts ≡ ts
  whole_trees n no_trees e = refl
  whole_trees n (more_trees t ts) e =
      let p = cut_parts n t in
      let q = cut_parts_of_trees n ts in
      ap (λ d. more_trees d (cut_trees n ts)) (whole n t (first p q e)) ∙ ap (more_trees t) (whole_trees n ts (others p q e))

  whole_entries : (n : ℕ) (es : Entries) → cut_parts_of_entries n es ≡ 0 → cut_entries n es ≡ es
  whole_entries n no_entries e = refl
  whole_entries n (more_entries k t es) e =
      let p = cut_parts n t in
      let q = cut_parts_of_entries n es in
      ap (λ d. more_entries k d (cut_entries n es)) (whole n t (first p q e)) ∙ ap (more_entries k t) (whole_entries n es (others p q e))
