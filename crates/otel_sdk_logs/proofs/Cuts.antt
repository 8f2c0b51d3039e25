-- Trees whose texts and bytes are truncated.
use Rattle.std.proofs.Common.{◌≡◌, ℕ, List, [], ◌∷◌, map, refl, ap, ◌∙◌, Ordering}
use Rattle.std.proofs.Common.{Less, Equal, Greater, nat_cmp, Option, Some, None, is_some, not}
use Rattle.std.proofs.Common.{Bool, true, sym, true≢false}
use Rattle.std.specs.Ordering.{match_ordering}
use Rattle.std.specs.Cmp.Lexicographic.{slice_cmp}
use Rattle.otel_base.specs.AnyValue.{Tree, Entries, no_entries, more_entries, more_trees}
use Rattle.otel_base.specs.View.{tree, trees_of, trees_view}
use Rattle.otel_base.specs.declared.any_value.AnyValue.{AnyValue}
use Rattle.otel_base.proofs.shared.Views.{put}
use Rattle.otel_sdk_logs.specs.Cuts.{cut, cut_tree, cut_trees, cut_entries}

-- the tree of a value, truncated
abbrev pub cut_of : ℕ → AnyValue → Tree
cut_of n v = cut_tree n (tree v)

pub cut_trees-view : (n : ℕ) (vs : List AnyValue) → cut_trees n (trees_view vs) ≡ trees_of (map (cut_of n) vs)
cut_trees-view n [] = refl
cut_trees-view n (v ∷ vs) = ap (more_trees (cut_of n v)) (cut_trees-view n vs)

cut-match_ordering : (n : ℕ) (o : Ordering) (a b c : Entries)
    → cut_entries n (match_ordering o a b c) ≡ match_ordering o (cut_entries n a) (cut_entries n b) (cut_entries n c)
cut-match_ordering n Less a b c = refl
cut-match_ordering n Equal a b c = refl
cut-match_ordering n Greater a b c = refl

-- entries are the same whether they are truncated before or after one is put
pub put-cut : (n : ℕ) (k : List ℕ) (t : Tree) (es : Entries) → put k (cut_tree n t) (cut_entries n es) ≡ cut_entries n (put k t es)
put-cut n k t no_entries = refl
put-cut n k t (more_entries l u es) =
    rw (put-cut n k t es, cut-match_ordering n (slice_cmp nat_cmp k l) (more_entries k t (more_entries l u es)) (more_entries l t es) (more_entries l u (put k t es)))
    refl

cut-none : (ps : List (List ℕ × Tree)) → map (cut None) ps ≡ ps
cut-none [] = refl
cut-none (p ∷ ps) = ap (λ (qs : List (List ℕ × Tree)). p ∷ qs) (cut-none ps)

-- without a limit nothing is truncated
pub cut-unless-given : (length : Option ℕ) (none : Bool) (ps : List (List ℕ × Tree)) → is_some length ≡ not none
    → none ≡ true → ps ≡ map (cut length) ps
cut-unless-given None none ps is t = sym (cut-none ps)
cut-unless-given (Some n) none ps is t = absurd (true≢false (is ∙ ap not t))
