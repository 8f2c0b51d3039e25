-- The rows of all trees of a trace.
use Rattle.std.proofs.Common.{◌≡◌, ℕ, ◌+◌, ◌<◌, Bool, List, [], length, map, take, get_or, sym, ap, ◌∙◌, add-one}
use Rattle.std.specs.Prelude.{◌==◌, fold}
use Rattle.std.proofs.lemmas.List.{length-map}
use Rattle.std.proofs.lemmas.List.Sums.{fold_more}
use Rattle.otel_waterfall.specs.Drawn.{Look, look}
use Rattle.otel_waterfall.specs.Rows.{Progress, children_in, draw_all_left, draw_left, draw_top, nodes_of, rows_of, undrawn_trace}
use Rattle.otel_waterfall.specs.declared.rows.Node.{Node}
use Rattle.otel_waterfall.specs.declared.rows.Parent.{Parent}
use Rattle.otel_waterfall.specs.declared.rows.Row.{Row}
use Rattle.otel_waterfall.specs.declared.span.Span.{Span}
use Rattle.otel_waterfall.proofs.Traces.{wanted_look}

pub no_rows : (trace : ℕ) (batch : List Span) (pending : List Bool) (rows : List Row) → pending ≡ map (λ (s : Span). s.trace_id == trace) batch → rows ≡ []
    → (let p : Progress = record { pending = pending; rows = rows } in p) ≡ undrawn_trace trace (map look batch)
no_rows trace batch pending rows e none =
    ap (λ (b : List Bool). let p : Progress = record { pending = b; rows = rows } in p) (e ∙ wanted_look trace batch)
    ∙ ap (λ (r : List Row). let p : Progress = record { pending = map (λ (s : Look). s.trace_id == trace) (map look batch); rows = r } in p) none

module _ (trace : ℕ) (batch : List Span) where
  -- the tops of the first nodes
  abbrev pub tops : List Node → List Node → Progress
  tops children nodes = fold (draw_top (length children) (children_in children)) (undrawn_trace trace (map look batch)) nodes

  pub tops_more : (children part nodes : List Node) (i : ℕ) (d : Node) (a b : Progress) → i < length nodes → part ≡ children
      → b ≡ draw_top (length part) (children_in part) a (get_or nodes i d)
      → a ≡ tops children (take i nodes) → b ≡ tops children (take (i + 1) nodes)
  tops_more children part nodes i d a b below same drawn so_far =
      drawn
      ∙ ap (λ (xs : List Node). draw_top (length xs) (children_in xs) a (get_or nodes i d)) same
      ∙ ap (λ (p : Progress). draw_top (length children) (children_in children) p (get_or nodes i d)) so_far
      ∙ sym (fold_more (draw_top (length children) (children_in children)) (undrawn_trace trace (map look batch)) nodes i d below)

  pub left_more : (children part nodes : List Node) (place : ℕ) (a b : Progress) → part ≡ children
      → b ≡ draw_left (length part) (children_in part) place a
      → a ≡ draw_all_left (length children) (children_in children) place (tops children nodes)
      → b ≡ draw_all_left (length children) (children_in children) (place + 1) (tops children nodes)
  left_more children part nodes place a b same drawn so_far =
      let all = λ (n : ℕ). draw_all_left (length children) (children_in children) n (tops children nodes) in
      drawn
      ∙ ap (λ (xs : List Node). draw_left (length xs) (children_in xs) place a) same
      ∙ ap (draw_left (length children) (children_in children) place) so_far
      ∙ ap all (sym (add-one place))

  pub rows_are : (children nodes : List Node) (place : ℕ) (p : Progress) → place ≡ length batch → nodes ≡ nodes_of trace (map look batch)
      → length children ≡ length nodes → ((above : Parent) → children_in children above ≡ children_in nodes above)
      → p ≡ draw_all_left (length children) (children_in children) place (tops children nodes)
      → p.rows ≡ rows_of trace (map look batch)
  unfolding rows_of
  rows_are children nodes place p at_end ordered as_many same drawn =
      let all = λ (count : ℕ) (kids : Parent → List Node) (n : ℕ) (ns : List Node). (draw_all_left count kids n (fold (draw_top count kids) (undrawn_trace trace (map look batch)) ns)).rows in
      ap (λ (q : Progress). q.rows) drawn
      ∙ ap (λ (count : ℕ). all count (children_in children) place nodes) as_many
      ∙ ap (λ (kids : Parent → List Node). all (length nodes) kids place nodes) (λ i above. same above i)
      ∙ ap (λ (n : ℕ). all (length nodes) (children_in nodes) n nodes) (at_end ∙ sym (length-map batch look))
      ∙ ap (λ (ns : List Node). all (length ns) (children_in ns) (length (map look batch)) ns) ordered
