-- The spans of a trace with their parents.
use Rattle.std.proofs.Common.{◌≡◌, ℕ, ◌+◌, ◌<◌, List, [], ◌∷◌, ◌++◌, length, map, take, get_or, refl, sym, ap, ◌∙◌, cond}
use Rattle.std.specs.Prelude.{◌==◌, Option, Some, None, slice_get, option_map}
use Rattle.std.specs.Option.{option_map_or}
use Rattle.std.proofs.lemmas.List.{map_more}
use Rattle.std.proofs.lemmas.Option.{slice_get-map}
use Rattle.otel_waterfall.specs.Drawn.{Look, look}
use Rattle.otel_waterfall.specs.Rows.{node_of, parent_at, parent_in, parent_of, place_of}
use Rattle.otel_waterfall.specs.declared.rows.Node.{Node}
use Rattle.otel_waterfall.specs.declared.rows.Parent.{Parent}
use Rattle.otel_waterfall.specs.declared.rows.Parent.TheVariants as parent
use Rattle.otel_waterfall.specs.declared.span.Span.{Span}

-- a parent in equal places
same_parent : (f g : ℕ → Option ℕ) (id : ℕ) → f id ≡ g id → parent_in f id ≡ parent_in g id
same_parent f g id e = ap (λ (o : Option ℕ). cond (id == 0) parent.Root (parent_at id o)) e

same_found : (f g : ℕ → Option ℕ) → ((id : ℕ) → f id ≡ g id) → (o : Option Span)
    → option_map_or (λ (s : Span). parent_in f s.parent_span_id) o parent.Root ≡ option_map_or (λ (s : Look). parent_in g s.parent_span_id) (option_map look o) parent.Root
same_found f g h (Some s) = same_parent f g s.parent_span_id (h s.parent_span_id)
same_found f g h None = refl

pub parent_is : (trace : ℕ) (batch : List Span) (f : ℕ → Option ℕ) (place : ℕ) (p : Parent) → ((id : ℕ) → f id ≡ place_of trace (map look batch) id)
    → p ≡ option_map_or (λ (s : Span). parent_in f s.parent_span_id) (slice_get batch place) parent.Root
    → p ≡ parent_of trace (map look batch) place
parent_is trace batch f place p h is =
    is ∙ same_found f (place_of trace (map look batch)) h (slice_get batch place)
    ∙ ap (λ (o : Option Look). option_map_or (λ (s : Look). parent_in (place_of trace (map look batch)) s.parent_span_id) o parent.Root) (sym (slice_get-map look batch place))

pub nodes_more : (trace : ℕ) (batch : List Span) (f : ℕ → Option ℕ) (starts : List (ℕ × ℕ)) (i : ℕ) (d : ℕ × ℕ) (p : Parent) (nodes new : List Node) → i < length starts
    → ((id : ℕ) → f id ≡ place_of trace (map look batch) id)
    → nodes ≡ map (node_of trace (map look batch)) (take i starts)
    → p ≡ option_map_or (λ (s : Span). parent_in f s.parent_span_id) (slice_get batch (get_or starts i d).1) parent.Root
    → new ≡ nodes ++ record { place = (get_or starts i d).1; parent = p } ∷ []
    → new ≡ map (node_of trace (map look batch)) (take (i + 1) starts)
nodes_more trace batch f starts i d p nodes new below h so_far is grown =
    let node = λ (q : Parent). let n : Node = record { place = (get_or starts i d).1; parent = q } in n in
    grown ∙ ap (λ (xs : List Node). xs ++ node p ∷ []) so_far
    ∙ ap (λ (q : Parent). map (node_of trace (map look batch)) (take i starts) ++ node q ∷ []) (parent_is trace batch f (get_or starts i d).1 p h is)
    ∙ sym (map_more (node_of trace (map look batch)) starts i d below)
