-- The starts of a trace's spans.
use Rattle.std.proofs.Common.{◌≡◌, ℕ, ◌+◌, ◌<◌, ◌≤◌, Bool, true, false, List, [], ◌∷◌, ◌++◌, length, map, take, drop, get_or, refl, sym, ap, ◌∙◌, arith, cond, append_assoc, ltb, eqb, ◌&&◌, not}
use Rattle.std.specs.Prelude.{◌==◌, Option, Some, None}
use Rattle.std.specs.Option.{option_or}
use Rattle.std.proofs.lemmas.List.{append-nil, drop_all, drop_more, take_more, map-append, length-map, length_push, length-take-le}
use Rattle.std.proofs.lemmas.Bool.Decides.{nat_tests}
use Rattle.std.proofs.lemmas.List.Folds.{position_or_len_push}
use Rattle.std.proofs.lemmas.List.Sums.{prefix_len-le-length}
use Rattle.std.specs.List.{position, position_or_len}
use Rattle.otel_waterfall.specs.Drawn.{Look, look}
use Rattle.otel_waterfall.specs.Rows.{start_of, starts_from, place_of}
use Rattle.otel_waterfall.specs.declared.span.Span.{Span}

-- one more span
starts_more : (trace : ℕ) (batch : List Span) (i : ℕ) (s : Span) → i < length batch → s ≡ get_or batch i s
    → starts_from trace i (map look (drop i batch)) ≡ start_of trace i (look s) ++ starts_from trace (i + 1) (map look (drop (i + 1) batch))
starts_more trace batch i s below at =
    ap (λ (xs : List Span). starts_from trace i (map look xs)) (drop_more batch i s below)
    ∙ ap (λ (x : Span). start_of trace i (look x) ++ starts_from trace (i + 1) (map look (drop (i + 1) batch))) (sym at)

pub starts_own : (trace : ℕ) (batch : List Span) (i : ℕ) (s : Span) (done all : List (ℕ × ℕ)) → i < length batch → s ≡ get_or batch i s → (s.trace_id == trace) ≡ true
    → done ++ starts_from trace i (map look (drop i batch)) ≡ all
    → (done ++ (s.start, i) ∷ []) ++ starts_from trace (i + 1) (map look (drop (i + 1) batch)) ≡ all
starts_own trace batch i s done all below at own h =
    append_assoc done ((s.start, i) ∷ []) (starts_from trace (i + 1) (map look (drop (i + 1) batch)))
    ∙ ap (λ (xs : List (ℕ × ℕ)). done ++ xs)
    (ap (λ (b : Bool). cond b ((s.start, i) ∷ []) [] ++ starts_from trace (i + 1) (map look (drop (i + 1) batch))) (sym own) ∙ sym (starts_more trace batch i s below at))
    ∙ h

pub starts_other : (trace : ℕ) (batch : List Span) (i : ℕ) (s : Span) (done all : List (ℕ × ℕ)) → i < length batch → s ≡ get_or batch i s → (s.trace_id == trace) ≡ false
    → done ++ starts_from trace i (map look (drop i batch)) ≡ all
    → done ++ starts_from trace (i + 1) (map look (drop (i + 1) batch)) ≡ all
starts_other trace batch i s done all below at other h =
    ap (λ (xs : List (ℕ × ℕ)). done ++ xs)
    (ap (λ (b : Bool). cond b ((s.start, i) ∷ []) [] ++ starts_from trace (i + 1) (map look (drop (i + 1) batch))) (sym other) ∙ sym (starts_more trace batch i s below at))
    ∙ h

pub starts_all : (trace : ℕ) (batch : List Span) (i : ℕ) (done all : List (ℕ × ℕ)) → length batch ≤ i → done ++ starts_from trace i (map look (drop i batch)) ≡ all → done ≡ all
starts_all trace batch i done all past h =
    sym (append-nil done) ∙ ap (λ (xs : List Span). done ++ starts_from trace i (map look xs)) (sym (drop_all i batch past)) ∙ h

-- ---- the places of ids
at_push : (b : Bool) (n m : ℕ) → n ≤ m
    → cond (ltb (cond (eqb n m) (m + cond b 0 1) n) (m + 1)) (Some (cond (eqb n m) (m + cond b 0 1) n)) None
    ≡ option_or (cond (ltb n m) (Some n) None) (cond b (Some m) None)
at_push true n m h = grind (arith, nat_tests)
at_push false n m h = grind (arith, nat_tests)

position_push : {X : Type 0} (p : X → Bool) (xs : List X) (y : X) → position p (xs ++ y ∷ []) ≡ option_or (position p xs) (cond (p y) (Some (length xs)) None)
position_push {X = X} p xs y =
    ap (λ (n : ℕ). cond (ltb n (length (xs ++ y ∷ []))) (Some n) None) (position_or_len_push p xs y)
    ∙ ap (λ (m : ℕ). cond (ltb (cond (eqb (position_or_len p xs) (length xs)) (length xs + cond (p y) 0 1) (position_or_len p xs)) m) (Some (cond (eqb (position_or_len p xs) (length xs)) (length xs + cond (p y) 0 1) (position_or_len p xs))) None) (length_push xs y)
    ∙ at_push (p y) (position_or_len p xs) (length xs) ((prefix_len-le-length (λ (x : X). not (p x)) xs))

place_more : (trace id : ℕ) (batch : List Span) (i : ℕ) (s : Span) → i < length batch → s ≡ get_or batch i s
    → place_of trace (map look (take (i + 1) batch)) id ≡ option_or (place_of trace (map look (take i batch)) id) (cond (s.trace_id == trace && s.span_id == id) (Some i) None)
place_more trace id batch i s below at =
    let p = λ (x : Look). x.trace_id == trace && x.span_id == id in
    ap (λ (xs : List Span). position p (map look xs)) (take_more batch i s below)
    ∙ ap (λ (x : Span). position p (map look (take i batch ++ x ∷ []))) (sym at)
    ∙ ap (position p) (map-append look (take i batch) (s ∷ []))
    ∙ position_push p (map look (take i batch)) (look s)
    ∙ ap (λ (n : ℕ). option_or (position p (map look (take i batch))) (cond (p (look s)) (Some n) None))
    (length-map (take i batch) look ∙ length-take-le i batch (omega arith))

pub place_own : (trace id : ℕ) (batch : List Span) (i : ℕ) (s : Span) → i < length batch → s ≡ get_or batch i s → (s.trace_id == trace) ≡ true
    → place_of trace (map look (take (i + 1) batch)) id ≡ option_or (place_of trace (map look (take i batch)) id) (cond (s.span_id == id) (Some i) None)
place_own trace id batch i s below at own =
    place_more trace id batch i s below at
    ∙ ap (λ (b : Bool). option_or (place_of trace (map look (take i batch)) id) (cond (b && s.span_id == id) (Some i) None)) own

or_none : (o : Option ℕ) → option_or o None ≡ o
or_none (Some n) = refl
or_none None = refl

pub place_other : (trace id : ℕ) (batch : List Span) (i : ℕ) (s : Span) → i < length batch → s ≡ get_or batch i s → (s.trace_id == trace) ≡ false
    → place_of trace (map look (take (i + 1) batch)) id ≡ place_of trace (map look (take i batch)) id
place_other trace id batch i s below at other =
    place_more trace id batch i s below at
    ∙ ap (λ (b : Bool). option_or (place_of trace (map look (take i batch)) id) (cond (b && s.span_id == id) (Some i) None)) other
    ∙ or_none (place_of trace (map look (take i batch)) id)
