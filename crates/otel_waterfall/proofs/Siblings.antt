-- The rows of siblings that wait.
use Rattle.std.proofs.Common.{◌≡◌, ℕ, Bool, true, false, cond, List, [], ◌∷◌, ◌++◌, length, reverse, sym, ap, ◌∙◌, append_assoc, arith}
use Rattle.std.specs.Prelude.{nat_lt}
use Rattle.std.proofs.lemmas.Bool.Decides.{nat_tests}
use Rattle.std.proofs.lemmas.Grind.{reverse_onto}
use Rattle.std.proofs.lemmas.List.{nil_from_length}
use Rattle.otel_waterfall.specs.Rows.{Progress, is_pending, siblings, undrawn}
use Rattle.otel_waterfall.specs.declared.rows.Node.{Node}
use Rattle.otel_waterfall.specs.declared.rows.Waiting.{Waiting}

-- a sibling before these that is still to be drawn
pub undrawn_more : (d : Progress) (x : Node) (done : List Node) → is_pending d x.place ≡ true → undrawn d (x ∷ done) ≡ x ∷ undrawn d done
undrawn_more d x done h = ap (λ (b : Bool). cond b (x ∷ undrawn d done) (undrawn d done)) h

-- and one that is drawn
pub undrawn_same : (d : Progress) (x : Node) (done : List Node) → is_pending d x.place ≡ false → undrawn d (x ∷ done) ≡ undrawn d done
undrawn_same d x done h = ap (λ (b : Bool). cond b (x ∷ undrawn d done) (undrawn d done)) h

pub whole_more : (rest now all done : List Node) (x : Node) → rest ≡ now ++ x ∷ [] → rest ++ done ≡ all → now ++ (x ∷ done) ≡ all
whole_more rest now all done x e h = sym (append_assoc now (x ∷ []) done) ∙ ap (λ (xs : List Node). xs ++ done) (sym e) ∙ h

pub waits_more : (depth : ℕ) (d : Progress) (x : Node) (done : List Node) (base old new : List Waiting) (follows : Bool) → is_pending d x.place ≡ true
    → old ≡ base ++ reverse (siblings depth (undrawn d done))
    → follows ≡ nat_lt 0 (length (undrawn d done))
    → new ≡ old ++ record { place = x.place; depth = depth; follows = follows } ∷ []
    → new ≡ base ++ reverse (siblings depth (undrawn d (x ∷ done)))
waits_more depth d x done base old new follows pending so_far flag grown =
    let row = λ (b : Bool). let w : Waiting = record { place = x.place; depth = depth; follows = b } in w in
    let ws = siblings depth (undrawn d done) in
    grown
    ∙ ap (λ (b : Bool). old ++ row b ∷ []) flag
    ∙ ap (λ (xs : List Waiting). xs ++ row (nat_lt 0 (length (undrawn d done))) ∷ []) so_far
    ∙ append_assoc base (reverse ws) (row (nat_lt 0 (length (undrawn d done))) ∷ [])
    ∙ ap (λ (xs : List Waiting). base ++ xs) (sym (reverse_onto ws (row (nat_lt 0 (length (undrawn d done)))) []))
    ∙ ap (λ (xs : List Node). base ++ reverse (siblings depth xs)) (sym (undrawn_more d x done pending))

pub one_follows : (d : Progress) (x : Node) (done : List Node) → is_pending d x.place ≡ true → true ≡ nat_lt 0 (length (undrawn d (x ∷ done)))
one_follows d x done pending = let e : true ≡ nat_lt 0 (length (x ∷ undrawn d done)) = grind (arith, nat_tests) in e ∙ ap (λ (xs : List Node). nat_lt 0 (length xs)) (sym (undrawn_more d x done pending))

pub all_done : (rest done all : List Node) → length rest ≡ 0 → rest ++ done ≡ all → done ≡ all
all_done rest done all none h = ap (λ (xs : List Node). xs ++ done) (sym (nil_from_length rest none)) ∙ h
