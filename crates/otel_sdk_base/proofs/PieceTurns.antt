-- One turn of the loop over the pieces of a text.
use Rattle.std.proofs.Common.{◌≡◌, ℕ, ◌+◌, ◌<◌, ◌≤◌, Bool, true, false, List, length, drop, get_or, Option, Some, None, refl, sym, ap, ◌∙◌, eqb, arith}
use Rattle.std.specs.Prelude.{◌&&◌, not, cond, filter_map, is_some, position}
use Rattle.std.specs.List.{position_from, enumerate_from}
use Rattle.std.proofs.lemmas.List.FromFn.{length-enumerate_from, get_or-enumerate_from}
use Rattle.std.proofs.lemmas.Iterator.Adapters.{position_from-zero}
use Rattle.std.proofs.lemmas.List.{drop_all}
use Rattle.otel_base.specs.Blanks.{cut_blanks}
use Rattle.otel_base.proofs.shared.Steps.{next_element as next_piece}
use Rattle.otel_base.specs.KeyValue.{Attribute}
use Rattle.otel_sdk_base.specs.Attributes.{put, put_all}
use Rattle.otel_sdk_base.specs.ResourceTexts.{is_fault, attribute_in}

-- after some number of pieces, the pieces left complete the first fault and the attributes
abbrev pub FaultIs : List (List ℕ) → ℕ → Option ℕ → Type 0
FaultIs ps n first = position_from is_fault n (drop n ps) ≡ first

abbrev pub AttributesAre : List (List ℕ) → ℕ → List Attribute → List Attribute → Type 0
AttributesAre ps n xs total = put_all xs (filter_map attribute_in (drop n ps)) ≡ total

-- the piece that the loop reads with a number is the piece at that number
pub piece_at : (ps : List (List ℕ)) (n number : ℕ) (piece : List ℕ) → (n < length (enumerate_from 0 ps)) × ((number, piece) ≡ get_or (enumerate_from 0 ps) n (number, piece))
    → (number ≡ n) × ((n < length ps) × (piece ≡ get_or ps n piece))
piece_at ps n number piece turn =
    let within : n < length ps = omega (arith, turn.0, length-enumerate_from 0 ps) in
    let there : ◌≡◌ {A = ℕ × List ℕ} (number, piece) (0 + n, get_or ps n piece) = turn.1 ∙ get_or-enumerate_from 0 ps n (number, piece) within in
    (omega (arith, ap (λ (p : ℕ × List ℕ). p.0) there), (within, ap (λ (p : ℕ × List ℕ). p.1) there))

-- no piece was read yet
pub starts : (ps : List (List ℕ)) → FaultIs ps 0 (position is_fault ps)
starts ps = sym (position_from-zero is_fault ps)

module _ (ps : List (List ℕ)) (n : ℕ) (piece : List ℕ) (turn : (n < length ps) × (piece ≡ get_or ps n piece)) where
  is_fault-attribute : (a : Attribute) → attribute_in piece ≡ Some a → is_fault piece ≡ false
  is_fault-attribute a e = ap (λ (o : Option Attribute). not (is_some o) && not (eqb (length (cut_blanks piece)) 0)) e

  is_fault-none : (b : Bool) → attribute_in piece ≡ None → eqb (length (cut_blanks piece)) 0 ≡ b → is_fault piece ≡ not b
  is_fault-none b e l = ap (λ (o : Option Attribute). not (is_some o) && not (eqb (length (cut_blanks piece)) 0)) e ∙ ap not l

  no_fault : (first : Option ℕ) → is_fault piece ≡ false → FaultIs ps n first → FaultIs ps (n + 1) first
  no_fault first f h =
      sym (ap (position_from is_fault n) (next_piece ps n piece turn) ∙ ap (λ (b : Bool). cond b (Some n) (position_from is_fault (n + 1) (drop (n + 1) ps))) f) ∙ h

  -- the piece is an attribute
  pub goes_on : (k : ℕ) (a : Attribute) (xs total : List Attribute) (first : Option ℕ) → k ≡ n + 1 → Some a ≡ attribute_in piece → FaultIs ps n first → AttributesAre ps n xs total
      → FaultIs ps k first × AttributesAre ps k (put xs a) total
  goes_on k a xs total first next e f h =
      let g = no_fault first (is_fault-attribute a (sym e)) f in
      rw next (g, sym (ap (λ (l : List (List ℕ)). put_all xs (filter_map attribute_in l)) (next_piece ps n piece turn) ∙ rw (← e) refl) ∙ h)

  -- the piece is blank
  pub passes_by : (k : ℕ) (xs total : List Attribute) (first : Option ℕ) → k ≡ n + 1 → None ≡ attribute_in piece → eqb (length (cut_blanks piece)) 0 ≡ true → FaultIs ps n first → AttributesAre ps n xs total
      → FaultIs ps k first × AttributesAre ps k xs total
  passes_by k xs total first next e l f h =
      let g = no_fault first (is_fault-none true (sym e) l) f in
      rw next (g, sym (ap (λ (l : List (List ℕ)). put_all xs (filter_map attribute_in l)) (next_piece ps n piece turn) ∙ rw (← e) refl) ∙ h)

  -- the piece is faulty
  pub fails : (first : Option ℕ) → None ≡ attribute_in piece → eqb (length (cut_blanks piece)) 0 ≡ false → FaultIs ps n first → first ≡ Some n
  fails first e l f =
      sym f ∙ ap (position_from is_fault n) (next_piece ps n piece turn) ∙ ap (λ (b : Bool). cond b (Some n) (position_from is_fault (n + 1) (drop (n + 1) ps))) (is_fault-none false (sym e) l)

-- no piece is left
pub ends : (ps : List (List ℕ)) (n : ℕ) (xs total : List Attribute) (first : Option ℕ) → length ps ≤ n → FaultIs ps n first → AttributesAre ps n xs total → (first ≡ None) × (xs ≡ total)
ends ps n xs total first le f h =
    let e = drop_all n ps le in
    (sym f ∙ ap (position_from is_fault n) e, sym (ap (λ (l : List (List ℕ)). put_all xs (filter_map attribute_in l)) e) ∙ h)
