-- The parts of a batch.
use Rattle.std.proofs.Common.{◌≡◌, ◌⊎◌, ◌≤◌, ◌<◌, ◌/◌, ℕ, List, [], ◌∷◌, ◌++◌, length, take, drop, Result, Ok, Err, OnOk, ap, ◌∙◌, sym, append_assoc, append-nil, subst}
use Rattle.std.proofs.lemmas.Grind.{flat_map-append}
use Rattle.std.proofs.lemmas.List.{take-append-drop}
use Rattle.std.specs.List.{flat_map}
use Rattle.otel_sdk_base.specs.Resource.{Parts}
use Rattle.otel_otlp.specs.Groups.{BatchForm, batch_value}
use Rattle.otel_otlp.specs.Json.{IsTextOf}
use Rattle.otel_otlp.specs.HttpPart.{PartOf, Halves, whole, halved, ArePartsOf}

module _ {R : Type 0} (form : BatchForm R) (resource : Parts) (max_body : ℕ) where
  -- these parts of the batch come after the earlier parts
  abbrev pub Adds : List R → List (PartOf R) → List (PartOf R) → Type 0
  Adds items old new = (more : List (PartOf R)) × Halves form resource max_body items more × new ≡ old ++ more

  -- a batch that isn't halved
  pub adds_whole : (items : List R) (body : List ℕ) (part : PartOf R) (old new : List (PartOf R)) → IsTextOf body (batch_value form resource items) → (length body ≤ max_body) ⊎ (length items ≤ 1) → part ≡ record { body = body; items = items } → new ≡ old ++ part ∷ [] → Adds items old new
  adds_whole items body part old new is fits made added = (part ∷ [], subst (λ p. Halves form resource max_body items (p ∷ [])) (sym made) (whole items body is fits), added)

  -- a batch that is halved
  pub adds_halves : {E : Type 0} (items first second : List R) (body : List ℕ) (old mid new : List (PartOf R)) (result : Result (Unit {0}) E) → IsTextOf body (batch_value form resource items) → max_body < length body → 1 < length items → first ≡ take (length items / 2) items → second ≡ drop (length items / 2) items → Adds first old mid → OnOk result (Adds second mid new) → OnOk result (Adds items old new)
  adds_halves items first second body old mid new (Err e) is long many f s a b = tt
  adds_halves items first second body old mid new (Ok x) is long many f s a b = (
    a.0 ++ b.0,
    halved items body a.0 b.0 is long many
        (subst (λ xs. Halves form resource max_body xs a.0) f a.1)
        (subst (λ xs. Halves form resource max_body xs b.0) s b.1),
    b.2 ∙ ap (λ xs. xs ++ b.0) a.2 ∙ append_assoc old a.0 b.0,
  )

  -- the parts hold the items of the batch, in order
  pub halves_items : (items : List R) (parts : List (PartOf R)) → Halves form resource max_body items parts → flat_map (λ p. p.items) parts ≡ items
  halves_items items parts (whole xs body is fits) = append-nil xs
  halves_items items parts (halved xs body first second is long many a b) =
      let n = length xs / 2 in
      flat_map-append (λ (p : PartOf R). p.items) first second
      ∙ ap (λ ys. ys ++ flat_map (λ p. p.items) second) (halves_items (take n xs) first a)
      ∙ ap (λ ys. take n xs ++ ys) (halves_items (drop n xs) second b)
      ∙ take-append-drop n xs

  pub parts_items : (items : List R) (parts : List (PartOf R)) → ArePartsOf form resource max_body items parts → flat_map (λ p. p.items) parts ≡ items
  parts_items [] parts e = ap (flat_map (λ (p : PartOf R). p.items)) e
  parts_items (r ∷ more) parts h = halves_items (r ∷ more) parts h
