-- Batches of a queue, one after another.
use Rattle.std.proofs.Common.{◌≡◌, ℕ, zero, suc, ◌+◌, ◌-◌, ◌*◌, ◌<◌, ◌≤◌, min, inl, inr}
use Rattle.std.proofs.Common.{List, [], ◌∷◌, ◌++◌, length, take, drop, map, get_or}
use Rattle.std.proofs.Common.{sym, ap, subst, ◌∙◌, arith, append_assoc}
use Rattle.std.proofs.Math.Nat.{suc-mul, le_of_lt, le_of_eq, min-eq_left, min-eq_right}
use Rattle.std.proofs.Math.ListN.{drop_of_length-le}
use Rattle.std.proofs.lemmas.Bool.{cases_lt}
use Rattle.std.proofs.lemmas.List.{drop-drop, length-drop, take-append-drop, take_min, take-map}
use Rattle.std.proofs.lemmas.List.Folds.{flat_map-map}
use Rattle.std.proofs.lemmas.Grind.{flat_map-append}
use Rattle.std.specs.List.{flat_map}
use Rattle.otel_base.proofs.shared.Steps.{flat_map-take_more}
use Rattle.otel_sdk_base.specs.Export.{batches, items_of, AreExported}
use Rattle.otel_sdk_base.specs.Queue.{QueueState, IsFlushed, received_of}

none : (size : ℕ) → 0 ≡ zero * size
none size = omega arith

one_more : (count size : ℕ) → size + count * size ≡ suc count * size
one_more count size = grind arith

-- one batch more
last_batch : {X : Type 0} (size count : ℕ) (xs : List X)
    → batches size (suc count) xs ≡ batches size count xs ++ take size (drop (count * size) xs) ∷ []
last_batch size zero xs = ap (λ (n : ℕ). take size (drop n xs) ∷ []) (none size)
last_batch {X} size (suc count) xs =
    ap (λ (ys : List (List X)). take size xs ∷ ys) (last_batch size count (drop size xs))
    ∙ ap (λ (ys : List X). (take size xs ∷ batches size count (drop size xs)) ++ take size ys ∷ [])
    (drop-drop (count * size) size xs ∙ ap (λ (n : ℕ). drop n xs) (one_more count size))

-- the batches and the items left are the whole
whole : {X : Type 0} (size count : ℕ) (xs : List X)
    → flat_map (λ batch. batch) (batches size count xs) ++ drop (count * size) xs ≡ xs
whole size zero xs = ap (λ (n : ℕ). drop n xs) (sym (none size))
whole {X} size (suc count) xs =
    ap (λ (n : ℕ). (take size xs ++ flat_map (λ batch. batch) (batches size count (drop size xs))) ++ drop n xs)
    (sym (one_more count size))
    ∙ append_assoc (take size xs) _ _
    ∙ ap (λ (ys : List X). take size xs ++ (flat_map (λ batch. batch) (batches size count (drop size xs)) ++ ys))
    (sym (drop-drop (count * size) size xs))
    ∙ ap (λ (ys : List X). take size xs ++ ys) (whole size count (drop size xs))
    ∙ take-append-drop size xs

drop_min : {X : Type 0} (n : ℕ) (xs : List X) → drop (min n (length xs)) xs ≡ drop n xs
drop_min {X} n xs = elim (cases_lt n (length xs)) [
  | inl low ↦ ap (λ (m : ℕ). drop m xs) (min-eq_left (le_of_lt low))
  | inr high ↦ drop_of_length-le xs (le_of_eq (sym (min-eq_right high))) ∙ sym (drop_of_length-le xs high)
]

module _ {X : Type 0} (size : ℕ) (queue : List X) (old : List (List X)) where
  -- one more batch is exported
  pub goes_on : (new after : List (List X)) (left batch rest : List X) (n : ℕ)
      → AreExported size queue old new left → 0 < length left → after ≡ new ++ batch ∷ []
      → n ≡ min size (length left) → batch ≡ take n left → rest ≡ drop n left
      → AreExported size queue old after rest
  goes_on new after left batch rest n e h a m b r =
      let some : 0 < length queue - e.count * size =
      subst (λ (n : ℕ). 0 < n) (ap length e.rest ∙ length-drop (e.count * size) queue) h in
      let count : suc e.count * size ≡ e.count * size + size = suc-mul e.count size in
      record {
        count = suc e.count;
        filled = λ k lt. elim (cases_lt k e.count) [
          | inl low ↦ e.filled k low
          | inr high ↦ let same : e.count ≡ k = omega arith in
              subst (λ (n : ℕ). n * size < length queue) same (omega arith)
        ];
        accepted = a ∙ ap (λ (ys : List X). new ++ ys ∷ []) (b ∙ ap (λ (k : ℕ). take k left) m ∙ take_min size left)
            ∙ ap (λ (bs : List (List X)). bs ++ take size left ∷ []) e.accepted
            ∙ append_assoc old (batches size e.count queue) (take size left ∷ [])
            ∙ ap (λ (ys : List X). old ++ (batches size e.count queue ++ take size ys ∷ [])) e.rest
            ∙ ap (λ (bs : List (List X)). old ++ bs) (sym (last_batch size e.count queue));
        rest = r ∙ ap (λ (k : ℕ). drop k left) m ∙ drop_min size left ∙ ap (drop size) e.rest ∙ drop-drop size (e.count * size) queue
            ∙ ap (λ (n : ℕ). drop n queue) (sym count);
      }

-- the rest of a list after a part of the rest
pub left_of : {X : Type 0} (xs left rest : List X) (n : ℕ) → length left ≤ length xs → n ≤ length left
    → left ≡ drop (length xs - length left) xs → rest ≡ drop n left
    → rest ≡ drop (length xs - length rest) xs
left_of xs left rest n h k e r =
    let short : length rest ≡ length left - n = ap length r ∙ length-drop n left in
    r ∙ ap (drop n) e ∙ drop-drop n (length xs - length left) xs
    ∙ ap (λ (m : ℕ). drop m xs) (omega arith)

-- nothing is lost or added: the accepted items, followed by the items left
pub together : {X : Type 0} (size : ℕ) (queue : List X) (old new : List (List X)) (left : List X)
    → AreExported size queue old new left → items_of new ++ left ≡ items_of old ++ queue
together {X} size queue old new left e =
    ap (λ (bs : List (List X)). items_of bs ++ left) e.accepted
    ∙ ap (λ (xs : List X). xs ++ left)
    (flat_map-append (λ (batch : List X). batch) old (batches size e.count queue))
    ∙ append_assoc (items_of old) (items_of (batches size e.count queue)) left
    ∙ ap (λ (xs : List X). items_of old ++ (items_of (batches size e.count queue) ++ xs)) e.rest
    ∙ ap (λ (xs : List X). items_of old ++ xs) (whole size e.count queue)

-- a flush keeps the received items
pub keeps : {X E : Type 0} (accepted : E → List (List X)) (old new : QueueState X E)
    → IsFlushed accepted old new → received_of accepted new ≡ received_of accepted old
keeps {X} {E} accepted old new f =
    ap (received_of accepted) f.same
    ∙ ap (λ (xs : List X). record { items = xs; dropped = old.dropped })
    (together old.config.max_export_batch_size old.queue (accepted old.exporter) (accepted new.exporter) new.queue
    f.exported)

-- the lists of one place more, joined
pub joined_more : {X Y : Type 0} (f : X → List Y) (xs : List X) (ys : List (List Y)) (i : ℕ) (x : X)
    → map f xs ≡ ys → i < length xs → x ≡ get_or xs i x
    → flat_map (λ y. y) (take i ys) ++ f x ≡ flat_map (λ y. y) (take (i + 1) ys)
joined_more {X} {Y} f xs ys i x e h g =
    let below : (n : ℕ) → flat_map (λ y. y) (take n (map f xs)) ≡ flat_map f (take n xs) =
    λ n. ap (flat_map (λ (y : List Y). y)) (take-map f n xs) ∙ flat_map-map (λ (y : List Y). y) f (take n xs) in
    subst (λ (zs : List (List Y)). flat_map (λ y. y) (take i zs) ++ f x ≡ flat_map (λ y. y) (take (i + 1) zs)) e
    (ap (λ (zs : List Y). zs ++ f x) (below i)
    ∙ sym (flat_map-take_more f xs i x h g) ∙ sym (below (i + 1)))
