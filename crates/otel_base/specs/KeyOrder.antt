-- Attributes sorted by key. Attributes with the same key keep the given order.
use Rattle.std.specs.Prelude.{◌≡◌, ℕ, List, [], ◌∷◌, map, Option, Bool, Some, option_map, false}
use Rattle.std.specs.Prelude.{if◌then◌else◌}
use Rattle.std.specs.List.{AllByRecursion, slice_get}
use Rattle.std.specs.Ordering.{nat_cmp, is_gt}
use Rattle.std.specs.declared.cmp.Ordering.{Ordering}
use Rattle.std.specs.Option.{option_cmp, option_eq}
use Rattle.std.specs.Cmp.Lexicographic.{slice_cmp, pointwise}
use Rattle.otel_base.specs.KeyValue as KeyValue
use Rattle.otel_base.specs.KeyValue.{Attribute}

-- p inserted before the first attribute whose key isn't less than the key of p
abbrev pub insert_in_order : Attribute → List Attribute → List Attribute
insert_in_order p [] = p ∷ []
insert_in_order p (q ∷ qs) =
    if is_gt (slice_cmp nat_cmp p.0 q.0) then q ∷ insert_in_order p qs else (p ∷ q ∷ qs)

-- the attributes sorted by key; attributes with the same key keep the given order: k=2, j=0, k=1
-- gives j=0, k=2, k=1
abbrev pub in_key_order : List Attribute → List Attribute
in_key_order [] = []
in_key_order (p ∷ ps) = insert_in_order p (in_key_order ps)

-- no key is greater than a later one
abbrev pub IsRising : List Attribute → Type 0
IsRising [] = Unit {0}
IsRising (p ∷ ps) = AllByRecursion (λ q. is_gt (slice_cmp nat_cmp p.0 q.0) ≡ false) ps × IsRising ps

-- the attributes at these positions are all of them, in key order: for k=2, j=0, k=1 the positions
-- are 1, 0, 2
abbrev pub IsKeyOrder : List Attribute → List ℕ → Type 0
IsKeyOrder ps positions = map (slice_get ps) positions ≡ map (λ p. Some p) (in_key_order ps)

-- the key at a position, if there is one
abbrev pub key_at : List Attribute → ℕ → Option (List ℕ)
key_at ps i = option_map (λ p. p.0) (slice_get ps i)

-- the ordering of the keys at two positions
abbrev pub position_cmp : List Attribute → ℕ → ℕ → Ordering
position_cmp ps i j = option_cmp (slice_cmp nat_cmp) (key_at ps i) (key_at ps j)

-- whether two lists, each in the order of its positions, have the same attributes
abbrev pub same_in_order : List Attribute → List ℕ → List Attribute → List ℕ → Bool
same_in_order xs left ys right =
    pointwise (option_eq KeyValue.eq) (map (slice_get xs) left) (map (slice_get ys) right)
