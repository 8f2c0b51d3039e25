-- Bytes read item by item.
use Rattle.std.proofs.Common.{◌≡◌, ℕ, zero, suc, ◌<◌, ◌≤◌, List, [], ◌∷◌, ◌++◌, length, Option, Some, None, Bool, true, false, if◌then◌else◌, refl, sym, ap, ◌∙◌, eq-eqb, arith}
use Rattle.std.proofs.lemmas.Bool.Decides.{nat_tests}
use Rattle.std.specs.Prelude.{nat_lt, option_map, option_and_then, ◌==◌}
use Rattle.otel_proto.specs.Wire.{Field, Item, field, group_start, group_end, item_at, items_within, fields_outside, read}
use Rattle.otel_proto_answers.specs.declared.wire.Item as declared
use Rattle.otel_proto_answers.specs.Parts.{read_within, item_of}
use Rattle.otel_proto_answers.proofs.Shorter.{item_shortens}

-- an item, and at most n items after it
abbrev before : ℕ → Option (Item × List ℕ) → Option (List Item)
before n o = option_and_then (λ r. option_map (λ more. r.0 ∷ more) (items_within n r.1)) o

-- more steps than there are bytes change nothing
same_before : (n m k : ℕ) (o : Option (Item × List ℕ)) → ((rest : List ℕ) → length rest ≤ k → items_within n rest ≡ items_within m rest) → ((it : Item) (rest : List ℕ) → o ≡ Some (it, rest) → length rest ≤ k) → before n o ≡ before m o
same_before n m k None same shorter = refl
same_before n m k (Some r) same shorter = ap (option_map (λ (more : List Item). r.0 ∷ more)) (same r.1 (shorter r.0 r.1 refl))

pub enough : (n m : ℕ) (bs : List ℕ) → length bs ≤ n → length bs ≤ m → items_within n bs ≡ items_within m bs
enough zero zero [] h g = refl
enough zero (suc m) [] h g = refl
enough (suc n) zero [] h g = refl
enough (suc n) (suc m) [] h g = refl
enough zero m (b ∷ bs) h g = absurd (omega arith)
enough (suc n) zero (b ∷ bs) h g = absurd (omega arith)
enough (suc n) (suc m) (b ∷ bs) h g =
    same_before n m (length bs) (item_at (b ∷ bs))
    (λ rest le. enough n m rest (omega arith) (omega arith))
    (λ it rest e. let lt : length rest < length (b ∷ bs) = item_shortens (b ∷ bs) rest it e in omega arith)

-- the bytes after an item
pub step : (opened bs rest : List ℕ) (it : Item) → item_at bs ≡ Some (it, rest) → read_within opened bs ≡ option_and_then (λ (more : List Item). fields_outside opened (it ∷ more)) (items_within (length rest) rest)
step opened [] rest it h = cc
step opened (b ∷ bs) rest it h =
    let lt : length rest < length (b ∷ bs) = item_shortens (b ∷ bs) rest it h in
    let fuel : items_within (length bs) rest ≡ items_within (length rest) rest = enough (length bs) (length rest) rest (omega arith) (omega arith) in
    ap (λ (o : Option (Item × List ℕ)). option_and_then (fields_outside opened) (before (length bs) o)) h
    ∙ ap (λ (o : Option (List Item)). option_and_then (fields_outside opened) (option_map (λ (more : List Item). it ∷ more) o)) fuel
    ∙ one it (items_within (length rest) rest)
  where
    one : (it : Item) (o : Option (List Item)) → option_and_then (fields_outside opened) (option_map (λ (more : List Item). it ∷ more) o) ≡ option_and_then (λ (more : List Item). fields_outside opened (it ∷ more)) o
    one it None = refl
    one it (Some more) = refl

-- no item
pub stuck : (opened bs : List ℕ) → 0 < length bs → item_at bs ≡ None → read_within opened bs ≡ None
stuck opened [] some h = absurd (omega arith)
stuck opened (b ∷ bs) some h = ap (λ (o : Option (Item × List ℕ)). option_and_then (fields_outside opened) (before (length bs) o)) h

-- a field within a group
pub field_inside : (n : ℕ) (opened bs rest : List ℕ) (f : Field) → item_at bs ≡ Some (field f, rest) → read_within (n ∷ opened) bs ≡ read_within (n ∷ opened) rest
field_inside n opened bs rest f h = step (n ∷ opened) bs rest (field f) h

-- a field outside of groups
pub field_outside : (bs rest : List ℕ) (f : Field) → item_at bs ≡ Some (field f, rest) → read bs ≡ option_map (λ (fs : List Field). f ∷ fs) (read rest)
field_outside bs rest f h = step [] bs rest (field f) h ∙ outside (items_within (length rest) rest)
  where
    outside : (o : Option (List Item)) → option_and_then (λ (more : List Item). fields_outside [] (field f ∷ more)) o ≡ option_map (λ (fs : List Field). f ∷ fs) (option_and_then (fields_outside []) o)
    outside None = refl
    outside (Some more) = refl

no_fields : (f : List Item → Option (List Field)) → ((more : List Item) → f more ≡ None) → (o : Option (List Item)) → option_and_then f o ≡ None
no_fields f none None = refl
no_fields f none (Some more) = none more

same_fields : (f g : List Item → Option (List Field)) → ((more : List Item) → f more ≡ g more) → (o : Option (List Item)) → option_and_then f o ≡ option_and_then g o
same_fields f g same None = refl
same_fields f g same (Some more) = same more

start : (opened : List ℕ) (m : ℕ) (more : List Item) → fields_outside opened (group_start m ∷ more) ≡ (if nat_lt (length opened) 100 then fields_outside (m ∷ opened) more else None)
start [] m more = refl
start (n ∷ opened) m more = refl

-- the start of a group
pub started : (opened bs rest : List ℕ) (m : ℕ) → item_at bs ≡ Some (group_start m, rest) → length opened < 100 → read_within opened bs ≡ read_within (m ∷ opened) rest
started opened bs rest m h few =
    let test : nat_lt (length opened) 100 ≡ true = grind (arith, nat_tests) in
    step opened bs rest (group_start m) h
    ∙ same_fields _ _ (λ more. start opened m more ∙ ap (λ (b : Bool). if b then fields_outside (m ∷ opened) more else None) test) (items_within (length rest) rest)

-- one group too many
pub too_deep : (opened bs rest : List ℕ) (m : ℕ) → item_at bs ≡ Some (group_start m, rest) → 100 ≤ length opened → read_within opened bs ≡ None
too_deep opened bs rest m h many =
    let test : nat_lt (length opened) 100 ≡ false = grind (arith, nat_tests) in
    step opened bs rest (group_start m) h
    ∙ no_fields _ (λ more. start opened m more ∙ ap (λ (b : Bool). if b then fields_outside (m ∷ opened) more else None) test) (items_within (length rest) rest)

-- the end of a group
pub ended : (n : ℕ) (opened bs rest : List ℕ) (m : ℕ) → item_at bs ≡ Some (group_end m, rest) → m ≡ n → read_within (n ∷ opened) bs ≡ read_within opened rest
ended n opened bs rest m h same =
    step (n ∷ opened) bs rest (group_end m) h
    ∙ same_fields _ _ (λ more. ap (λ (b : Bool). if b then fields_outside opened more else None) (eq-eqb m n same)) (items_within (length rest) rest)

-- the end of another group
pub ended_other : (n : ℕ) (opened bs rest : List ℕ) (m : ℕ) → item_at bs ≡ Some (group_end m, rest) → (m == n) ≡ false → read_within (n ∷ opened) bs ≡ None
ended_other n opened bs rest m h other =
    step (n ∷ opened) bs rest (group_end m) h
    ∙ no_fields _ (λ more. ap (λ (b : Bool). if b then fields_outside opened more else None) other) (items_within (length rest) rest)

-- an end without a start
pub not_begun : (bs rest : List ℕ) (m : ℕ) → item_at bs ≡ Some (group_end m, rest) → read bs ≡ None
not_begun bs rest m h = step [] bs rest (group_end m) h ∙ no_fields _ (λ more. refl) (items_within (length rest) rest)

-- the item at the front is this one
pub known : (bs after : List ℕ) (it same : declared.Item) → Some (item_of it, after) ≡ item_at bs → it ≡ same → item_at bs ≡ Some (item_of same, after)
known bs after it same h e = sym h ∙ ap (λ (i : declared.Item). Some (item_of i, after)) e

pub none_before : (o : Option (List Field)) → option_map (λ (fs : List Field). [] ++ fs) o ≡ o
none_before None = refl
none_before (Some fs) = refl
