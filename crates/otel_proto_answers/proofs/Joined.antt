-- Messages after messages.
use Rattle.std.proofs.Common.{◌≡◌, ℕ, zero, suc, ◌+◌, ◌-◌, ◌*◌, ◌/◌, ◌%◌, ◌^◌, ◌<◌, ◌≤◌, List, [], ◌∷◌, ◌++◌, length, take, drop, Option, Some, None, Bool, true, false, if◌then◌else◌, refl, sym, ap, ◌∙◌, length-append, arith}
use Rattle.std.specs.Prelude.{nat_lt, nat_le, option_map, option_and_then, ◌==◌}
use Rattle.std.specs.Int.{w32, w64, from_le_bytes}
use Rattle.std.specs.List.{concat}
use Rattle.std.proofs.lemmas.Bool.Decides.{nat_tests}
use Rattle.std.proofs.lemmas.List.{take-append-le, drop-append-le}
use Rattle.std.proofs.lemmas.Option.{option_and_then_some}
use Rattle.otel_proto.specs.Wire.{Field, varint, fixed64, bytes, fixed32, Item, field, group_start, group_end, varint_within, varint_at, split, prefixed, as_field, value_at, is_number, after_tag, item_at, items_within, fields_outside, read}
use Rattle.otel_proto_answers.specs.Answers.{merged}
use Rattle.otel_proto_answers.specs.Laws.{MergedMessagesAreJoined}
use Rattle.otel_proto_answers.proofs.Shorter.{item_shortens}
use Rattle.otel_proto_answers.proofs.Steps.{enough}

-- what is read of bytes is read of them with others after them, which are then left over too
abbrev Goes : {A : Type 0} → List ℕ → Option (A × List ℕ) → Option (A × List ℕ) → Type 0
Goes {A = A} cs o p = (r : A × List ℕ) → o ≡ Some r → p ≡ Some (r.0, r.1 ++ cs)

nothing : {A : Type 0} (cs : List ℕ) (p : Option (A × List ℕ)) → Goes cs None p
nothing cs p r h = cc

there : {A : Type 0} (cs : List ℕ) (x : A) (rest : List ℕ) → Goes cs (Some (x, rest)) (Some (x, rest ++ cs))
there {A = A} cs x rest r h = let same : (x, rest) ≡ r = cc in ap (λ (y : A × List ℕ). Some (y.0, y.1 ++ cs)) same

either : {A : Type 0} (cs : List ℕ) (b : Bool) (x y v w : Option (A × List ℕ)) → Goes cs x v → Goes cs y w → Goes cs (if b then x else y) (if b then v else w)
either cs true x y v w p q = p
either cs false x y v w p q = q

mapped : {A B : Type 0} (cs : List ℕ) (f : A × List ℕ → B × List ℕ) (o p : Option (A × List ℕ)) → ((r : A × List ℕ) → f (r.0, r.1 ++ cs) ≡ ((f r).0, (f r).1 ++ cs)) → Goes cs o p → Goes cs (option_map f o) (option_map f p)
mapped cs f None p keeps h = nothing cs (option_map f p)
mapped {B = B} cs f (Some x) p keeps h = λ r e.
    let same : f x ≡ r = cc in
    ap (option_map f) (h x refl) ∙ ap Some (keeps x) ∙ ap (λ (y : B × List ℕ). Some (y.0, y.1 ++ cs)) same

followed : {A B : Type 0} (cs : List ℕ) (f : A × List ℕ → Option (B × List ℕ)) (o p : Option (A × List ℕ)) → ((r : A × List ℕ) → Goes cs (f r) (f (r.0, r.1 ++ cs))) → Goes cs o p → Goes cs (option_and_then f o) (option_and_then f p)
followed cs f None p keeps h = nothing cs (option_and_then f p)
followed cs f (Some x) p keeps h = λ r e. ap (option_and_then f) (h x refl) ∙ keeps x r e

-- ---- varints
numbers : (cs : List ℕ) (n : ℕ) (bs : List ℕ) → Goes cs (varint_within n bs) (varint_within n (bs ++ cs))
numbers cs zero bs = nothing cs None
numbers cs (suc n) [] = nothing cs (varint_within (suc n) ([] ++ cs))
numbers cs (suc n) (b ∷ bs) =
    either cs (nat_lt b 128) (Some (b, bs)) (option_map (λ (r : ℕ × List ℕ). (b - 128 + 128 * r.0, r.1)) (varint_within n bs)) (Some (b, bs ++ cs)) (option_map (λ (r : ℕ × List ℕ). (b - 128 + 128 * r.0, r.1)) (varint_within n (bs ++ cs)))
    (there cs b bs)
    (mapped cs (λ (r : ℕ × List ℕ). (b - 128 + 128 * r.0, r.1)) (varint_within n bs) (varint_within n (bs ++ cs)) (λ r. refl) (numbers cs n bs))

a_varint : (cs bs : List ℕ) → Goes cs (varint_at bs) (varint_at (bs ++ cs))
a_varint cs bs = mapped cs (λ (r : ℕ × List ℕ). (r.0 % 2 ^ 64, r.1)) (varint_within 10 bs) (varint_within 10 (bs ++ cs)) (λ r. refl) (numbers cs 10 bs)

-- ---- values
both : {s t u v : List ℕ} → s ≡ t → u ≡ v → ◌≡◌ {A = Option (List ℕ × List ℕ)} (Some (s, u)) (Some (t, v))
both p q i = Some (p i, q i)

parted : (cs : List ℕ) (n : ℕ) (bs : List ℕ) (b : Bool) → nat_le n (length bs) ≡ b → Goes cs (if b then Some (take n bs, drop n bs) else None) (split n (bs ++ cs))
parted cs n bs false e = nothing cs (split n (bs ++ cs))
parted cs n bs true e =
    let fits : n ≤ length bs = grind (arith, nat_tests) in
    let longer : n ≤ length (bs ++ cs) = omega (arith, fits, length-append bs cs) in
    let test : nat_le n (length (bs ++ cs)) ≡ true = grind (arith, nat_tests) in
    let first : split n (bs ++ cs) ≡ Some (take n (bs ++ cs), drop n (bs ++ cs)) = ap (λ (t : Bool). if t then Some (take n (bs ++ cs), drop n (bs ++ cs)) else None) test in
    let front : take n (bs ++ cs) ≡ take n bs = take-append-le n bs cs fits in
    let back : drop n (bs ++ cs) ≡ drop n bs ++ cs = drop-append-le n bs cs fits in
    λ r h. first ∙ both front back ∙ there cs (take n bs) (drop n bs) r h

a_split : (cs : List ℕ) (n : ℕ) (bs : List ℕ) → Goes cs (split n bs) (split n (bs ++ cs))
a_split cs n bs = parted cs n bs (nat_le n (length bs)) refl

a_prefixed : (cs bs : List ℕ) → Goes cs (prefixed bs) (prefixed (bs ++ cs))
a_prefixed cs bs = followed cs (λ (r : ℕ × List ℕ). split r.0 r.1) (varint_at bs) (varint_at (bs ++ cs)) (λ r. a_split cs r.0 r.1) (a_varint cs bs)

a_value : (cs : List ℕ) (number type : ℕ) (bs : List ℕ) → Goes cs (value_at number type bs) (value_at number type (bs ++ cs))
a_value cs number type bs =
    either cs (type == 0) _ _ _ _ (mapped cs (as_field number varint) (varint_at bs) (varint_at (bs ++ cs)) (λ r. refl) (a_varint cs bs))
    (either cs (type == 1) _ _ _ _ (mapped cs (as_field number (λ (s : List ℕ). fixed64 (from_le_bytes w64 s))) (split 8 bs) (split 8 (bs ++ cs)) (λ r. refl) (a_split cs 8 bs))
    (either cs (type == 2) _ _ _ _ (mapped cs (as_field number bytes) (prefixed bs) (prefixed (bs ++ cs)) (λ r. refl) (a_prefixed cs bs))
    (either cs (type == 3) _ _ _ _ (there cs (group_start number) bs)
    (either cs (type == 4) _ _ _ _ (there cs (group_end number) bs)
    (either cs (type == 5) _ _ _ _ (mapped cs (as_field number (λ (s : List ℕ). fixed32 (from_le_bytes w32 s))) (split 4 bs) (split 4 (bs ++ cs)) (λ r. refl) (a_split cs 4 bs)) (nothing cs None))))))

an_item : (cs bs : List ℕ) → Goes cs (item_at bs) (item_at (bs ++ cs))
an_item cs bs =
    followed cs after_tag (varint_at bs) (varint_at (bs ++ cs))
    (λ r. either cs (is_number (r.0 / 8)) (value_at (r.0 / 8) (r.0 % 8) r.1) None (value_at (r.0 / 8) (r.0 % 8) (r.1 ++ cs)) None (a_value cs (r.0 / 8) (r.0 % 8) r.1) (nothing cs None))
    (a_varint cs bs)

-- ---- items
abbrev items_of : List ℕ → Option (List Item)
items_of bs = items_within (length bs) bs

next_item : (bs rest : List ℕ) (it : Item) → item_at bs ≡ Some (it, rest) → items_of bs ≡ option_map (λ (more : List Item). it ∷ more) (items_of rest)
next_item [] rest it h = cc
next_item (b ∷ bs) rest it h =
    let lt : length rest < length (b ∷ bs) = item_shortens (b ∷ bs) rest it h in
    let fuel : items_within (length bs) rest ≡ items_within (length rest) rest = enough (length bs) (length rest) rest (omega arith) (omega arith) in
    ap (option_and_then (λ (r : Item × List ℕ). option_map (λ (more : List Item). r.0 ∷ more) (items_within (length bs) r.1))) h
    ∙ ap (option_map (λ (more : List Item). it ∷ more)) fuel

with_none : (o : Option (List Item)) → o ≡ option_map (λ (more : List Item). [] ++ more) o
with_none None = refl
with_none (Some more) = refl

with_one : (it : Item) (its : List Item) (o : Option (List Item)) → option_map (λ (more : List Item). it ∷ more) (option_map (λ (more : List Item). its ++ more) o) ≡ option_map (λ (more : List Item). (it ∷ its) ++ more) o
with_one it its None = refl
with_one it its (Some more) = refl

map_some : {A B P : Type 0} (f : A → B) (o : Option A) (y : B) → option_map f o ≡ Some y → ((x : A) → o ≡ Some x → f x ≡ y → P) → P
map_some f None y h k = cc
map_some f (Some x) y h k = k x refl (cc)

-- the items of bytes with others after them, from those after the first item
abbrev More : List ℕ → List ℕ → Type 0
More cs bs = (its : List Item) → items_of bs ≡ Some its → items_of (bs ++ cs) ≡ option_map (λ (more : List Item). its ++ more) (items_of cs)

after_item : (cs bs rest : List ℕ) (it : Item) → item_at bs ≡ Some (it, rest) → More cs rest → More cs bs
after_item cs bs rest it h known its e =
    map_some (λ (more : List Item). it ∷ more) (items_of rest) its (sym (next_item bs rest it h) ∙ e) (λ more found same.
    next_item (bs ++ cs) (rest ++ cs) it (an_item cs bs (it, rest) h)
    ∙ ap (option_map (λ (xs : List Item). it ∷ xs)) (known more found)
    ∙ with_one it more (items_of cs)
    ∙ ap (λ (xs : List Item). option_map (λ (ys : List Item). xs ++ ys) (items_of cs)) same)

more_items : (cs : List ℕ) (n : ℕ) (bs : List ℕ) → length bs ≤ n → More cs bs
more_items cs n [] le its h = let none : [] ≡ its = cc in with_none (items_of cs) ∙ ap (λ (xs : List Item). option_map (λ (more : List Item). xs ++ more) (items_of cs)) none
more_items cs zero (b ∷ bs) le its h = absurd (omega arith)
more_items cs (suc n) (b ∷ bs) le its h =
    option_and_then_some (λ (r : Item × List ℕ). option_map (λ (more : List Item). r.0 ∷ more) (items_within (length bs) r.1)) (item_at (b ∷ bs)) its h (λ r found same.
    let lt : length r.1 < length (b ∷ bs) = item_shortens (b ∷ bs) r.1 r.0 found in
    after_item cs (b ∷ bs) r.1 r.0 found (more_items cs n r.1 (omega arith)) its h)

-- ---- fields
no_field : (o : Option (List Field)) → o ≡ option_map (λ (more : List Field). [] ++ more) o
no_field None = refl
no_field (Some more) = refl

one_field : (f : Field) (fs : List Field) (o : Option (List Field)) → option_map (λ (more : List Field). f ∷ more) (option_map (λ (more : List Field). fs ++ more) o) ≡ option_map (λ (more : List Field). (f ∷ fs) ++ more) o
one_field f fs None = refl
one_field f fs (Some more) = refl

guarded : (t : Bool) (o p : Option (List Field)) (fs : List Field) (q : Option (List Field)) → (o ≡ Some fs → p ≡ q) → (if t then o else None) ≡ Some fs → (if t then p else None) ≡ q
guarded true o p fs q h e = h e
guarded false o p fs q h e = cc

more_fields : (ys : List Item) (opened : List ℕ) (xs : List Item) (fs : List Field) → fields_outside opened xs ≡ Some fs → fields_outside opened (xs ++ ys) ≡ option_map (λ (more : List Field). fs ++ more) (fields_outside [] ys)
more_fields ys [] [] fs h = let none : [] ≡ fs = cc in no_field (fields_outside [] ys) ∙ ap (λ (gs : List Field). option_map (λ (more : List Field). gs ++ more) (fields_outside [] ys)) none
more_fields ys (n ∷ opened) [] fs h = cc
more_fields ys [] (field f ∷ xs) fs h =
    map_some (λ (more : List Field). f ∷ more) (fields_outside [] xs) fs h (λ gs found same.
    ap (option_map (λ (more : List Field). f ∷ more)) (more_fields ys [] xs gs found)
    ∙ one_field f gs (fields_outside [] ys)
    ∙ ap (λ (hs : List Field). option_map (λ (more : List Field). hs ++ more) (fields_outside [] ys)) same)
more_fields ys (n ∷ opened) (field f ∷ xs) fs h = more_fields ys (n ∷ opened) xs fs h
more_fields ys [] (group_start m ∷ xs) fs h = more_fields ys (m ∷ []) xs fs h
more_fields ys (n ∷ opened) (group_start m ∷ xs) fs h =
    guarded (nat_lt (length (n ∷ opened)) 100) (fields_outside (m ∷ n ∷ opened) xs) (fields_outside (m ∷ n ∷ opened) (xs ++ ys)) fs (option_map (λ (more : List Field). fs ++ more) (fields_outside [] ys)) (more_fields ys (m ∷ n ∷ opened) xs fs) h
more_fields ys [] (group_end m ∷ xs) fs h = cc
more_fields ys (n ∷ opened) (group_end m ∷ xs) fs h =
    guarded (m == n) (fields_outside opened xs) (fields_outside opened (xs ++ ys)) fs (option_map (λ (more : List Field). fs ++ more) (fields_outside [] ys)) (more_fields ys opened xs fs) h

-- ---- messages
joined : (a b : List ℕ) (fs gs : List Field) → read a ≡ Some fs → read b ≡ Some gs → read (a ++ b) ≡ Some (fs ++ gs)
joined a b fs gs h g =
    option_and_then_some (fields_outside []) (items_of a) fs h (λ its found outside.
    option_and_then_some (fields_outside []) (items_of b) gs g (λ more others after.
    ap (option_and_then (fields_outside [])) (more_items b (length a) a (omega arith) its found ∙ ap (option_map (λ (xs : List Item). its ++ xs)) others)
    ∙ more_fields more [] its fs outside
    ∙ ap (option_map (λ (hs : List Field). fs ++ hs)) after))

pub merged_are_joined : MergedMessagesAreJoined
merged_are_joined [] fs h = h
merged_are_joined (s ∷ more) fs h =
    option_and_then_some (λ (f : List Field). option_map (λ (others : List Field). f ++ others) (merged more)) (read s) fs h (λ f found rest.
    map_some (λ (others : List Field). f ++ others) (merged more) fs rest (λ g known same.
    joined s (concat more) f g found (merged_are_joined more g known) ∙ ap Some same))
