-- What is read from the front of bytes leaves fewer.
use Rattle.std.proofs.Common.{◌≡◌, ℕ, zero, suc, ◌+◌, ◌-◌, ◌*◌, ◌/◌, ◌%◌, ◌<◌, ◌≤◌, List, [], ◌∷◌, length, take, drop, Option, Some, None, Bool, true, false, if◌then◌else◌, refl, sym, subst, length-drop, arith}
use Rattle.std.specs.Prelude.{nat_lt, nat_le, option_map, option_and_then, ◌==◌}
use Rattle.otel_proto.specs.Wire.{Item, group_start, group_end, varint_within, varint_at, split, prefixed, value_at, is_number, after_tag, item_at}

-- what is read leaves at most k bytes
abbrev Leaves : {A : Type 0} → ℕ → Option (A × List ℕ) → Type 0
Leaves {A = A} k o = (r : A × List ℕ) → o ≡ Some r → length r.1 ≤ k

nothing : {A : Type 0} (k : ℕ) → Leaves {A = A} k None
nothing k r h = cc

there : {A : Type 0} (k : ℕ) (x : A × List ℕ) → length x.1 ≤ k → Leaves k (Some x)
there {A = A} k x small r h = let same : x ≡ r = cc in subst (λ (y : A × List ℕ). length y.1 ≤ k) same small

either : {A : Type 0} (k : ℕ) (b : Bool) (x y : Option (A × List ℕ)) → Leaves k x → Leaves k y → Leaves k (if b then x else y)
either k true x y p q = p
either k false x y p q = q

mapped : {A B : Type 0} (k : ℕ) (f : A × List ℕ → B × List ℕ) (o : Option (A × List ℕ)) → ((r : A × List ℕ) → (f r).1 ≡ r.1) → Leaves k o → Leaves k (option_map f o)
mapped k f None keeps h = nothing k
mapped k f (Some x) keeps h = there k (f x) (subst (λ (s : List ℕ). length s ≤ k) (sym (keeps x)) (h x refl))

followed : {A B : Type 0} (k : ℕ) (f : A × List ℕ → Option (B × List ℕ)) (o : Option (A × List ℕ)) → ((r : A × List ℕ) → Leaves (length r.1) (f r)) → Leaves k o → Leaves k (option_and_then f o)
followed k f None keeps h = nothing k
followed k f (Some x) keeps h = λ r e. let a : length r.1 ≤ length x.1 = keeps x r e in let b : length x.1 ≤ k = h x refl in omega arith

more : {A : Type 0} (j k : ℕ) (o : Option (A × List ℕ)) → j ≤ k → Leaves j o → Leaves k o
more j k o le h r e = let a : length r.1 ≤ j = h r e in omega arith

-- ---- varints
any : (n : ℕ) (bs : List ℕ) → Leaves (length bs) (varint_within n bs)
any zero bs = nothing (length bs)
any (suc n) [] = nothing 0
any (suc n) (b ∷ bs) =
    either (length (b ∷ bs)) (nat_lt b 128) (Some (b, bs)) (option_map (λ (r : ℕ × List ℕ). (b - 128 + 128 * r.0, r.1)) (varint_within n bs))
    (there (length (b ∷ bs)) (b, bs) (omega arith))
    (mapped (length (b ∷ bs)) _ (varint_within n bs) (λ r. refl) (more (length bs) (length (b ∷ bs)) (varint_within n bs) (omega arith) (any n bs)))

one : (n b : ℕ) (bs : List ℕ) → Leaves (length bs) (varint_within n (b ∷ bs))
one zero b bs = nothing (length bs)
one (suc n) b bs =
    either (length bs) (nat_lt b 128) (Some (b, bs)) (option_map (λ (r : ℕ × List ℕ). (b - 128 + 128 * r.0, r.1)) (varint_within n bs))
    (there (length bs) (b, bs) (omega arith))
    (mapped (length bs) _ (varint_within n bs) (λ r. refl) (any n bs))

a_varint : (bs : List ℕ) → Leaves (length bs) (varint_at bs)
a_varint bs = mapped (length bs) _ (varint_within 10 bs) (λ r. refl) (any 10 bs)

-- ---- values
a_split : (n : ℕ) (bs : List ℕ) → Leaves (length bs) (split n bs)
a_split n bs = either (length bs) (nat_le n (length bs)) _ None (there (length bs) (take n bs, drop n bs) (omega (arith, length-drop n bs))) (nothing (length bs))

a_prefixed : (bs : List ℕ) → Leaves (length bs) (prefixed bs)
a_prefixed bs = followed (length bs) _ (varint_at bs) (λ r. a_split r.0 r.1) (a_varint bs)

a_value : (number type : ℕ) (bs : List ℕ) → Leaves (length bs) (value_at number type bs)
a_value number type bs =
    let k = length bs in
    either k (type == 0) _ _ (mapped k _ (varint_at bs) (λ r. refl) (a_varint bs))
    (either k (type == 1) _ _ (mapped k _ (split 8 bs) (λ r. refl) (a_split 8 bs))
    (either k (type == 2) _ _ (mapped k _ (prefixed bs) (λ r. refl) (a_prefixed bs))
    (either k (type == 3) _ _ (there k (group_start number, bs) (omega arith))
    (either k (type == 4) _ _ (there k (group_end number, bs) (omega arith))
    (either k (type == 5) _ _ (mapped k _ (split 4 bs) (λ r. refl) (a_split 4 bs)) (nothing k))))))

after : (r : ℕ × List ℕ) → Leaves (length r.1) (after_tag r)
after r = either (length r.1) (is_number (r.0 / 8)) _ None (a_value (r.0 / 8) (r.0 % 8) r.1) (nothing (length r.1))

an_item : (b : ℕ) (bs : List ℕ) → Leaves (length bs) (item_at (b ∷ bs))
an_item b bs = followed (length bs) after_tag (varint_at (b ∷ bs)) after (mapped (length bs) _ (varint_within 10 (b ∷ bs)) (λ r. refl) (one 10 b bs))

-- an item has a byte at least
pub item_shortens : (bs rest : List ℕ) (it : Item) → item_at bs ≡ Some (it, rest) → length rest < length bs
item_shortens [] rest it h = cc
item_shortens (b ∷ bs) rest it h = let le : length rest ≤ length bs = an_item b bs (it, rest) h in omega arith
