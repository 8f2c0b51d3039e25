-- The order of parents.
use Rattle.std.proofs.Common.{◌≡◌, ℕ, suc, ◌+◌, ◌-◌, ◌<◌, ◌≤◌, Bool, true, false, cond, not, ◌&&◌, List, [], ◌∷◌, ◌++◌, length, take, drop, get_or, refl, sym, ap, ◌∙◌, arith}
use Rattle.std.specs.Prelude.{filter}
use Rattle.std.specs.List.Sorted.{IsPartitionedBy, IsPartitionPoint, IsStableByKey, ties}
use Rattle.std.specs.Cmp.{IsTotalOrder}
use Rattle.std.specs.declared.cmp.Ordering.{Ordering}
use Rattle.std.specs.declared.cmp.Ordering.TheVariants.{Less, Equal, Greater}
use Rattle.std.specs.Ordering.{is_eq, is_gt, is_le, is_lt, ordering_reverse}
use Rattle.std.proofs.lemmas.Bool.Decides.{nat_tests}
use Rattle.std.proofs.lemmas.Cmp.{upto}
use Rattle.std.proofs.lemmas.List.{take-append-drop, get_or-drop, get_or-take, append-nil, length-take-le, length-drop, take_rest}
use Rattle.std.proofs.lemmas.List.Elements.{filter-append}
use Rattle.std.proofs.lemmas.List.Sorted.{sorted_far, ranks_by}
use Rattle.otel_waterfall.specs.Rows.{AreByParent, children_in, is_same, parent_cmp}
use Rattle.otel_waterfall.specs.contracts.rows.ParentOrd.TheImpl.Laws.{total-law}
use Rattle.otel_waterfall.specs.declared.rows.Node.{Node}
use Rattle.otel_waterfall.specs.declared.rows.Parent.{Parent}
use Rattle.otel_waterfall.specs.declared.rows.Parent.TheVariants.{Root, At, Absent}

tied : (p q : Parent) → (not (is_lt (parent_cmp p q)) && not (is_lt (parent_cmp q p))) ≡ is_same q p
tied Root Root = refl
tied Root (At b) = refl
tied Root (Absent b) = refl
tied (At a) Root = refl
tied (At a) (At b) = grind (arith, nat_tests)
tied (At a) (Absent b) = refl
tied (Absent a) Root = refl
tied (Absent a) (At b) = refl
tied (Absent a) (Absent b) = grind (arith, nat_tests)

pub same_children : (xs ys : List Node) (above : Parent) → IsStableByKey (λ (n : Node). n.parent) parent_cmp xs ys → children_in ys above ≡ children_in xs above
same_children xs ys above stable =
    let test : Node → Bool = λ (n : Node). is_same n.parent above in
    let x : Node = record { place = 0; parent = above } in
    let e : ties (λ (a b : Node). is_lt (parent_cmp a.parent b.parent)) x ≡ test = λ i n. tied above n.parent i in
    ap (λ (t : Node → Bool). filter t ys) (sym e) ∙ stable x ∙ ap (λ (t : Node → Bool). filter t xs) e

-- ---- parents by an answer of the order
total : IsTotalOrder parent_cmp
total = total-law

own : (r : Ordering) → (not (is_lt (ordering_reverse r)) && not (is_lt r)) ≡ is_eq r
own Less = refl
own Equal = refl
own Greater = refl

same_by : (p q : Parent) → is_same q p ≡ is_eq (parent_cmp q p)
same_by p q =
    sym (tied p q) ∙ ap (λ (r : Ordering). not (is_lt r) && not (is_lt (parent_cmp q p))) (total.antisymm p q) ∙ own (parent_cmp q p)

same_at : (r : Ordering) → is_le r ≡ true → is_lt r ≡ false → is_eq r ≡ true
same_at Less h k = sym k
same_at Equal h k = refl
same_at Greater h k = h

other_after : (r : Ordering) → is_le r ≡ false → is_eq r ≡ false
other_after Less h = refl
other_after Equal h = h
other_after Greater h = refl

other_before : (r : Ordering) → is_lt r ≡ true → is_eq r ≡ false
other_before Less h = refl
other_before Equal h = sym h
other_before Greater h = refl

gt_of_reverse : (r : Ordering) → is_gt (ordering_reverse r) ≡ is_lt r
gt_of_reverse Less = refl
gt_of_reverse Equal = refl
gt_of_reverse Greater = refl

gt_back : (p q : Parent) → is_gt (parent_cmp p q) ≡ is_lt (parent_cmp q p)
gt_back p q = ap is_gt (total.antisymm p q) ∙ gt_of_reverse (parent_cmp q p)

not_gt : (r : Ordering) → is_le r ≡ true → is_gt r ≡ false
not_gt Less h = refl
not_gt Equal h = refl
not_gt Greater h = sym h

le_of : (r : Ordering) → is_gt r ≡ false → is_le r ≡ true
le_of Less h = refl
le_of Equal h = refl
le_of Greater h = sym h

unless : (b : Bool) → (b ≡ false → true ≡ false) → b ≡ true
unless true h = refl
unless false h = sym (h refl)

-- ---- nodes ordered by parent
in_order : (xs : List Node) → AreByParent xs → (i j : ℕ) (d : Node) → i ≤ j → j < length xs → is_gt (parent_cmp (get_or xs i d).parent (get_or xs j d).parent) ≡ false
in_order xs up i j d le below =
    gt_back (get_or xs i d).parent (get_or xs j d).parent
    ∙ sorted_far (λ (a b : Node). is_lt (parent_cmp a.parent b.parent)) (ranks_by total (λ (n : Node). n.parent)) xs up i j d le below

pub partitioned_le : (xs : List Node) (above : Parent) → AreByParent xs → IsPartitionedBy (λ (n : Node). is_le (parent_cmp n.parent above)) xs
partitioned_le xs above up = λ i j d le below h.
    le_of _ (upto total (get_or xs i d).parent (get_or xs j d).parent above (in_order xs up i j d le below) (not_gt _ h))

pub partitioned_lt : (xs : List Node) (above : Parent) → AreByParent xs → IsPartitionedBy (λ (n : Node). is_lt (parent_cmp n.parent above)) xs
partitioned_lt xs above up = λ i j d le below h.
    unless _ (λ k.
    let far : is_gt (parent_cmp above (get_or xs j d).parent) ≡ false =
    upto total above (get_or xs i d).parent (get_or xs j d).parent (gt_back above (get_or xs i d).parent ∙ k) (in_order xs up i j d le below) in
    sym h ∙ sym (gt_back above (get_or xs j d).parent) ∙ far)

pub partitioned_take : (p : Node → Bool) (n : ℕ) (xs : List Node) → n ≤ length xs → IsPartitionedBy p xs → IsPartitionedBy p (take n xs)
partitioned_take p n xs fits h = λ i j d le below k.
    let within : j < n = omega (arith, below, length-take-le n xs fits) in
    ap p (get_or-take n xs i d (omega arith))
    ∙ h i j d le (omega arith) (sym (ap p (get_or-take n xs j d within)) ∙ k)

-- ---- the nodes between two points
filter_all : (p : Node → Bool) (xs : List Node) → ((k : ℕ) (d : Node) → k < length xs → p (get_or xs k d) ≡ true) → filter p xs ≡ xs
filter_all p [] h = refl
filter_all p (x ∷ xs) h =
    ap (λ (b : Bool). cond b (x ∷ filter p xs) (filter p xs)) (h 0 x (omega arith))
    ∙ ap (λ (ys : List Node). x ∷ ys) (filter_all p xs (λ k d below. h (suc k) d (omega arith)))

filter_none : (p : Node → Bool) (xs : List Node) → ((k : ℕ) (d : Node) → k < length xs → p (get_or xs k d) ≡ false) → filter p xs ≡ []
filter_none p [] h = refl
filter_none p (x ∷ xs) h =
    ap (λ (b : Bool). cond b (x ∷ filter p xs) (filter p xs)) (h 0 x (omega arith))
    ∙ filter_none p xs (λ k d below. h (suc k) d (omega arith))

abbrev pub le : Parent → Node → Bool
le above n = is_le (parent_cmp n.parent above)

abbrev pub lt : Parent → Node → Bool
lt above n = is_lt (parent_cmp n.parent above)

after_end : (above : Parent) (xs : List Node) (end : ℕ) → end ≤ length xs → IsPartitionPoint (λ (n : Node). le above n ≡ true) (λ (n : Node). le above n ≡ false) xs end
    → children_in (drop end xs) above ≡ []
after_end above xs end fits cut =
    filter_none (λ (n : Node). is_same n.parent above) (drop end xs) (λ k d below.
    ap (λ (n : Node). is_same n.parent above) (get_or-drop end xs k d)
    ∙ same_by above (get_or xs (end + k) d).parent
    ∙ other_after _ (cut.1 (end + k) d (omega arith) (omega (arith, below, length-drop end xs))))

before_start : (above : Parent) (xs : List Node) (start : ℕ) → start ≤ length xs → IsPartitionPoint (λ (n : Node). lt above n ≡ true) (λ (n : Node). lt above n ≡ false) xs start
    → children_in (take start xs) above ≡ []
before_start above xs start fits cut =
    filter_none (λ (n : Node). is_same n.parent above) (take start xs) (λ k d below.
    let within : k < start = omega (arith, below, length-take-le start xs fits) in
    ap (λ (n : Node). is_same n.parent above) (get_or-take start xs k d within)
    ∙ same_by above (get_or xs k d).parent
    ∙ other_before _ (cut.0 k d (omega arith) within))

between : (above : Parent) (xs : List Node) (end start : ℕ) → end ≤ length xs → start ≤ length (take end xs)
    → IsPartitionPoint (λ (n : Node). le above n ≡ true) (λ (n : Node). le above n ≡ false) xs end
    → IsPartitionPoint (λ (n : Node). lt above n ≡ true) (λ (n : Node). lt above n ≡ false) (take end xs) start
    → children_in (drop start (take end xs)) above ≡ drop start (take end xs)
between above xs end start fits fits_too cut cut_too =
    filter_all (λ (n : Node). is_same n.parent above) (drop start (take end xs)) (λ k d below.
    let long : length (take end xs) ≡ end = length-take-le end xs fits in
    let within : start + k < end = omega (arith, below, long, length-drop start (take end xs)) in
    ap (λ (n : Node). is_same n.parent above) (get_or-drop start (take end xs) k d)
    ∙ same_by above (get_or (take end xs) (start + k) d).parent
    ∙ same_at _
    (ap (le above) (get_or-take end xs (start + k) d within) ∙ cut.0 (start + k) d (omega arith) within)
    (cut_too.1 (start + k) d (omega arith) (omega arith)))

pub children_between : (above : Parent) (xs : List Node) (end start : ℕ) → end ≤ length xs → start ≤ length (take end xs)
    → IsPartitionPoint (λ (n : Node). le above n ≡ true) (λ (n : Node). le above n ≡ false) xs end
    → IsPartitionPoint (λ (n : Node). lt above n ≡ true) (λ (n : Node). lt above n ≡ false) (take end xs) start
    → take (length (take end xs) - start) (drop start (take end xs)) ≡ children_in xs above
children_between above xs end start fits fits_too cut cut_too =
    let test = λ (n : Node). is_same n.parent above in
    let mid = drop start (take end xs) in
    let whole : children_in xs above ≡ mid =
    ap (filter test) (sym (take-append-drop end xs)) ∙ filter-append test (take end xs) (drop end xs)
    ∙ ap (λ (ys : List Node). children_in (take end xs) above ++ ys) (after_end above xs end fits cut) ∙ append-nil (children_in (take end xs) above)
    ∙ ap (filter test) (sym (take-append-drop start (take end xs))) ∙ filter-append test (take start (take end xs)) mid
    ∙ ap (λ (ys : List Node). ys ++ children_in mid above) (before_start above (take end xs) start fits_too cut_too)
    ∙ between above xs end start fits fits_too cut cut_too in
    take_rest (take end xs) start ∙ sym whole
