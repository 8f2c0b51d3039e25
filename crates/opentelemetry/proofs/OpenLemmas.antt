-- The open spans of a value that traces: the table that holds them, and their places.
use Rattle.std.proofs.Common.{◌≡◌, ◌∙◌, ℕ, ◌+◌, ◌<◌, ◌≤◌, suc, Bool, true, false, cond, List, [], ◌∷◌, ◌++◌, take, drop, get_or, reverse}
use Rattle.std.proofs.Common.{Option, Some, None, Result, Ok, Err, OnErr, OnOk, refl, sym, ap, subst, arith, inl, inr, map as each, append_assoc}
use Rattle.std.specs.Prelude.{codes, ◌==◌, ◌||◌, not, option_map, IsPermutation, slice_get}
use Rattle.std.specs.List.{cons_option}
use Rattle.std.specs.Ordering.{nat_cmp}
use Rattle.std.specs.Cmp.{nat_cmp_total, unsigned_Decides}
use Rattle.std.specs.FinMap as map
use Rattle.std.specs.Option.{option_map_or}
use Rattle.std.proofs.Math.Seq.{split_at}
use Rattle.std.proofs.lemmas.Bool.{cases_Bool}
use Rattle.std.proofs.lemmas.Cmp.{nat_eq_equiv}
use Rattle.std.proofs.lemmas.List.{map-append, reverse-append, take_more}
use Rattle.std.proofs.lemmas.List.Elements.{filter_map-append}
use Rattle.std.proofs.lemmas.List.Sorted.{IsPermutation-append_right, IsPermutation-cons, IsPermutation-middle, IsPermutation-sym, IsPermutation-to_front, IsPermutation-trans}
use Rattle.std.proofs.lemmas.Option.{get_or_from_slice_get, slice_get_within}
use Rattle.otel_base.specs.KeyValue.{Attribute}
use Rattle.otel_base.specs.View.{attribute_of}
use Rattle.otel_context.specs.SpanCalls.{after_effect}
use Rattle.otel_context.specs.SpanEffects.{attributes_of}
use Rattle.otel_context.specs.Spans as table
use Rattle.otel_context.specs.Spans.{SpansState}
use Rattle.otel_context.proofs.shared.SpansLemmas.{flipped}
use Rattle.otel_context.specs.declared.span.status.Status.{Status}
use Rattle.otel_ids.specs.SpanContext.{SpanContextRecord}
use Rattle.opentelemetry.specs.OpenSpans.{IsSound}
use Rattle.opentelemetry.specs.SpanChange.{change_of}
use Rattle.opentelemetry.specs.SpanSource.{IsKept, SourceCalls}
use Rattle.opentelemetry.specs.Tracing.{AreHeld, FallBelow, is_inside, is_open, open_of, without}
use Rattle.opentelemetry.specs.declared.trace.tracing.change.SpanChange.{SpanChange}
use Rattle.opentelemetry.specs.declared.trace.tracing.change.SpanChange.TheVariants.{AddEvent, AddLink, Fail, SetAttribute, SetStatus, UpdateName}
use Rattle.opentelemetry.specs.declared.trace.tracing.open_spans.OpenSpan.{OpenSpan}

-- ---- one number of a table

same_number : (n m : ℕ) → (n == m) ≡ true → n ≡ m
same_number n m e = (unsigned_Decides n m).0 e

-- a smaller number is another one
other : (n m : ℕ) → n < m → (m == n) ≡ false
other n m lt = elim (cases_Bool (m == n)) [
  | inl t ↦ let same : m ≡ n = same_number m n t in absurd (omega (arith, same, lt))
  | inr f ↦ f
]

other_too : (n m : ℕ) → n < m → (n == m) ≡ false
other_too n m lt = nat_eq_equiv.symm n m ∙ other n m lt

module _ {S : Type 0} where
  pub get-replace : (a : SpansState S) (n : ℕ) (s : S) (m : ℕ)
      → table.get (table.replace a n s) m ≡ cond (n == m) (Some s) (table.get a m)
  get-replace a n s m = map.get-insert nat_cmp_total a.spans n s m
      ∙ ap (λ (b : Bool). cond b (Some s) (map.get a.spans m)) (flipped n m)

  get-next : (a : SpansState S) (s : S) (m : ℕ)
      → table.get (table.insert a s) m ≡ cond (a.next_number == m) (Some s) (table.get a m)
  get-next a s m = map.get-insert nat_cmp_total a.spans a.next_number s m
      ∙ ap (λ (b : Bool). cond b (Some s) (map.get a.spans m)) (flipped a.next_number m)

  get-take : (a : SpansState S) (n m : ℕ)
      → table.get (table.take a n) m ≡ cond (n == m) None (table.get a m)
  get-take a n m = map.get-remove nat_cmp_total a.spans n m
      ∙ ap (λ (b : Bool). cond b None (map.get a.spans m)) (flipped n m)

  get-replaced : (a : SpansState S) (n : ℕ) (s : S) → table.get (table.replace a n s) n ≡ Some s
  get-replaced a n s = get-replace a n s n
      ∙ ap (λ (b : Bool). cond b (Some s) (table.get a n)) (nat_eq_equiv.refl n)

  -- a span written back as it was
  written_back : (a : SpansState S) (n : ℕ) (s : S) → table.get a n ≡ Some s → table.replace a n s ≡ a
  written_back a n s e = ap (λ (spans : map.FinMap nat_cmp S). record a { spans = spans })
      (map.same_map nat_cmp_total map.nat_cmp-IsAntisymmetric (map.insert a.spans n s) a.spans (λ m. get-replace a n s m
      ∙ (elim (cases_Bool (n == m)) [
        | inl t ↦ ap (λ (b : Bool). cond b (Some s) (map.get a.spans m)) t ∙ sym e ∙ ap (λ (k : ℕ). map.get a.spans k) (same_number n m t)
        | inr f ↦ ap (λ (b : Bool). cond b (Some s) (map.get a.spans m)) f
      ])))

  -- ---- a change of the span with the number

  module _ {F : Type 0} (f : S → S) (a b : SpansState S) (n : ℕ) (s t : S) where
    pub changed-here : (r : Result (Unit {0}) F) → b ≡ table.replace a n t → table.get a n ≡ Some s
        → OnOk r (t ≡ f s) → OnOk r (b ≡ after_effect f a (Some n))
    changed-here (Ok u) written at ok = written ∙ ap (λ (x : S). table.replace a n x) ok
        ∙ sym (ap (λ (o : Option S). option_map_or (λ x. table.replace a n (f x)) o a) at)
    changed-here (Err e) written at ok = tt

    pub unchanged-here : (r : Result (Unit {0}) F) → b ≡ table.replace a n t → table.get a n ≡ Some s
        → OnErr r (t ≡ s) → OnErr r (b ≡ a)
    unchanged-here (Ok u) written at err = tt
    unchanged-here (Err e) written at err = written ∙ ap (λ (x : S). table.replace a n x) err ∙ written_back a n s at

-- ---- the places

fall-more : (b c : ℕ) (places : List OpenSpan) → b ≤ c → FallBelow b places → FallBelow c places
fall-more b c [] le f = tt
fall-more b c (e ∷ older) le f = (omega (arith, le, f.0), f.1)

-- a number above all of these is none of them
pub closed-above : (n bound : ℕ) (places : List OpenSpan) → bound ≤ n → FallBelow bound places
    → is_open n places ≡ false
closed-above n bound [] le f = refl
closed-above n bound (e ∷ older) le f =
    ap (λ (b : Bool). b || is_open n older) (other_too e.number n (omega (arith, le, f.0)))
    ∙ closed-above n e.number older (omega (arith, le, f.0)) f.1

without-above : (n bound : ℕ) (places : List OpenSpan) → bound ≤ n → FallBelow bound places
    → without n places ≡ places
without-above n bound [] le f = refl
without-above n bound (e ∷ older) le f =
    ap (λ (b : Bool). cond (not b) (e ∷ without n older) (without n older)) (other_too e.number n (omega (arith, le, f.0)))
    ∙ ap (λ (es : List OpenSpan). e ∷ es) (without-above n e.number older (omega (arith, le, f.0)) f.1)

within-bound : (bound : ℕ) (newer : List OpenSpan) (place : OpenSpan) (older : List OpenSpan)
    → FallBelow bound (newer ++ place ∷ older) → place.number < bound
within-bound bound [] place older f = f.0
within-bound bound (e ∷ es) place older f =
    let rest = within-bound e.number es place older f.1 in omega (arith, rest, f.0)

-- the span in the middle is left out
pub without-middle : (bound : ℕ) (newer : List OpenSpan) (place : OpenSpan) (older : List OpenSpan)
    → FallBelow bound (newer ++ place ∷ older) → without place.number (newer ++ place ∷ older) ≡ newer ++ older
without-middle bound [] place older f =
    ap (λ (b : Bool). cond (not b) (place ∷ without place.number older) (without place.number older)) (nat_eq_equiv.refl place.number)
    ∙ without-above place.number place.number older (omega arith) f.1
without-middle bound (e ∷ es) place older f =
    let rest : List OpenSpan = without place.number (es ++ place ∷ older) in
    ap (λ (b : Bool). cond (not b) (e ∷ rest) rest) (other place.number e.number (within-bound e.number es place older f.1))
    ∙ ap (λ (xs : List OpenSpan). e ∷ xs) (without-middle e.number es place older f.1)

fall-middle : (bound : ℕ) (newer : List OpenSpan) (place : OpenSpan) (older : List OpenSpan)
    → FallBelow bound (newer ++ place ∷ older) → FallBelow bound (newer ++ older)
fall-middle bound [] place older f = fall-more place.number bound older (omega (arith, f.0)) f.1
fall-middle bound (e ∷ es) place older f = (f.0, fall-middle e.number es place older f.1)

-- the newer spans don't matter for what the span in the middle is inside
pub inside-middle : (outer bound : ℕ) (newer : List OpenSpan) (place : OpenSpan) (older : List OpenSpan)
    → FallBelow bound (newer ++ place ∷ older)
    → is_inside outer (newer ++ place ∷ older) place.number ≡ is_inside outer (place ∷ older) place.number
inside-middle outer bound [] place older f = refl
inside-middle outer bound (e ∷ es) place older f =
    let rest : List OpenSpan = es ++ place ∷ older in
    ap (λ (b : Bool). cond b (cond (place.number == outer) true (option_map_or (is_inside outer rest) e.within false))
    (is_inside outer rest place.number)) (other place.number e.number (within-bound e.number es place older f.1))
    ∙ inside-middle outer e.number es place older f.1

-- ---- the places in the order of a `Vec`, the oldest first

pub reverse-last : {A : Type 0} (xs : List A) (x : A) → reverse (xs ++ x ∷ []) ≡ x ∷ reverse xs
reverse-last xs x = reverse-append xs (x ∷ [])

module _ {A : Type 0} (xs : List A) (i : ℕ) where
  -- the newer and the older elements than the one at the index, the newest first
  abbrev pub newer_than : List A
  newer_than = reverse (drop (suc i) xs)

  abbrev pub older_than : List A
  older_than = reverse (take i xs)

  pub reverse-split : (x : A) → slice_get xs i ≡ Some x → reverse xs ≡ newer_than ++ x ∷ older_than
  reverse-split x at =
      let split : xs ≡ take i xs ++ get_or xs i x ∷ drop (suc i) xs = split_at xs i x (slice_get_within xs i x at) in
      let same : get_or xs i x ≡ x = get_or_from_slice_get xs i x x at in
      ap (λ (ys : List A). reverse ys) (split ∙ ap (λ (y : A). take i xs ++ y ∷ drop (suc i) xs) same)
      ∙ reverse-append (take i xs) (x ∷ drop (suc i) xs)
      ∙ ap (λ (ys : List A). ys ++ older_than) (reverse-append (x ∷ []) (drop (suc i) xs))
      ∙ append_assoc newer_than (x ∷ []) older_than

  pub reverse-remove : reverse (take i xs ++ drop (suc i) xs) ≡ newer_than ++ older_than
  reverse-remove = reverse-append (take i xs) (drop (suc i) xs)

-- ---- the ids of the open spans

module _ {S I : Type 0} (ids : S → I) where
  -- the two tables have the same ids under the number
  abbrev pub KeepsIds : SpansState S → SpansState S → ℕ → Type 0
  KeepsIds a b n = option_map ids (table.get b n) ≡ option_map ids (table.get a n)

  -- the two tables have the same ids for each of these
  abbrev pub KeepAllIds : SpansState S → SpansState S → List OpenSpan → Type 0
  KeepAllIds a b [] = Unit {0}
  KeepAllIds a b (e ∷ older) = KeepsIds a b e.number × KeepAllIds a b older

  ids-cons : (o : Option S) (xs : List S) → each ids (cons_option o xs) ≡ cons_option (option_map ids o) (each ids xs)
  ids-cons None xs = refl
  ids-cons (Some s) xs = refl

  held_of : (o p : Option S) (s : S) → option_map ids p ≡ option_map ids o → o ≡ Some s → (t : S) × (p ≡ Some t)
  held_of o None s e at = let some : option_map ids o ≡ Some (ids s) = ap (λ (q : Option S). option_map ids q) at in absurd (cc)
  held_of o (Some t) s e at = (t, refl)

  module _ (a b : SpansState S) where
    pub held-stays : (places : List OpenSpan) → KeepAllIds a b places → AreHeld a places → AreHeld b places
    held-stays [] k h = tt
    held-stays (e ∷ older) k h = (
      held_of (table.get a e.number) (table.get b e.number) h.0.0 k.0 h.0.1,
      held-stays older k.1 h.1,
    )

    pub ids-stay : (places : List OpenSpan) → KeepAllIds a b places
        → each ids (open_of b places) ≡ each ids (open_of a places)
    ids-stay [] k = refl
    ids-stay (e ∷ older) k = ids-cons (table.get b e.number) (open_of b older)
        ∙ (λ i. cons_option (k.0 i) (ids-stay older k.1 i))
        ∙ sym (ids-cons (table.get a e.number) (open_of a older))

    pub keep-below : (bound : ℕ) (places : List OpenSpan) → FallBelow bound places
        → ((n : ℕ) → n < bound → KeepsIds a b n) → KeepAllIds a b places
    keep-below bound [] f h = tt
    keep-below bound (e ∷ older) f h =
        (h e.number f.0, keep-below e.number older f.1 (λ n lt. h n (omega (arith, lt, f.0))))

  -- another span was taken
  keep-taken : (a : SpansState S) (n m : ℕ) → (n == m) ≡ false → KeepsIds a (table.take a n) m
  keep-taken a n m f = ap (λ (o : Option S). option_map ids o)
      (get-take a n m ∙ ap (λ (b : Bool). cond b None (table.get a m)) f)

  keep-closed : (a : SpansState S) (n : ℕ) (places : List OpenSpan) → is_open n places ≡ false
      → KeepAllIds a (table.take a n) places
  keep-closed a n [] c = tt
  keep-closed a n (e ∷ older) c = elim (cases_Bool (e.number == n)) [
    | inl t ↦
        let bad : true ≡ false = sym (ap (λ (b : Bool). b || is_open n older) t) ∙ c in absurd (cc)
    | inr f ↦ (
      keep-taken a n e.number (nat_eq_equiv.symm n e.number ∙ f),
      keep-closed a n older (sym (ap (λ (b : Bool). b || is_open n older) f) ∙ c),
    )
  ]

  keep-middle : (a : SpansState S) (bound : ℕ) (newer : List OpenSpan) (place : OpenSpan) (older : List OpenSpan)
      → FallBelow bound (newer ++ place ∷ older) → KeepAllIds a (table.take a place.number) (newer ++ older)
  keep-middle a bound [] place older f = keep-below a (table.take a place.number) place.number older f.1
      (λ n lt. keep-taken a place.number n (other n place.number lt))
  keep-middle a bound (e ∷ es) place older f = (
    keep-taken a place.number e.number (other_too place.number e.number (within-bound e.number es place older f.1)),
    keep-middle a e.number es place older f.1,
  )

  -- a change that keeps the ids
  keep-changed_of : (f : S → S) → ((s : S) → ids (f s) ≡ ids s) → (a : SpansState S) (k n : ℕ) (o : Option S) → table.get a k ≡ o
      → KeepsIds a (option_map_or (λ s. table.replace a k (f s)) o a) n
  keep-changed_of f keeps a k n None at = refl
  keep-changed_of f keeps a k n (Some s) at = ap (λ (o : Option S). option_map ids o) (get-replace a k (f s) n)
      ∙ (elim (cases_Bool (k == n)) [
        | inl t ↦
            ap (λ (b : Bool). option_map ids (cond b (Some (f s)) (table.get a n))) t ∙ ap (λ (i : I). Some i) (keeps s)
            ∙ sym (ap (λ (o : Option S). option_map ids o) (ap (λ (m : ℕ). table.get a m) (sym (same_number k n t)) ∙ at))
        | inr g ↦ ap (λ (b : Bool). option_map ids (cond b (Some (f s)) (table.get a n))) g
      ])

  next-changed_of : (f : S → S) (a : SpansState S) (k : ℕ) (o : Option S)
      → (option_map_or (λ s. table.replace a k (f s)) o a).next_number ≡ a.next_number
  next-changed_of f a k None = refl
  next-changed_of f a k (Some s) = refl

  keep-all : (a b : SpansState S) (places : List OpenSpan) → ((n : ℕ) → KeepsIds a b n) → KeepAllIds a b places
  keep-all a b [] h = tt
  keep-all a b (e ∷ older) h = (h e.number, keep-all a b older h)

-- ---- soundness

module _ {B S : Type 0} (calls : SourceCalls B S) where
  -- the table changed, but not the ids of the open spans
  pub sound-stays : (source : B) (a b : SpansState S) (places : List OpenSpan) → a.next_number ≤ b.next_number
      → KeepAllIds calls.ids_of a b places → IsSound calls source a places → IsSound calls source b places
  sound-stays source a b places le k h = record {
    falling = fall-more a.next_number b.next_number places le h.falling;
    held = held-stays calls.ids_of a b places k h.held;
    once = subst (λ xs. IsPermutation (each calls.ids_of (calls.taken source) ++ xs) (each calls.ids_of (calls.begun source)))
        (sym (ids-stay calls.ids_of a b places k)) h.once;
  }

  -- a span was inserted that hasn't begun, or none
  pub sound-insert : {X E : Type 0} (source : B) (a b : SpansState S) (places : List OpenSpan) (s : S) (r : Result X E)
      → OnOk r (b ≡ table.insert a s) → OnErr r (b ≡ a) → IsSound calls source a places → IsSound calls source b places
  sound-insert source a b places s (Ok x) ok err h = subst (λ c. IsSound calls source c places) (sym ok)
      (sound-stays source a (table.insert a s) places (omega arith)
      (keep-below calls.ids_of a (table.insert a s) a.next_number places h.falling
      (λ n lt. ap (λ (o : Option S). option_map calls.ids_of o)
      (get-next a s n ∙ ap (λ (c : Bool). cond c (Some s) (table.get a n)) (other n a.next_number lt)))) h)
  sound-insert source a b places s (Err e) ok err h = subst (λ c. IsSound calls source c places) (sym err) h

  -- a span was taken that isn't open
  pub sound-remove : (source : B) (a b : SpansState S) (places : List OpenSpan) (n : ℕ) → is_open n places ≡ false
      → b ≡ table.take a n → IsSound calls source a places → IsSound calls source b places
  sound-remove source a b places n closed is h = subst (λ c. IsSound calls source c places) (sym is)
      (sound-stays source a (table.take a n) places (omega arith) (keep-closed calls.ids_of a n places closed) h)

  -- a span was changed, or none
  pub sound-change : {E : Type 0} (source : B) (a b : SpansState S) (places : List OpenSpan) (n : ℕ) (f : S → S)
      → ((s : S) → calls.ids_of (f s) ≡ calls.ids_of s) → (r : Result (Unit {0}) E)
      → OnOk r (b ≡ after_effect f a (Some n)) → OnErr r (b ≡ a)
      → IsSound calls source a places → IsSound calls source b places
  sound-change source a b places n f keeps (Ok u) ok err h = subst (λ c. IsSound calls source c places) (sym ok)
      (sound-stays source a (after_effect f a (Some n)) places
      (omega (arith, next-changed_of calls.ids_of f a n (table.get a n)))
      (keep-all calls.ids_of a (after_effect f a (Some n)) places
      (λ m. keep-changed_of calls.ids_of f keeps a n m (table.get a n) refl)) h)
  sound-change source a b places n f keeps (Err e) ok err h = subst (λ c. IsSound calls source c places) (sym err) h

  -- a span begins
  pub sound-begin : (source next : B) (a b : SpansState S) (places : List OpenSpan) (place : OpenSpan) (s : S)
      → FallBelow place.number places → place.number < a.next_number → b ≡ table.replace a place.number s
      → calls.begun next ≡ calls.begun source ++ s ∷ [] → calls.taken next ≡ calls.taken source
      → IsSound calls source a places → IsSound calls next b (place ∷ places)
  sound-begin source next a b places place s newest given is begun taken h =
      let c : SpansState S = table.replace a place.number s in
      let keep : KeepAllIds calls.ids_of a c places = keep-below calls.ids_of a c place.number places newest
      (λ n lt. ap (λ (o : Option S). option_map calls.ids_of o)
      (get-replace a place.number s n ∙ ap (λ (t : Bool). cond t (Some s) (table.get a n)) (other n place.number lt))) in
      let here : table.get c place.number ≡ Some s = get-replaced a place.number s in
      let ids = calls.ids_of in
      let before = each ids (calls.taken source) in
      let open_before = each ids (open_of a places) in
      let begun_before = each ids (calls.begun source) in
      let opened : each ids (open_of c (place ∷ places)) ≡ ids s ∷ open_before =
      ap (λ (o : Option S). each ids (cons_option o (open_of c places))) here
      ∙ ap (λ xs. ids s ∷ xs) (ids-stay ids a c places keep) in
      let more : each ids (calls.begun next) ≡ begun_before ++ ids s ∷ [] =
      ap (λ (xs : List S). each ids xs) begun ∙ map-append ids (calls.begun source) (s ∷ []) in
      let all : each ids (calls.taken next) ++ each ids (open_of c (place ∷ places)) ≡ before ++ ids s ∷ open_before =
      (λ i. each ids (taken i) ++ opened i) in
      let once : IsPermutation (before ++ ids s ∷ open_before) (begun_before ++ ids s ∷ []) =
      IsPermutation-trans _ _ _ (IsPermutation-middle before (ids s) open_before)
      (IsPermutation-trans _ _ _ (IsPermutation-cons (ids s) _ _ h.once)
      (IsPermutation-sym _ _ (IsPermutation-to_front begun_before (ids s)))) in
      subst (λ d. IsSound calls next d (place ∷ places)) (sym is) (record {
        falling = (given, newest);
        held = ((s, here), held-stays ids a c places keep h.held);
        once = subst (λ xs. IsPermutation xs (each ids (calls.begun next))) (sym all)
            (subst (λ ys. IsPermutation (before ++ ids s ∷ open_before) ys) (sym more) once);
      })

  held-middle : (a : SpansState S) (newer : List OpenSpan) (place : OpenSpan) (older : List OpenSpan)
      → AreHeld a (newer ++ place ∷ older) → AreHeld a (newer ++ older)
  held-middle a [] place older h = h.1
  held-middle a (e ∷ es) place older h = (h.0, held-middle a es place older h.1)

  held-here : (a : SpansState S) (newer : List OpenSpan) (place : OpenSpan) (older : List OpenSpan)
      → AreHeld a (newer ++ place ∷ older) → (s : S) × (table.get a place.number ≡ Some s)
  held-here a [] place older h = h.0
  held-here a (e ∷ es) place older h = held-here a es place older h.1

  -- the open span in the middle ended and was taken
  sound-middle : (source next : B) (a : SpansState S) (newer older : List OpenSpan) (place : OpenSpan) (s t : S)
      → table.get a place.number ≡ Some s → calls.ids_of t ≡ calls.ids_of s
      → calls.begun next ≡ calls.begun source → calls.taken next ≡ calls.taken source ++ t ∷ []
      → IsSound calls source a (newer ++ place ∷ older)
      → IsSound calls next (table.take a place.number) (newer ++ older)
  sound-middle source next a newer older place s t at same begun taken h =
      let c : SpansState S = table.take a place.number in
      let ids = calls.ids_of in
      let keep : KeepAllIds ids a c (newer ++ older) = keep-middle ids a a.next_number newer place older h.falling in
      let before = each ids (calls.taken source) in
      let newer_ids = each ids (open_of a newer) in
      let older_ids = each ids (open_of a older) in
      let both : each ids (open_of c (newer ++ older)) ≡ newer_ids ++ older_ids =
      ids-stay ids a c (newer ++ older) keep
      ∙ ap (λ (xs : List S). each ids xs) (filter_map-append (λ e. table.get a e.number) newer older)
      ∙ map-append ids (open_of a newer) (open_of a older) in
      let opened : each ids (open_of a (newer ++ place ∷ older)) ≡ newer_ids ++ ids s ∷ older_ids =
      ap (λ (xs : List S). each ids xs) (filter_map-append (λ e. table.get a e.number) newer (place ∷ older))
      ∙ map-append ids (open_of a newer) (open_of a (place ∷ older))
      ∙ ap (λ (o : Option S). newer_ids ++ each ids (cons_option o (open_of a older))) at in
      let ended : each ids (calls.taken next) ≡ before ++ ids s ∷ [] =
      ap (λ (xs : List S). each ids xs) taken ∙ map-append ids (calls.taken source) (t ∷ [])
      ∙ ap (λ x. before ++ x ∷ []) same in
      let all : each ids (calls.taken next) ++ each ids (open_of c (newer ++ older)) ≡ before ++ ids s ∷ (newer_ids ++ older_ids) =
      (λ i. ended i ++ both i) ∙ append_assoc before (ids s ∷ []) (newer_ids ++ older_ids) in
      let old_once : IsPermutation (before ++ (newer_ids ++ ids s ∷ older_ids)) (each ids (calls.begun source)) =
      subst (λ xs. IsPermutation (before ++ xs) (each ids (calls.begun source))) opened h.once in
      let once : IsPermutation (before ++ ids s ∷ (newer_ids ++ older_ids)) (each ids (calls.begun source)) =
      IsPermutation-trans _ _ _ (IsPermutation-append_right before _ _ (IsPermutation-sym _ _ (IsPermutation-middle newer_ids (ids s) older_ids)))
      old_once in
      record {
        falling = fall-middle a.next_number newer place older h.falling;
        held = held-stays ids a c (newer ++ older) keep (held-middle a newer place older h.held);
        once = subst (λ xs. IsPermutation xs (each ids (calls.begun next))) (sym all)
            (subst (λ (xs : List S). IsPermutation (before ++ ids s ∷ (newer_ids ++ older_ids)) (each ids xs)) (sym begun) once);
      }

  module _ (source : B) (a : SpansState S) (xs : List OpenSpan) (i : ℕ) (place : OpenSpan)
      (at : slice_get xs i ≡ Some place) (h : IsSound calls source a (reverse xs)) where
    -- the same, where the place stands in the middle
    middle : IsSound calls source a (newer_than xs i ++ place ∷ older_than xs i)
    middle = subst (λ ys. IsSound calls source a ys) (reverse-split xs i place at) h

    pub held-at : (s : S) × (table.get a place.number ≡ Some s)
    held-at = held-here a (newer_than xs i) place (older_than xs i) middle.held

    -- the places without the one at the index
    pub without-at : reverse (take i xs ++ drop (suc i) xs) ≡ without place.number (reverse xs)
    without-at = reverse-remove xs i
        ∙ sym (without-middle a.next_number (newer_than xs i) place (older_than xs i) middle.falling)
        ∙ ap (λ ys. without place.number ys) (sym (reverse-split xs i place at))

    -- what the span at the index is inside is among it and the older ones
    pub inside-at : (outer : ℕ) → is_inside outer (reverse xs) place.number
        ≡ is_inside outer (reverse (take (i + 1) xs)) place.number
    inside-at outer = ap (λ ys. is_inside outer ys place.number) (reverse-split xs i place at)
        ∙ inside-middle outer a.next_number (newer_than xs i) place (older_than xs i) middle.falling
        ∙ ap (λ ys. is_inside outer ys place.number) (sym (reverse-last (take i xs) place))
        ∙ ap (λ ys. is_inside outer (reverse ys) place.number) (sym (take_more xs i place (slice_get_within xs i place at)
        ∙ ap (λ e. take i xs ++ e ∷ []) (get_or_from_slice_get xs i place place at)))

    -- the open span at the index ended and was taken
    pub sound-end : (next : B) (b : SpansState S) (s t : S) → table.get a place.number ≡ Some s
        → calls.ids_of t ≡ calls.ids_of s → b ≡ table.take a place.number
        → calls.begun next ≡ calls.begun source → calls.taken next ≡ calls.taken source ++ t ∷ []
        → IsSound calls next b (reverse (take i xs ++ drop (suc i) xs))
    sound-end next b s t found same is begun taken =
        subst (λ c. IsSound calls next c (reverse (take i xs ++ drop (suc i) xs))) (sym is)
        (subst (λ ys. IsSound calls next (table.take a place.number) ys) (sym (reverse-remove xs i))
        (sound-middle source next a (newer_than xs i) (older_than xs i) place s t found same begun taken middle))

-- ---- changes

module _ {S I : Type 0} (ids : S → I) (after_event : S → List ℕ → ℕ → List Attribute → S)
    (after_attribute : S → Attribute → S) (after_link : S → SpanContextRecord → List Attribute → S)
    (after_status : S → Status → S) (after_name : S → List ℕ → S) (after_end : S → ℕ → S)
    (kept : IsKept ids after_event after_attribute after_link after_status after_name after_end) where
  -- a change keeps the ids
  pub change-keeps : (change : SpanChange) (s : S)
      → ids (change_of after_event after_attribute after_link after_status after_name change s) ≡ ids s
  change-keeps (SetAttribute attribute) s = kept.attribute s (attribute_of attribute)
  change-keeps (AddEvent name time attributes) s = kept.event s name time (attributes_of attributes)
  change-keeps (AddLink context attributes) s = kept.link s context (attributes_of attributes)
  change-keeps (SetStatus status) s = kept.status s status
  change-keeps (UpdateName name) s = kept.name s name
  change-keeps (Fail time attributes status) s =
      kept.status (after_event s (codes "exception") time (attributes_of attributes)) status
      ∙ kept.event s (codes "exception") time (attributes_of attributes)
