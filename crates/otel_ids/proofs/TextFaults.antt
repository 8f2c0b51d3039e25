-- The fault that a text has according to the grammar is the fault that `fault_of` gives.
use Rattle.std.proofs.Common.{◌≡◌, ℕ, suc, ◌+◌, false, List, [], ◌∷◌, ◌++◌, Option, Some, None, refl, sym, ap, subst, ◌∙◌, arith, inl, inr, take}
use Rattle.std.specs.Prelude.{map, replicate, ◌⊎◌}
use Rattle.std.specs.List.{AllByRecursion, list_any, before_first, after_first, position_or_len}
use Rattle.std.proofs.lemmas.Bool.{cases_Bool}
use Rattle.otel_ids.specs.Text.{is_equals, is_key, is_value}
use Rattle.otel_ids.specs.TraceState.{Pair}
use Rattle.otel_ids.specs.Reading.{pieces, list_members, key_of, value_of, without_equals, pair_of, list_fault}
use Rattle.otel_ids.specs.TraceStateError.{Fault, KeyFault, ValueFault, ListFault, pair_fault, first_of, pairs_fault}
use Rattle.otel_ids.specs.Reading.{HasEquals, LacksEquals, begins_with_equals, IsSplit, IsValidListMember, IsPairFault, IsFirst, IsFirstList, IsFirstPair}
use Rattle.otel_ids.specs.Laws.{FaultsAgree}
use Rattle.otel_ids.proofs.Faults.{valid_from_none, none_from_valid}
use Rattle.otel_base.proofs.shared.Searches.{some_at, before_at, after_at}
use Rattle.otel_ids.proofs.shared.Readings.{text_split, without_equals-run, list_fault-none}

-- ---- a list member as key and value

take_one : (n b : ℕ) (bs : List ℕ) → take (1 + n) (b ∷ bs) ≡ b ∷ take n bs
take_one n b bs = let e : 1 + n ≡ suc n = omega arith in rw e refl

before_lacks : (bs : List ℕ) → LacksEquals (before_first is_equals bs)
before_lacks [] = refl
before_lacks (b ∷ bs) =
    elim (cases_Bool (is_equals b)) [
      | inl t ↦ rw t refl
      | inr f ↦ let more : before_first is_equals (b ∷ bs) ≡ b ∷ before_first is_equals bs = rw f (take_one (position_or_len is_equals bs) b bs) in rw more (rw f (before_lacks bs))
    ]

run_is_whole : (bs : List ℕ) → begins_with_equals (without_equals bs) ≡ false
run_is_whole [] = refl
run_is_whole (b ∷ bs) =
    elim (cases_Bool (is_equals b)) [
      | inl t ↦ rw t (run_is_whole bs)
      | inr f ↦ let kept : without_equals (b ∷ bs) ≡ b ∷ bs = rw f refl in rw kept f
    ]

split_of : (list_member : List ℕ) → HasEquals list_member → IsSplit list_member (pair_of list_member)
split_of list_member h =
    let s = text_split list_member h in
    record { more = s.0; spelled = s.1; ends_key = before_lacks list_member; whole_run = run_is_whole (after_first is_equals list_member) }

run_kept : (value : List ℕ) → begins_with_equals value ≡ false → without_equals value ≡ value
run_kept [] h = refl
run_kept (v ∷ value) h = rw h refl

abbrev made : List ℕ → List ℕ → Pair
made key value = record { key = key; value = value }

record Parts (list_member : List ℕ) (pair : Pair) : Type 0 where
  has_equals : HasEquals list_member
  is : pair_of list_member ≡ pair

parts : (list_member : List ℕ) (pair : Pair) → IsSplit list_member pair → Parts list_member pair
parts list_member pair s =
    let tail : List ℕ = replicate s.more 61 ++ pair.value in
    let text : List ℕ = pair.key ++ 61 ∷ tail in
    let key_is : key_of text ≡ pair.key = before_at is_equals pair.key 61 tail s.ends_key refl in
    let after_is : after_first is_equals text ≡ tail = after_at is_equals pair.key 61 tail s.ends_key refl in
    let value_is : value_of text ≡ pair.value = ap without_equals after_is ∙ without_equals-run s.more pair.value ∙ run_kept pair.value s.whole_run in
    let same : pair_of text ≡ pair = ap (λ (x : List ℕ). made x (value_of text)) key_is ∙ ap (made pair.key) value_is in
    record {
      has_equals = ap (list_any is_equals) s.spelled ∙ some_at is_equals pair.key 61 tail refl;
      is = ap pair_of s.spelled ∙ same;
    }

-- ---- the first list member without =

first_list : (ms : List (List ℕ)) (fault : Fault) → list_fault ms ≡ Some fault → IsFirstList ms fault
first_list [] fault e = absurd cc
first_list (m ∷ ms) fault e =
    elim (cases_Bool (list_any is_equals m)) [
      | inl t ↦
          let g : list_fault ms ≡ Some fault = rw t at e in
          let r = first_list ms fault g in
          record { before = m ∷ r.before; list_member = r.list_member; after = r.after; spelled = ap (λ (x : List (List ℕ)). m ∷ x) r.spelled; this = r.this; those = (t, r.those) }
      | inr f ↦
          let g : Some (ListFault m) ≡ Some fault = rw f at e in
          record { before = []; list_member = m; after = ms; spelled = refl; this = (f, cc g); those = tt }
    ]

list_is : (before after : List (List ℕ)) (m : List ℕ) → AllByRecursion HasEquals before → LacksEquals m → list_fault (before ++ m ∷ after) ≡ Some (ListFault m)
list_is [] after m h f = rw f refl
list_is (b ∷ before) after m h f = rw h.0 (list_is before after m h.1 f)

none_lacks : (ms : List (List ℕ)) → AllByRecursion HasEquals ms → list_fault ms ≡ None
none_lacks [] h = refl
none_lacks (m ∷ ms) h = rw h.0 (none_lacks ms h.1)

each_has : (ms : List (List ℕ)) → list_fault ms ≡ None → AllByRecursion HasEquals ms
each_has [] h = tt
each_has (m ∷ ms) h = let n = list_fault-none m ms h in (n.0, each_has ms n.1)

-- ---- the first pair that isn't valid

pair_fault_is : (pair : Pair) (fault : Fault) → pair_fault pair ≡ Some fault → IsPairFault pair fault
pair_fault_is pair fault e =
    elim (cases_Bool (is_key pair.key)) [
      | inl t ↦
          elim (cases_Bool (is_value pair.value)) [
            | inl u ↦ let g : None ≡ Some fault = rw (t, u) at e in absurd cc
            | inr f ↦ let g : Some (ValueFault pair.value) ≡ Some fault = rw (t, f) at e in
                let is : ValueFault pair.value ≡ fault = cc g in subst (IsPairFault pair) is (t, f, refl)
          ]
      | inr f ↦ let g : Some (KeyFault pair.key) ≡ Some fault = rw f at e in let is : KeyFault pair.key ≡ fault = cc g in subst (IsPairFault pair) is (f, refl)
    ]

fault_from_is : (pair : Pair) (fault : Fault) → IsPairFault pair fault → pair_fault pair ≡ Some fault
fault_from_is pair (KeyFault text) h = rw (h.0, h.1) refl
fault_from_is pair (ValueFault text) h = rw (h.0, h.1, h.2) refl
fault_from_is pair (ListFault text) h = absurd h

abbrev IsAt : Fault → List ℕ → Type 0
IsAt fault m = (pair : Pair) × IsSplit m pair × IsPairFault pair fault

first_at : (o : Option Fault) (m : List ℕ) (ms : List (List ℕ)) (fault : Fault) → HasEquals m → pair_fault (pair_of m) ≡ o
    → (pairs_fault (map pair_of ms) ≡ Some fault → IsFirst (IsAt fault) IsValidListMember ms)
    → first_of o (pairs_fault (map pair_of ms)) ≡ Some fault → IsFirst (IsAt fault) IsValidListMember (m ∷ ms)
first_at None m ms fault h e rest g =
    let r = rest g in
    record {
      before = m ∷ r.before;
      list_member = r.list_member;
      after = r.after;
      spelled = ap (λ (x : List (List ℕ)). m ∷ x) r.spelled;
      this = r.this;
      those = ((pair_of m, split_of m h, valid_from_none (pair_of m) e), r.those);
    }
first_at (Some other) m ms fault h e rest g =
    record { before = []; list_member = m; after = ms; spelled = refl; this = (pair_of m, split_of m h, pair_fault_is (pair_of m) fault (e ∙ g)); those = tt }

first_pair : (ms : List (List ℕ)) (fault : Fault) → AllByRecursion HasEquals ms → pairs_fault (map pair_of ms) ≡ Some fault → IsFirst (IsAt fault) IsValidListMember ms
first_pair [] fault h e = absurd cc
first_pair (m ∷ ms) fault h e = first_at (pair_fault (pair_of m)) m ms fault h.0 refl (first_pair ms fault h.1) e

pairs_is : (before after : List (List ℕ)) (m : List ℕ) (fault : Fault) → AllByRecursion IsValidListMember before → IsAt fault m → pairs_fault (map pair_of (before ++ m ∷ after)) ≡ Some fault
pairs_is [] after m fault h at =
    let p = parts m at.0 at.1 in
    let e : pair_fault (pair_of m) ≡ Some fault = ap pair_fault p.is ∙ fault_from_is at.0 fault at.2 in
    rw e refl
pairs_is (b ∷ before) after m fault h at =
    let p = parts b h.0.0 h.0.1 in
    let e : pair_fault (pair_of b) ≡ None = ap pair_fault p.is ∙ none_from_valid h.0.0 h.0.2 in
    rw e (pairs_is before after m fault h.1 at)

-- ---- a text

from_list : (ms : List (List ℕ)) (fault : Fault) → IsFirstList ms fault → first_of (list_fault ms) (pairs_fault (map pair_of ms)) ≡ Some fault
from_list ms fault h =
    let e : list_fault ms ≡ Some fault = ap list_fault h.spelled ∙ list_is h.before h.after h.list_member h.those h.this.0 ∙ ap Some (sym h.this.1) in
    rw e refl

from_pair : (ms : List (List ℕ)) (fault : Fault) → IsFirstPair ms fault → first_of (list_fault ms) (pairs_fault (map pair_of ms)) ≡ Some fault
from_pair ms fault h =
    let e : pairs_fault (map pair_of ms) ≡ Some fault = ap (λ (x : List (List ℕ)). pairs_fault (map pair_of x)) h.1.spelled ∙ pairs_is h.1.before h.1.after h.1.list_member fault h.1.those h.1.this in
    rw (none_lacks ms h.0) e

to_either : (o : Option Fault) (ms : List (List ℕ)) (fault : Fault) → list_fault ms ≡ o → first_of o (pairs_fault (map pair_of ms)) ≡ Some fault → IsFirstList ms fault ⊎ IsFirstPair ms fault
to_either None ms fault e g = let all = each_has ms e in inr (all, first_pair ms fault all g)
to_either (Some other) ms fault e g = inl (first_list ms fault (e ∙ g))

pub faults_agree : FaultsAgree
faults_agree text fault = (
  λ h. elim h [ inl l ↦ from_list (list_members (pieces text)) fault l | inr p ↦ from_pair (list_members (pieces text)) fault p ],
  λ e. to_either (list_fault (list_members (pieces text))) (list_members (pieces text)) fault refl e,
)
