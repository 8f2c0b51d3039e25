-- The effect of inserts and removals on the members of a baggage.
use Rattle.std.proofs.Common.{◌≡◌, ℕ, suc, length-append, length-take, length-drop, ◌+◌, ◌-◌, ◌<◌}
use Rattle.std.proofs.Common.{◌≤◌, Bool, true, false, List, [], ◌∷◌, length, All, Option}
use Rattle.std.proofs.Common.{Some, None, refl, sym, ap, subst, ◌∙◌, ⊎_elim, arith, take, drop}
use Rattle.std.proofs.Common.{slice_get}
use Rattle.std.specs.Prelude.{◌&&◌, ◌||◌, nat_le, nat_lt, is_some, remove as remove_at}
use Rattle.std.specs.Prelude.{position, option_map, if◌then◌else◌}
use Rattle.std.specs.List.{IsDistinct, list_any}
use Rattle.std.specs.Map.{keys_of, lookup, remove_entry}
use Rattle.std.specs.Option.{option_map_or}
use Rattle.std.specs.Str.{bytes_eq, is_utf8}
use Rattle.std.proofs.Math.Bool.{and-true, and-false}
use Rattle.std.proofs.lemmas.Option.{slice_get-map, get_or_from_slice_get, slice_get_cases}
use Rattle.std.proofs.lemmas.Bool.{cases_Bool, and_parts, cond-true, cond-false, or_left, leb-true}
use Rattle.std.proofs.lemmas.Bool.{ltb-true}
use Rattle.std.proofs.lemmas.List.{length-map}
use Rattle.std.proofs.lemmas.Map.Keys.{IsDistinct-tail}
use Rattle.std.proofs.lemmas.List.Elements.{All-head, All-tail, All-cons, All-nil, All-append}
use Rattle.std.proofs.lemmas.List.Elements.{All-take, All-drop}
use Rattle.std.proofs.lemmas.List.Sums.{sum_by-cons, sum_by-remove}
use Rattle.indexmap.proofs.MapLemmas.{Found-position, Missing-position, remove_entry-first}
use Rattle.indexmap.proofs.SetLemmas.{map-remove}
use Rattle.indexmap.specs.IndexMap.{insert_entry}
use Rattle.otel_context.specs.BaggageText.{is_key, IsTrimmed}
use Rattle.otel_context.specs.BaggageMember.{Member, has_key, weight_of, IsValidMember}
use Rattle.otel_context.specs.Baggage.{max_key_value_pairs, max_len_of_all_pairs, weight, member_at}
use Rattle.otel_context.specs.Baggage.{get_with_metadata, put, accepts, insert, remove, IsBaggage}
use Rattle.otel_context.specs.BaggageWeight.{weight_of_others, weight_after}
use Rattle.otel_context.specs.BaggageView.{Entry, entry_member, entry_members}
use Rattle.otel_context.proofs.shared.BaggageLists.{same_text, keys, AreDistinct, filter_others, none_after}
use Rattle.otel_context.proofs.NameLemmas.{distinct_none}
use Rattle.otel_context.proofs.shared.BaggageLists.{put_here, put_later, remove_here, remove_later, tail}

at_here : (key : List ℕ) (o : Member) (ms : List Member) → has_key key o ≡ true → member_at (o ∷ ms) key ≡ Some o
at_here key o ms e = cond-true (has_key key o) (Some o) (member_at ms key) e

at_later : (key : List ℕ) (o : Member) (ms : List Member) → has_key key o ≡ false → member_at (o ∷ ms) key ≡ member_at ms key
at_later key o ms e = cond-false (has_key key o) (Some o) (member_at ms key) e

has_key_is : (ms : List Member) (key : List ℕ) → list_any (has_key key) ms ≡ is_some (member_at ms key)
has_key_is [] key = refl
has_key_is (o ∷ ms) key =
    ⊎_elim
    (λ e. or_left (has_key key o) (list_any (has_key key) ms) e ∙ sym (ap is_some (at_here key o ms e)))
    (λ e. ap (λ b. b || list_any (has_key key) ms) e ∙ has_key_is ms key ∙ sym (ap is_some (at_later key o ms e)))
    (cases_Bool (has_key key o))

-- ---- members and the pairs of a map

pub keys_are : (es : List Entry) → keys (entry_members es) ≡ keys_of es
keys_are [] = refl
keys_are (e ∷ es) = ap (λ (x : List (List ℕ)). e.0 ∷ x) (keys_are es)

put_is : (es : List Entry) (e : Entry) → IsDistinct bytes_eq (keys_of es) → entry_members (insert_entry bytes_eq es e.0 e.1) ≡ put (entry_members es) (entry_member e)
put_is [] e d = refl
put_is (o ∷ es) e d =
    ⊎_elim
    (λ t.
    ap entry_members (cond-true (bytes_eq e.0 o.0) ((o.0, e.1) ∷ es) (o ∷ insert_entry bytes_eq es e.0 e.1) t)
    ∙ ap (λ (k : List ℕ). entry_member (k, e.1) ∷ entry_members es) (sym (same_text e.0 o.0 t))
    ∙ sym (put_here (entry_member e) (entry_member o) (entry_members es) (subst (IsDistinct bytes_eq) (sym (keys_are (o ∷ es))) d) t))
    (λ t.
    ap entry_members (cond-false (bytes_eq e.0 o.0) ((o.0, e.1) ∷ es) (o ∷ insert_entry bytes_eq es e.0 e.1) t)
    ∙ ap (λ (x : List Member). entry_member o ∷ x) (put_is es e (IsDistinct-tail bytes_eq o.0 (keys_of es) d))
    ∙ sym (put_later (entry_member e) (entry_member o) (entry_members es) t))
    (cases_Bool (bytes_eq e.0 o.0))

remove_is : (es : List Entry) (key : List ℕ) → AreDistinct (entry_members es) → entry_members (remove_entry (bytes_eq key) es) ≡ remove (entry_members es) key
remove_is [] key d = refl
remove_is (o ∷ es) key d =
    let ms = entry_members es in
    let m = entry_member o in
    ⊎_elim
    (λ t.
    ap entry_members (cond-true (bytes_eq key o.0) es (o ∷ remove_entry (bytes_eq key) es) t)
    ∙ sym (filter_others key ms (none_after key m ms t d))
    ∙ sym (remove_here key m ms t))
    (λ t.
    ap entry_members (cond-false (bytes_eq key o.0) es (o ∷ remove_entry (bytes_eq key) es) t)
    ∙ ap (λ (x : List Member). m ∷ x) (remove_is es key (tail m ms d))
    ∙ sym (remove_later key m ms t))
    (cases_Bool (bytes_eq key o.0))

pub get_is : (es : List Entry) (key : List ℕ) → lookup (bytes_eq key) es ≡ get_with_metadata (entry_members es) key
get_is [] key = refl
get_is (o ∷ es) key =
    let ms = entry_members es in
    ⊎_elim
    (λ t. cond-true (bytes_eq key o.0) (Some o.1) (lookup (bytes_eq key) es) t ∙ sym (ap (option_map (λ m. (m.value, m.metadata))) (at_here key (entry_member o) ms t)))
    (λ t.
    cond-false (bytes_eq key o.0) (Some o.1) (lookup (bytes_eq key) es) t ∙ get_is es key
    ∙ sym (ap (option_map (λ m. (m.value, m.metadata))) (at_later key (entry_member o) ms t)))
    (cases_Bool (bytes_eq key o.0))

-- the member of the key, from the value beside the key
pub member_found : (es : List Entry) (key : List ℕ) (beside : List ℕ × List ℕ) → lookup (bytes_eq key) es ≡ Some beside → member_at (entry_members es) key ≡ Some (entry_member (key, beside))
member_found [] key beside h = absurd (cc)
member_found (o ∷ es) key beside h =
    let ms = entry_members es in
    ⊎_elim
    (λ t.
    let i : Some o.1 ≡ Some beside = sym (cond-true (bytes_eq key o.0) (Some o.1) (lookup (bytes_eq key) es) t) ∙ h in
    let j : o.1 ≡ beside = cc in
    at_here key (entry_member o) ms t ∙ (λ n. Some (entry_member (sym (same_text key o.0 t) n, j n))))
    (λ t.
    at_later key (entry_member o) ms t
    ∙ member_found es key beside (sym (cond-false (bytes_eq key o.0) (Some o.1) (lookup (bytes_eq key) es) t) ∙ h))
    (cases_Bool (bytes_eq key o.0))

pub member_missing : (es : List Entry) (key : List ℕ) → lookup (bytes_eq key) es ≡ None → member_at (entry_members es) key ≡ None
member_missing [] key h = refl
member_missing (o ∷ es) key h =
    let ms = entry_members es in
    ⊎_elim
    (λ t. let i : Some o.1 ≡ None = sym (cond-true (bytes_eq key o.0) (Some o.1) (lookup (bytes_eq key) es) t) ∙ h in absurd (cc))
    (λ t.
    at_later key (entry_member o) ms t
    ∙ member_missing es key (sym (cond-false (bytes_eq key o.0) (Some o.1) (lookup (bytes_eq key) es) t) ∙ h))
    (cases_Bool (bytes_eq key o.0))

-- ---- bytes and length after put

weight_replaced : (ms : List Member) (m old : Member) → AreDistinct ms → member_at ms m.key ≡ Some old → weight (put ms m) + weight_of old ≡ weight ms + weight_of m
weight_replaced [] m old d h = absurd (cc)
weight_replaced (o ∷ ms) m old d h =
    ⊎_elim
    (λ e.
    let i : Some o ≡ Some old = sym (at_here m.key o ms e) ∙ h in
    let j : o ≡ old = cc in
    omega (arith, ap weight_of j, ap weight (put_here m o ms d e), sum_by-cons weight_of m ms, sum_by-cons weight_of o ms))
    (λ e.
    let rest = weight_replaced ms m old (tail o ms d) (sym (at_later m.key o ms e) ∙ h) in
    omega (arith, ap weight (put_later m o ms e), rest, sum_by-cons weight_of o (put ms m), sum_by-cons weight_of o ms))
    (cases_Bool (has_key m.key o))

weight_added : (ms : List Member) (m : Member) → member_at ms m.key ≡ None → weight (put ms m) ≡ weight ms + weight_of m
weight_added [] m h = sum_by-cons weight_of m [] ∙ omega arith
weight_added (o ∷ ms) m h =
    ⊎_elim
    (λ e. let i : Some o ≡ None = sym (at_here m.key o ms e) ∙ h in absurd (cc))
    (λ e.
    let rest = weight_added ms m (sym (at_later m.key o ms e) ∙ h) in
    omega (arith, ap weight (put_later m o ms e), rest, sum_by-cons weight_of o (put ms m), sum_by-cons weight_of o ms))
    (cases_Bool (has_key m.key o))

pub weight_held : (ms : List Member) (key : List ℕ) (old : Member) → member_at ms key ≡ Some old → weight_of old ≤ weight ms
weight_held [] key old h = absurd (cc)
weight_held (o ∷ ms) key old h =
    ⊎_elim
    (λ e.
    let i : Some o ≡ Some old = sym (at_here key o ms e) ∙ h in
    let j : o ≡ old = cc in
    omega (arith, ap weight_of j, sum_by-cons weight_of o ms))
    (λ e. omega (arith, weight_held ms key old (sym (at_later key o ms e) ∙ h), sum_by-cons weight_of o ms))
    (cases_Bool (has_key key o))

length_put_new : (ms : List Member) (m : Member) → member_at ms m.key ≡ None → length (put ms m) ≡ length ms + 1
length_put_new [] m h = refl
length_put_new (o ∷ ms) m h =
    ⊎_elim
    (λ e. let i : Some o ≡ None = sym (at_here m.key o ms e) ∙ h in absurd (cc))
    (λ e. omega (arith, ap length (put_later m o ms e), length_put_new ms m (sym (at_later m.key o ms e) ∙ h)))
    (cases_Bool (has_key m.key o))

length_put_held : (ms : List Member) (m old : Member) → AreDistinct ms → member_at ms m.key ≡ Some old → length (put ms m) ≡ length ms
length_put_held [] m old d h = absurd (cc)
length_put_held (o ∷ ms) m old d h =
    ⊎_elim
    (λ e. ap length (put_here m o ms d e))
    (λ e. omega (arith, ap length (put_later m o ms e), length_put_held ms m old (tail o ms d) (sym (at_later m.key o ms e) ∙ h)))
    (cases_Bool (has_key m.key o))

-- ---- put keeps the members valid

valid_put : (ms : List Member) (m : Member) → AreDistinct ms → All IsValidMember ms → IsValidMember m → All IsValidMember (put ms m)
valid_put [] m d h g = All-cons IsValidMember m [] g (All-nil IsValidMember)
valid_put (o ∷ ms) m d h g =
    ⊎_elim
    (λ e. rw (put_here m o ms d e) (All-cons IsValidMember m ms g (All-tail IsValidMember o ms h)))
    (λ e.
    rw (put_later m o ms e)
    (All-cons IsValidMember o (put ms m) (All-head IsValidMember o ms h) (valid_put ms m (tail o ms d) (All-tail IsValidMember o ms h) g)))
    (cases_Bool (has_key m.key o))

key_held : (ms : List Member) (key : List ℕ) (old : Member) → All IsValidMember ms → member_at ms key ≡ Some old → is_key key ≡ true
key_held [] key old valid h = absurd (cc)
key_held (o ∷ ms) key old valid h =
    ⊎_elim
    (λ e. ap is_key (same_text key o.key e) ∙ (All-head IsValidMember o ms valid).0)
    (λ e. key_held ms key old (All-tail IsValidMember o ms valid) (sym (at_later key o ms e) ∙ h))
    (cases_Bool (has_key key o))

-- ---- the baggage after an accepted insert is valid

module _ (ms : List Member) (m : Member) (held : IsBaggage ms) (text : is_utf8 m.value ≡ true) (cut : IsTrimmed m.metadata) (distinct : AreDistinct (put ms m)) (ok : accepts ms m ≡ true) where
  abbrev may_stand : Bool
  may_stand = is_key m.key && nat_lt (length ms) max_key_value_pairs

  parts : (nat_le (weight (put ms m)) max_len_of_all_pairs ≡ true) × ((list_any (has_key m.key) ms || may_stand) ≡ true)
  parts = and_parts (nat_le (weight (put ms m)) max_len_of_all_pairs) (list_any (has_key m.key) ms || may_stand) ok

  by_key : (o : Option Member) → member_at ms m.key ≡ o → (is_key m.key ≡ true) × (length (put ms m) ≤ max_key_value_pairs)
  by_key (Some old) e = (key_held ms m.key old held.valid e, omega (arith, length_put_held ms m old held.distinct e, held.few))
  by_key None e =
      let none : list_any (has_key m.key) ms ≡ false = has_key_is ms m.key ∙ ap is_some e in
      let new : may_stand ≡ true = ap (λ b. b || may_stand) (sym none) ∙ parts.1 in
      let both = and_parts (is_key m.key) (nat_lt (length ms) max_key_value_pairs) new in
      (both.0, omega (arith, length_put_new ms m e, ltb-true (length ms) max_key_value_pairs both.1))

  pub put_baggage : IsBaggage (put ms m)
  put_baggage =
      let k = by_key (member_at ms m.key) refl in
      record {
        few = k.1;
        distinct = distinct;
        valid = valid_put ms m held.distinct held.valid (k.0, text, cut);
        light = leb-true (weight (put ms m)) max_len_of_all_pairs parts.0;
      }

-- ---- the bytes that the code finds

module _ (ms : List Member) (m : Member) where
  abbrev may_be_new : Bool
  may_be_new = is_key m.key && nat_lt (length ms) max_key_value_pairs

  abbrev fits : ℕ → Bool
  fits n = nat_le n max_len_of_all_pairs

  abbrev if_new : Option ℕ
  if_new = if may_be_new then Some (weight ms) else None

  accepts_new : member_at ms m.key ≡ None → accepts ms m ≡ (fits (weight ms + weight_of m) && may_be_new)
  accepts_new e =
      ap (λ b. fits (weight (put ms m)) && (b || may_be_new)) (has_key_is ms m.key ∙ ap is_some e)
      ∙ ap (λ w. fits w && may_be_new) (weight_added ms m e)

  weight_then : (old : Member) → AreDistinct ms → member_at ms m.key ≡ Some old → weight (put ms m) ≡ (weight ms - weight_of old) + weight_of m
  weight_then old d e = omega (arith, weight_replaced ms m old d e, weight_held ms m.key old e)

  accepts_held : (old : Member) → AreDistinct ms → member_at ms m.key ≡ Some old → accepts ms m ≡ (fits ((weight ms - weight_of old) + weight_of m) && true)
  accepts_held old d e =
      ap (λ b. fits (weight (put ms m)) && (b || may_be_new)) (has_key_is ms m.key ∙ ap is_some e)
      ∙ ap (λ w. fits w && true) (weight_then old d e)

  others_are : (r : Option Member) → member_at ms m.key ≡ r → weight_of_others ms m.key ≡ option_map_or (λ old. Some (weight ms - weight_of old)) r if_new
  others_are r e = ap (λ r. option_map_or (λ old. Some (weight ms - weight_of old)) r if_new) e

  after_by : (n : ℕ) → weight (put ms m) ≡ n → accepts ms m ≡ (fits n && true) → (if fits n then Some n else None) ≡ weight_after ms m
  after_by n w a =
      ap (λ x. if x then Some n else None) (sym (a ∙ and-true (fits n)))
      ∙ ap (λ n. if accepts ms m then Some n else None) (sym w)

  -- from the weight of the others
  pub after_is : (o : ℕ) → AreDistinct ms → weight_of_others ms m.key ≡ Some o → (if nat_le (o + weight_of m) max_len_of_all_pairs then Some (o + weight_of m) else None) ≡ weight_after ms m
  after_is o d h = by (member_at ms m.key) refl
    where
      by : (r : Option Member) → member_at ms m.key ≡ r → (if fits (o + weight_of m) then Some (o + weight_of m) else None) ≡ weight_after ms m
      by (Some old) e =
          let i : Some o ≡ Some (weight ms - weight_of old) = sym h ∙ others_are (Some old) e in
          let j : o ≡ weight ms - weight_of old = cc in
          after_by (o + weight_of m) (weight_then old d e ∙ ap (λ w. w + weight_of m) (sym j)) (accepts_held old d e ∙ ap (λ w. fits (w + weight_of m) && true) (sym j))
      by None e =
          let i : Some o ≡ if_new = sym h ∙ others_are None e in
          ⊎_elim
          (λ f.
          let k : Some o ≡ Some (weight ms) = i ∙ cond-true may_be_new (Some (weight ms)) None f in
          let j : o ≡ weight ms = cc in
          after_by (o + weight_of m) (weight_added ms m e ∙ ap (λ w. w + weight_of m) (sym j)) (accepts_new e ∙ (λ n. fits (sym j n + weight_of m) && f n)))
          (λ f. let k : Some o ≡ None = i ∙ cond-false may_be_new (Some (weight ms)) None f in absurd (cc))
          (cases_Bool may_be_new)

  pub after_none : weight_of_others ms m.key ≡ None → weight_after ms m ≡ None
  after_none h = by (member_at ms m.key) refl
    where
      by : (r : Option Member) → member_at ms m.key ≡ r → weight_after ms m ≡ None
      by (Some old) e = let i : None ≡ Some (weight ms - weight_of old) = sym h ∙ others_are (Some old) e in absurd (cc)
      by None e =
          let i : None ≡ if_new = sym h ∙ others_are None e in
          ⊎_elim
          (λ f. let k : None ≡ Some (weight ms) = i ∙ cond-true may_be_new (Some (weight ms)) None f in absurd (cc))
          (λ f.
          ap (λ x. if x then Some (weight (put ms m)) else None)
          (accepts_new e ∙ ap (λ b. fits (weight ms + weight_of m) && b) f ∙ and-false (fits (weight ms + weight_of m))))
          (cases_Bool may_be_new)

  pub after_some : (n : ℕ) → weight_after ms m ≡ Some n → (accepts ms m ≡ true) × (n ≡ weight (put ms m))
  after_some n h =
      ⊎_elim
      (λ f. let k : Some (weight (put ms m)) ≡ Some n = sym (cond-true (accepts ms m) (Some (weight (put ms m))) None f) ∙ h in (f, (cc)))
      (λ f. let k : None ≡ Some n = sym (cond-false (accepts ms m) (Some (weight (put ms m))) None f) ∙ h in absurd (cc))
      (cases_Bool (accepts ms m))

  pub accepted : is_some (weight_after ms m) ≡ accepts ms m
  accepted =
      ⊎_elim
      (λ t. ap is_some (cond-true (accepts ms m) (Some (weight (put ms m))) None t) ∙ sym t)
      (λ f. ap is_some (cond-false (accepts ms m) (Some (weight (put ms m))) None f) ∙ sym f)
      (cases_Bool (accepts ms m))

  pub refused : weight_after ms m ≡ None → accepts ms m ≡ false
  refused h =
      ⊎_elim
      (λ f. let k : Some (weight (put ms m)) ≡ None = sym (cond-true (accepts ms m) (Some (weight (put ms m))) None f) ∙ h in absurd (cc))
      (λ f. f)
      (cases_Bool (accepts ms m))

-- the weight of the others, from the value beside the key
pub others_held : (es : List Entry) (key : List ℕ) (beside : List ℕ × List ℕ) → lookup (bytes_eq key) es ≡ Some beside
    → weight_of_others (entry_members es) key ≡ Some (weight (entry_members es) - weight_of (entry_member (key, beside)))
others_held es key beside h =
    let ms = entry_members es in
    ap (λ r. option_map_or (λ old. Some (weight ms - weight_of old)) r (if is_key key && nat_lt (length ms) max_key_value_pairs then Some (weight ms) else None)) (member_found es key beside h)

module _ (es : List Entry) (key : List ℕ) (new : Bool) (h : lookup (bytes_eq key) es ≡ None) (is : new ≡ (is_key key && nat_lt (length es) max_key_value_pairs)) where
  others_new : weight_of_others (entry_members es) key ≡ (if new then Some (weight (entry_members es)) else None)
  others_new =
      let ms = entry_members es in
      ap (λ r. option_map_or (λ old. Some (weight ms - weight_of old)) r (if is_key key && nat_lt (length ms) max_key_value_pairs then Some (weight ms) else None)) (member_missing es key h)
      ∙ ap (λ n. if is_key key && nat_lt n max_key_value_pairs then Some (weight ms) else None) (length-map es entry_member)
      ∙ ap (λ b. if b then Some (weight ms) else None) (sym is)

  pub others_taken : new ≡ true → weight_of_others (entry_members es) key ≡ Some (weight (entry_members es))
  others_taken t = others_new ∙ cond-true new (Some (weight (entry_members es))) None t

  pub others_refused : new ≡ false → weight_of_others (entry_members es) key ≡ None
  others_refused t = others_new ∙ cond-false new (Some (weight (entry_members es))) None t

-- ---- the results of the calls

pub none_held : (es : List Entry) → es ≡ [] → IsBaggage (entry_members es) × (0 ≡ weight (entry_members es))
none_held es is =
    subst (λ l. IsBaggage (entry_members l) × (0 ≡ weight (entry_members l))) (sym is)
    (record { few = omega arith; distinct = distinct_none; valid = All-nil IsValidMember; light = omega arith }, refl)

pub record Inserted (old new : List Member) (m : Member) (n : ℕ) : Type 0 where
  pub baggage : IsBaggage new
  pub sum : n ≡ weight new
  pub accepted : accepts old m ≡ true
  pub list : new ≡ insert old m

pub inserted : (es fs : List Entry) (e : Entry) (n : ℕ) → IsBaggage (entry_members es) → is_utf8 e.1.0 ≡ true → IsTrimmed e.1.1 → IsDistinct bytes_eq (keys_of fs) → fs ≡ insert_entry bytes_eq es e.0 e.1
    → weight_after (entry_members es) (entry_member e) ≡ Some n → Inserted (entry_members es) (entry_members fs) (entry_member e) n
inserted es fs e n held text cut distinct is h =
    let ms = entry_members es in
    let m = entry_member e in
    let r = after_some ms m n h in
    let i : entry_members fs ≡ put ms m = ap entry_members is ∙ put_is es e (subst (IsDistinct bytes_eq) (keys_are es) held.distinct) in
    let apart : AreDistinct (put ms m) = subst AreDistinct i (subst (IsDistinct bytes_eq) (sym (keys_are fs)) distinct) in
    record {
      baggage = subst IsBaggage (sym i) (put_baggage ms m held text cut apart r.0);
      sum = r.1 ∙ ap weight (sym i);
      accepted = r.0;
      list = i ∙ sym (cond-true (accepts ms m) (put ms m) ms r.0);
    }

pub record Removed (old new : List Member) (key : List ℕ) (m : Member) : Type 0 where
  pub baggage : IsBaggage new
  pub sum : weight new + weight_of m ≡ weight old
  pub list : new ≡ remove old key
  pub given : Some (m.value, m.metadata) ≡ get_with_metadata old key

pub found_pair : (es : List Entry) (key : List ℕ) (i : ℕ) → position (bytes_eq key) (keys_of es) ≡ Some i → option_map (λ (o : Entry). o.1) (slice_get es i) ≡ get_with_metadata (entry_members es) key
found_pair es key i p = sym (slice_get-map (λ (o : Entry). o.1) es i) ∙ sym (Found-position (bytes_eq key) es i p).value ∙ get_is es key

pub found_at : (es : List Entry) (key : List ℕ) (i : ℕ) (e : Entry) → position (bytes_eq key) (keys_of es) ≡ Some i → Some e ≡ slice_get es i → Some e.1 ≡ get_with_metadata (entry_members es) key
found_at es key i e p at = ap (option_map (λ (o : Entry). o.1)) at ∙ found_pair es key i p

pub not_past : (es : List Entry) (key : List ℕ) (i : ℕ) → position (bytes_eq key) (keys_of es) ≡ Some i → None ≡ slice_get es i → ⊥
not_past es key i p none =
    ⊎_elim
    (λ at. let same : None ≡ Some at.0 = none ∙ at.2 in absurd (cc))
    (λ past. omega (arith, (Found-position (bytes_eq key) es i p).within, past.0))
    (slice_get_cases es i).1

pub not_found : (es : List Entry) (key : List ℕ) → position (bytes_eq key) (keys_of es) ≡ None → get_with_metadata (entry_members es) key ≡ None
not_found es key p = sym (get_is es key) ∙ (Missing-position (bytes_eq key) es p).value

without_none : (es : List Entry) (key : List ℕ) → lookup (bytes_eq key) es ≡ None → remove (entry_members es) key ≡ entry_members es
without_none [] key h = refl
without_none (o ∷ es) key h =
    let ms = entry_members es in
    let m = entry_member o in
    ⊎_elim
    (λ t. let i : Some o.1 ≡ None = sym (cond-true (bytes_eq key o.0) (Some o.1) (lookup (bytes_eq key) es) t) ∙ h in absurd (cc))
    (λ t.
    remove_later key m ms t
    ∙ ap (λ (x : List Member). m ∷ x) (without_none es key (sym (cond-false (bytes_eq key o.0) (Some o.1) (lookup (bytes_eq key) es) t) ∙ h)))
    (cases_Bool (bytes_eq key o.0))

pub not_removed : (es : List Entry) (key : List ℕ) → position (bytes_eq key) (keys_of es) ≡ None → entry_members es ≡ remove (entry_members es) key
not_removed es key p = sym (without_none es key (Missing-position (bytes_eq key) es p).value)

pub removed : (es fs : List Entry) (key : List ℕ) (i : ℕ) (e : Entry) → IsBaggage (entry_members es) → position (bytes_eq key) (keys_of es) ≡ Some i → Some e ≡ slice_get es i → fs ≡ remove_at es i
    → IsDistinct bytes_eq (keys_of fs) → Removed (entry_members es) (entry_members fs) key (entry_member e)
removed es fs key i e held p at is distinct =
    let ms = entry_members es in
    let m = entry_member e in
    let f = Found-position (bytes_eq key) es i p in
    let within : i < length ms = omega (arith, f.within, length-map es entry_member) in
    let one : slice_get ms i ≡ Some m = slice_get-map entry_member es i ∙ ap (option_map entry_member) (sym at) in
    let left : entry_members fs ≡ remove_at ms i = ap entry_members is ∙ map-remove entry_member es i in
    let s : weight (entry_members fs) + weight_of m ≡ weight ms =
    ap (λ l. weight l + weight_of m) left ∙ ap (λ x. weight (remove_at ms i) + weight_of x) (sym (get_or_from_slice_get ms i m m one)) ∙ sum_by-remove weight_of ms i m within in
    let fewer : length (remove_at ms i) ≤ max_key_value_pairs = omega (arith, length-append (take i ms) (drop (suc i) ms), length-take i ms, length-drop (suc i) ms, held.few, within) in
    record {
      baggage = record {
        few = subst (λ (l : List Member). length l ≤ max_key_value_pairs) (sym left) fewer;
        distinct = subst (IsDistinct bytes_eq) (sym (keys_are fs)) distinct;
        valid = subst (All IsValidMember) (sym left) (All-append IsValidMember (take i ms) (drop (suc i) ms) (All-take IsValidMember i ms held.valid) (All-drop IsValidMember (suc i) ms held.valid));
        light = omega (arith, s, held.light);
      };
      sum = s;
      list = ap entry_members (is ∙ sym (remove_entry-first (bytes_eq key) es i f.first)) ∙ remove_is es key held.distinct;
      given = found_at es key i e p at;
    }
