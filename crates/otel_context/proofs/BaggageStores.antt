-- The members of a baggage, in a list and in a map: inserts, removals, and the move from one to the
-- other.
use Rattle.std.proofs.Common.{◌≡◌, ℕ, zero, suc, ◌≤◌, false, List, [], ◌∷◌, ◌++◌, length, refl, sym, ap, ◌∙◌}
use Rattle.std.proofs.Common.{subst, position, remove, Some, None, ⊎_elim, cond, arith, append_assoc}
use Rattle.std.proofs.Common.{Bool, Option, get_or, slice_get, ◌<◌, ◌+◌, is_some}
use Rattle.std.specs.Prelude.{not, nat_lt, slice_set, option_map, Result, Ok, OnOk}
use Rattle.std.specs.List.{position_or_len}
use Rattle.std.proofs.lemmas.Option.{slice_get-map}
use Rattle.otel_context.specs.declared.names.Name.TheVariants.{Held}
use Rattle.otel_context.specs.Names.{has_same_text, Named, entries_of, AreHeld}
use Rattle.otel_context.proofs.NameLemmas.{insert_is, held_insert}
use Rattle.indexmap.proofs.MapLemmas.{insert_all_push, some_index}
use Rattle.std.specs.List.{IsDistinct, AllByRecursion, list_any}
use Rattle.std.specs.Map.{keys_of, lookup}
use Rattle.std.specs.Str.{bytes_eq}
use Rattle.std.proofs.lemmas.Bool.{cases_Bool, cond-true, cond-false, false≢true}
use Rattle.std.proofs.lemmas.Cmp.{nat_list_eq_equiv}
use Rattle.std.proofs.lemmas.List.{append-nil}
use Rattle.std.proofs.lemmas.Map.Keys.{IsDistinct-head, IsDistinct-tail, IsDistinct-cons, IsDistinct-push}
use Rattle.indexmap.specs.IndexMap.{insert_entry, insert_all, set_value_at}
use Rattle.indexmap.proofs.MapLemmas.{Found-position, Missing-position, insert_entry-first}
use Rattle.indexmap.proofs.MapLemmas.{insert_entry-absent, absent_before, absent_from_lookup}
use Rattle.indexmap.proofs.SetLemmas.{keys_insert_entry}
use Rattle.otel_context.specs.BaggageView.{Entry}

-- ---- an empty part

pub none_left : (es : List Entry) → length es ≤ 0 → es ≡ []
none_left [] h = refl
none_left (e ∷ es) h = absurd (omega (arith, h))

pub few_alone : (es fs : List Entry) → length fs ≤ 0 → es ++ fs ≡ es
few_alone es fs h = ap (λ (l : List Entry). es ++ l) (none_left fs h) ∙ append-nil es

pub many_alone : (es fs : List Entry) → es ≡ [] → es ++ fs ≡ fs
many_alone es fs h = ap (λ (l : List Entry). l ++ fs) h

-- ---- look-ups

or_len_on_keys : (t : List ℕ → Bool) (es : List Entry) → position_or_len (λ (e : Entry). t e.0) es ≡ position_or_len t (keys_of es)
or_len_on_keys t [] = refl
or_len_on_keys t (e ∷ es) = ap (λ n. cond (not (t e.0)) (1 + n) 0) (or_len_on_keys t es)

length_keys : (es : List Entry) → length es ≡ length (keys_of es)
length_keys [] = refl
length_keys (e ∷ es) = ap suc (length_keys es)

pub position_on_keys : (t : List ℕ → Bool) (es : List Entry) → position (λ (e : Entry). t e.0) es ≡ position t (keys_of es)
position_on_keys t es = λ i. cond (nat_lt (or_len_on_keys t es i) (length_keys es i)) (Some (or_len_on_keys t es i)) None

none_from_test : {X : Type 0} (r : Option X) → is_some r ≡ false → r ≡ None
none_from_test None h = refl
none_from_test (Some x) h = absurd (false≢true (sym h))

pub none_there : (es : List Entry) (k : List ℕ) → is_some (position (bytes_eq k) (keys_of es)) ≡ false → lookup (bytes_eq k) es ≡ None
none_there es k h = none_from_test (lookup (bytes_eq k) es) (sym (some_index (bytes_eq k) es) ∙ h)

pub at_index : (es : List Entry) (i : ℕ) (x : Entry) → i < length es → x ≡ get_or es i x → Some x ≡ slice_get es i
at_index [] i x h is = absurd (omega (arith, h))
at_index (e ∷ es) zero x h is = ap (λ (y : Entry). Some y) is
at_index (e ∷ es) (suc i) x h is = at_index es i x (omega (arith, h)) is

pub value_found : (es : List Entry) (k : List ℕ) (i : ℕ) (x : Entry) → position (bytes_eq k) (keys_of es) ≡ Some i → x ≡ get_or es i x → Some x.1 ≡ lookup (bytes_eq k) es
value_found es k i x p is =
    let f = Found-position (bytes_eq k) es i p in
    ap (option_map (λ (e : Entry). e.1)) (at_index es i x f.within is)
    ∙ sym (slice_get-map (λ (e : Entry). e.1) es i)
    ∙ sym f.value

-- ---- inserts

set_value : (es : List Entry) (i : ℕ) (x : Entry) (v : List ℕ × List ℕ) → x ≡ get_or es i x → slice_set es i (x.0, v) ≡ set_value_at es i v
set_value [] i x v is = refl
set_value (e ∷ es) zero x v is = ap (λ (y : Entry). (y.0, v) ∷ es) is
set_value (e ∷ es) (suc i) x v is = ap (λ (l : List Entry). e ∷ l) (set_value es i x v is)

pub insert_found : (es : List Entry) (k : List ℕ) (v : List ℕ × List ℕ) (i : ℕ) (x : Entry) → position (bytes_eq k) (keys_of es) ≡ Some i → x ≡ get_or es i x → slice_set es i (x.0, v) ≡ insert_entry bytes_eq es k v
insert_found es k v i x p is = set_value es i x v is ∙ sym (insert_entry-first bytes_eq k v es i (Found-position (bytes_eq k) es i p).first)

pub insert_new : (es : List Entry) (k : List ℕ) (v : List ℕ × List ℕ) → position (bytes_eq k) (keys_of es) ≡ None → es ++ (k, v) ∷ [] ≡ insert_entry bytes_eq es k v
insert_new es k v p = sym (insert_entry-absent bytes_eq k v es (Missing-position (bytes_eq k) es p).absent)

pub insert_distinct : (es : List Entry) (k : List ℕ) (v : List ℕ × List ℕ) → IsDistinct bytes_eq (keys_of es) → IsDistinct bytes_eq (keys_of (insert_entry bytes_eq es k v))
insert_distinct es k v d =
    let ks = keys_of es in
    let more = ks ++ k ∷ [] in
    let there = list_any (bytes_eq k) ks in
    subst (IsDistinct bytes_eq) (sym (keys_insert_entry bytes_eq es k v))
    (⊎_elim
    (λ t. subst (IsDistinct bytes_eq) (sym (cond-true there ks more t)) d)
    (λ f. subst (IsDistinct bytes_eq) (sym (cond-false there ks more f)) (IsDistinct-push nat_list_eq_equiv ks k d f))
    (cases_Bool there))

-- ---- removals

apart_remove : (k : List ℕ) (es : List Entry) (i : ℕ) → AllByRecursion (λ y. bytes_eq k y ≡ false) (keys_of es) → AllByRecursion (λ y. bytes_eq k y ≡ false) (keys_of (remove es i))
apart_remove k [] zero h = tt
apart_remove k [] (suc i) h = tt
apart_remove k (e ∷ es) zero h = h.1
apart_remove k (e ∷ es) (suc i) h = (h.0, apart_remove k es i h.1)

pub remove_distinct : (es : List Entry) (i : ℕ) → IsDistinct bytes_eq (keys_of es) → IsDistinct bytes_eq (keys_of (remove es i))
remove_distinct [] zero d = d
remove_distinct [] (suc i) d = d
remove_distinct (e ∷ es) zero d = IsDistinct-tail bytes_eq e.0 (keys_of es) d
remove_distinct (e ∷ es) (suc i) d =
    IsDistinct-cons bytes_eq e.0 (keys_of (remove es i))
    (apart_remove e.0 es i (IsDistinct-head bytes_eq e.0 (keys_of es) d))
    (remove_distinct es i (IsDistinct-tail bytes_eq e.0 (keys_of es) d))

pub remove_past : (es : List Entry) (i : ℕ) → length es ≤ i → es ≡ remove es i
remove_past [] zero h = refl
remove_past [] (suc i) h = refl
remove_past (e ∷ es) zero h = absurd (omega (arith, h))
remove_past (e ∷ es) (suc i) h = ap (λ (l : List Entry). e ∷ l) (remove_past es i (omega (arith, h)))

-- ---- all inserted into an empty map

inserted_after : (es fs : List Entry) → IsDistinct bytes_eq (keys_of (es ++ fs)) → insert_all bytes_eq es fs ≡ es ++ fs
inserted_after es [] d = sym (append-nil es)
inserted_after es (f ∷ fs) d =
    let last = insert_entry-absent bytes_eq f.0 f.1 es (absent_from_lookup (bytes_eq f.0) es (absent_before nat_list_eq_equiv es fs f d)) in
    let joined : (es ++ f ∷ []) ++ fs ≡ es ++ f ∷ fs = append_assoc es (f ∷ []) fs in
    ap (λ l. insert_all bytes_eq l fs) last
    ∙ inserted_after (es ++ f ∷ []) fs (subst (λ l. IsDistinct bytes_eq (keys_of l)) (sym joined) d)
    ∙ joined

pub all_inserted : (es : List Entry) → IsDistinct bytes_eq (keys_of es) → insert_all bytes_eq [] es ≡ es
all_inserted es d = inserted_after [] es d

-- the members moved so far, and the room for the others
pub record Filled (old : List Entry) (new : List Named) (done rest : List Entry) (room : ℕ) : Type 0 where
  pub entries : entries_of new ≡ insert_all bytes_eq old done
  pub held : AreHeld new
  pub fits : length rest ≤ room

pub filled_more : (old : List Entry) (es fs : List Named) (done rest left : List Entry) (k : List ℕ) (v : List ℕ × List ℕ) (room more : ℕ) → Filled old es done rest room → rest ≡ (k, v) ∷ left
    → fs ≡ insert_entry has_same_text es (Held k) v → room ≤ more + 1 → Filled old fs (done ++ (k, v) ∷ []) left more
filled_more old es fs done rest left k v room more h first is used = record {
  entries =
      ap entries_of is
      ∙ insert_is es (Held k) v
      ∙ ap (λ l. insert_entry bytes_eq l k v) h.entries
      ∙ sym (insert_all_push bytes_eq old done (k, v));
  held = subst AreHeld (sym is) (held_insert es (Held k) v tt h.held);
  fits = omega (arith, h.fits, ap length first, used);
}

pub one_fits : (old : List Entry) (es : List Named) (done rest left : List Entry) (e : Entry) (room : ℕ) → Filled old es done rest room → rest ≡ e ∷ left → 0 < room
one_fits old es done rest left e room h first = omega (arith, h.fits, ap length first)

pub on_ok : {X E : Type 0} (r : Result X E) (x : X) (P : Type 0) → r ≡ Ok x → OnOk r P → P
on_ok {X} {E} r x P is h = subst (λ (s : Result X E). OnOk s P) is h
