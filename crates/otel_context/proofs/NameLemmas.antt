-- The effect of a map of names on the list of its keys.
use Rattle.std.proofs.Common.{◌≡◌, ℕ, suc, false, List, [], ◌∷◌, length, refl, sym, ap, ◌∙◌}
use Rattle.std.proofs.Common.{subst, position, remove, take, drop, slice_get, Some, None, ⊎_elim, cond}
use Rattle.std.specs.Prelude.{◌+◌, not, nat_lt}
use Rattle.std.specs.List.{IsDistinct, AllByRecursion, position_or_len}
use Rattle.std.specs.Map.{keys_of, lookup}
use Rattle.std.specs.Str.{bytes_eq}
use Rattle.std.proofs.lemmas.Bool.{cases_Bool, cond-true, cond-false}
use Rattle.std.proofs.lemmas.List.Elements.{All-head, All-tail, All-cons, All-nil, All-append, All-take, All-drop, All-get_or}
use Rattle.std.proofs.lemmas.Option.{get_or_from_slice_get, slice_get_within}
use Rattle.std.proofs.lemmas.Map.Keys.{IsDistinct-head, IsDistinct-tail, IsDistinct-cons}
use Rattle.indexmap.specs.IndexMap.{insert_entry}
use Rattle.otel_context.specs.declared.names.Name.{Name}
use Rattle.otel_context.specs.BaggageView.{Entry}
use Rattle.otel_context.specs.Names.{text_of, has_same_text, IsHeld, Named, entry_of, entries_of, AreHeld}

-- ---- look-ups

pub lookup_is : (q : Name) (es : List Named) → lookup (has_same_text q) es ≡ lookup (bytes_eq (text_of q)) (entries_of es)
lookup_is q [] = refl
lookup_is q (e ∷ es) = ap (λ r. cond (has_same_text q e.0) (Some e.1) r) (lookup_is q es)

or_len_is : (q : Name) (es : List Named) → position_or_len (has_same_text q) (keys_of es) ≡ position_or_len (bytes_eq (text_of q)) (keys_of (entries_of es))
or_len_is q [] = refl
or_len_is q (e ∷ es) = ap (λ n. cond (not (has_same_text q e.0)) (1 + n) 0) (or_len_is q es)

length_is : (es : List Named) → length (keys_of es) ≡ length (keys_of (entries_of es))
length_is [] = refl
length_is (e ∷ es) = ap suc (length_is es)

pub position_is : (q : Name) (es : List Named) → position (has_same_text q) (keys_of es) ≡ position (bytes_eq (text_of q)) (keys_of (entries_of es))
position_is q es = λ i. cond (nat_lt (or_len_is q es i) (length_is es i)) (Some (or_len_is q es i)) None

-- ---- distinct keys

apart_is : (n : Name) (es : List Named) → AllByRecursion (λ y. has_same_text n y ≡ false) (keys_of es) → AllByRecursion (λ y. bytes_eq (text_of n) y ≡ false) (keys_of (entries_of es))
apart_is n [] h = tt
apart_is n (e ∷ es) h = (h.0, apart_is n es h.1)

pub distinct_none : IsDistinct bytes_eq []
unfolding IsDistinct
distinct_none = tt

pub distinct_is : (es : List Named) → IsDistinct has_same_text (keys_of es) → IsDistinct bytes_eq (keys_of (entries_of es))
distinct_is [] d = distinct_none
distinct_is (e ∷ es) d =
    IsDistinct-cons bytes_eq (text_of e.0) (keys_of (entries_of es))
    (apart_is e.0 es (IsDistinct-head has_same_text e.0 (keys_of es) d))
    (distinct_is es (IsDistinct-tail has_same_text e.0 (keys_of es) d))

-- ---- inserts and removals

pub insert_is : (es : List Named) (n : Name) (v : List ℕ × List ℕ) → entries_of (insert_entry has_same_text es n v) ≡ insert_entry bytes_eq (entries_of es) (text_of n) v
insert_is [] n v = refl
insert_is (e ∷ es) n v =
    ⊎_elim
    (λ t.
    ap entries_of (cond-true (has_same_text n e.0) ((e.0, v) ∷ es) (e ∷ insert_entry has_same_text es n v) t)
    ∙ sym (cond-true (has_same_text n e.0) ((text_of e.0, v) ∷ entries_of es) (entry_of e ∷ insert_entry bytes_eq (entries_of es) (text_of n) v) t))
    (λ f.
    ap entries_of (cond-false (has_same_text n e.0) ((e.0, v) ∷ es) (e ∷ insert_entry has_same_text es n v) f)
    ∙ ap (λ (l : List Entry). entry_of e ∷ l) (insert_is es n v)
    ∙ sym (cond-false (has_same_text n e.0) ((text_of e.0, v) ∷ entries_of es) (entry_of e ∷ insert_entry bytes_eq (entries_of es) (text_of n) v) f))
    (cases_Bool (has_same_text n e.0))

abbrev Held_at : Named → Type 0
Held_at e = IsHeld e.0

pub held_insert : (es : List Named) (n : Name) (v : List ℕ × List ℕ) → IsHeld n → AreHeld es → AreHeld (insert_entry has_same_text es n v)
held_insert [] n v k h = All-cons Held_at (n, v) [] k (All-nil Held_at)
held_insert (e ∷ es) n v k h =
    let first = All-head Held_at e es h in
    let rest = All-tail Held_at e es h in
    ⊎_elim
    (λ t. subst AreHeld (sym (cond-true (has_same_text n e.0) ((e.0, v) ∷ es) (e ∷ insert_entry has_same_text es n v) t)) (All-cons Held_at (e.0, v) es first rest))
    (λ f.
    subst AreHeld (sym (cond-false (has_same_text n e.0) ((e.0, v) ∷ es) (e ∷ insert_entry has_same_text es n v) f))
    (All-cons Held_at e (insert_entry has_same_text es n v) first (held_insert es n v k rest)))
    (cases_Bool (has_same_text n e.0))

pub held_remove : (es : List Named) (i : ℕ) → AreHeld es → AreHeld (remove es i)
held_remove es i h = All-append Held_at (take i es) (drop (suc i) es) (All-take Held_at i es h) (All-drop Held_at (suc i) es h)

pub held_at : (es : List Named) (i : ℕ) (e : Named) → AreHeld es → slice_get es i ≡ Some e → IsHeld e.0
held_at es i e h at = subst Held_at (get_or_from_slice_get es i e e at) (All-get_or Held_at es i e (slice_get_within es i e at) h)

pub held_first : (es rest : List Named) (e : Named) → AreHeld es → es ≡ e ∷ rest → IsHeld e.0 × AreHeld rest
held_first es rest e h is = let held = subst AreHeld is h in (All-head Held_at e rest held, All-tail Held_at e rest held)
