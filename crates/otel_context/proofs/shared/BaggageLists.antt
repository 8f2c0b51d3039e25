-- The members of a baggage, one at a time.
use Rattle.std.proofs.Common.{◌≡◌, ℕ, Bool, true, false, List, [], ◌∷◌, ◌++◌, map, refl, sym, ap, subst, ◌∙◌}
use Rattle.std.specs.Prelude.{◌||◌, not, if◌then◌else◌}
use Rattle.std.specs.List.{IsDistinct, AllByRecursion, list_any}
use Rattle.std.specs.Str.{bytes_eq}
use Rattle.std.proofs.lemmas.Bool.{cond-true, cond-false, or_left}
use Rattle.std.proofs.lemmas.Map.Keys.{IsDistinct-head, IsDistinct-tail}
use Rattle.std.proofs.lemmas.Slice.Eq.{bytes_eq-Decides}
use Rattle.otel_context.specs.BaggageMember.{Member, has_key}
use Rattle.otel_context.specs.Baggage.{put, remove}

pub same_text : (xs ys : List ℕ) → bytes_eq xs ys ≡ true → xs ≡ ys
same_text xs ys = (bytes_eq-Decides xs ys).0

abbrev pub keys : List Member → List (List ℕ)
keys ms = map (λ m. m.key) ms

abbrev pub AreDistinct : List Member → Type 0
AreDistinct ms = IsDistinct bytes_eq (keys ms)

-- no member has the key
abbrev pub HasNone : List ℕ → List Member → Type 0
HasNone key ms = AllByRecursion (λ other. bytes_eq key other ≡ false) (keys ms)

-- ---- if no member has the key

map_others : (m : Member) (ms : List Member) → HasNone m.key ms → map (λ other. if has_key m.key other then m else other) ms ≡ ms
map_others m [] h = refl
map_others m (o ∷ ms) h = λ i. cond-false (has_key m.key o) m o h.0 i ∷ map_others m ms h.1 i

pub filter_others : (key : List ℕ) (ms : List Member) → HasNone key ms → remove ms key ≡ ms
filter_others key [] h = refl
filter_others key (o ∷ ms) h =
    cond-true (not (has_key key o)) (o ∷ remove ms key) (remove ms key) (ap not h.0) ∙ ap (λ (x : List Member). o ∷ x) (filter_others key ms h.1)

pub none_after : (key : List ℕ) (o : Member) (ms : List Member) → bytes_eq key o.key ≡ true → AreDistinct (o ∷ ms) → HasNone key ms
none_after key o ms e d = subst (λ k. HasNone k ms) (sym (same_text key o.key e)) (IsDistinct-head bytes_eq o.key (keys ms) d)

-- ---- puts and removals, member by member

pub put_here : (m o : Member) (ms : List Member) → AreDistinct (o ∷ ms) → has_key m.key o ≡ true → put (o ∷ ms) m ≡ m ∷ ms
put_here m o ms d e =
    cond-true (list_any (has_key m.key) (o ∷ ms)) (map (λ other. if has_key m.key other then m else other) (o ∷ ms)) ((o ∷ ms) ++ m ∷ []) (or_left (has_key m.key o) (list_any (has_key m.key) ms) e)
    ∙ (λ i. cond-true (has_key m.key o) m o e i ∷ map_others m ms (none_after m.key o ms e d) i)

pub put_later : (m o : Member) (ms : List Member) → has_key m.key o ≡ false → put (o ∷ ms) m ≡ o ∷ put ms m
put_later m o ms e =
    ap (λ b. if b || list_any (has_key m.key) ms then map (λ other. if has_key m.key other then m else other) (o ∷ ms) else ((o ∷ ms) ++ m ∷ [])) e
    ∙ by (list_any (has_key m.key) ms)
  where
    by : (b : Bool) → (if b then map (λ other. if has_key m.key other then m else other) (o ∷ ms) else ((o ∷ ms) ++ m ∷ [])) ≡ o ∷ (if b then map (λ other. if has_key m.key other then m else other) ms else (ms ++ m ∷ []))
    by true = ap (λ x. x ∷ map (λ other. if has_key m.key other then m else other) ms) (cond-false (has_key m.key o) m o e)
    by false = refl

pub remove_here : (key : List ℕ) (o : Member) (ms : List Member) → has_key key o ≡ true → remove (o ∷ ms) key ≡ remove ms key
remove_here key o ms e = cond-false (not (has_key key o)) (o ∷ remove ms key) (remove ms key) (ap not e)

pub remove_later : (key : List ℕ) (o : Member) (ms : List Member) → has_key key o ≡ false → remove (o ∷ ms) key ≡ o ∷ remove ms key
remove_later key o ms e = cond-true (not (has_key key o)) (o ∷ remove ms key) (remove ms key) (ap not e)

pub tail : (o : Member) (ms : List Member) → AreDistinct (o ∷ ms) → AreDistinct ms
tail o ms = IsDistinct-tail bytes_eq o.key (keys ms)
