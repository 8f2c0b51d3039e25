-- Lists of JSON values, of which each is read.
use Rattle.std.proofs.Common.{◌≡◌, refl, sym, ap, subst, ◌∙◌, ℕ, zero, suc, ◌+◌, ◌<◌, arith}
use Rattle.std.proofs.Common.{List, [], ◌∷◌, ◌++◌, map, length, take, get_or}
use Rattle.std.proofs.lemmas.List.{map-append, take_more}
use Rattle.std.proofs.Common.{Some, not, ◌&&◌, ◌==◌}
use Rattle.std.proofs.lemmas.List.{length-map}
use Rattle.std.proofs.lemmas.List.Folds.{list_all-map}
use Rattle.std.specs.List.{AllZip, list_all}
use Rattle.serde_json.specs.Data.{Data}
use Rattle.serde_json.specs.View.{view, items_of}
use Rattle.serde_json.specs.declared.value.Value.{Value}
use Rattle.otel_otlp.specs.ReadMembers.{items, has, all_have}

pub items_again : (ds : List Data) → items (items_of ds) ≡ ds
items_again [] = refl
items_again (d ∷ ds) = ap (λ l. d ∷ l) (items_again ds)

-- the values have the member as the JSON that they are seen as
pub all_have_each : (name : List ℕ) (vs : List Value)
    → all_have name (Some (map view vs))
    ≡ (not (length vs == 0) && list_all (λ v. has name (view v)) vs)
all_have_each name vs =
    ap (λ b. not (length (map view vs) == 0) && b) (list_all-map (has name) view vs)
    ∙ ap (λ n. not (n == 0) && list_all (λ v. has name (view v)) vs) (length-map vs view)

-- one more element on both sides
pub zip_push : {D S : Type 0} (R : D → S → Type 0) (ds : List D) (ss : List S) (d : D) (s : S)
    → AllZip R ds ss → R d s → AllZip R (ds ++ d ∷ []) (ss ++ s ∷ [])
zip_push R [] [] d s h r = (r, tt)
zip_push R [] (t ∷ ss) d s h r = absurd h
zip_push R (e ∷ ds) [] d s h r = absurd h
zip_push R (e ∷ ds) (t ∷ ss) d s h r = (h.0, zip_push R ds ss d s h.1 r)

-- one more element was read
pub zip_more : {V D S : Type 0} (R : D → S → Type 0) (f : V → D) (xs : List V) (i : ℕ) (d x : V)
    (ss : List S) (s : S) → i < length xs → x ≡ get_or xs i d
    → AllZip R (map f (take i xs)) ss → R (f x) s
    → AllZip R (map f (take (i + 1) xs)) (ss ++ s ∷ [])
zip_more R f xs i d x ss s lt is h r =
    subst (λ l. AllZip R l (ss ++ s ∷ []))
    (ap (λ y. map f (take i xs) ++ f y ∷ []) is
    ∙ sym (map-append f (take i xs) (get_or xs i d ∷ [])) ∙ ap (map f) (sym (take_more xs i d lt)))
    (zip_push R (map f (take i xs)) ss (f x) s h r)

-- the element at a place can't be read, so the list can't
pub none_at : {V D S : Type 0} (R : D → S → Type 0) (f : V → D) (xs : List V) (i : ℕ) (d x : V)
    → i < length xs → x ≡ get_or xs i d → ((s : S) → ¬ R (f x) s)
    → (ss : List S) → ¬ AllZip R (map f xs) ss
none_at R f [] i d x lt is none ss h = let no : ⊥ = omega arith in absurd no
none_at R f (v ∷ xs) zero d x lt is none [] h = h
none_at R f (v ∷ xs) zero d x lt is none (s ∷ ss) h =
    none s (subst (λ w. R (f w) s) (sym is) h.0)
none_at R f (v ∷ xs) (suc i) d x lt is none [] h = h
none_at R f (v ∷ xs) (suc i) d x lt is none (s ∷ ss) h =
    none_at R f xs i d x (omega arith) is none ss h.1
