-- What the listed propagators set, and their fields, each once.
use Rattle.std.proofs.Common.{◌≡◌, ℕ, ◌+◌, ◌<◌, ◌≤◌, List, [], ◌∷◌, ◌++◌, true, false, cond, ◌||◌, refl, sym, ap, subst, ◌∙◌, take, length, get_or, map, string_bytes, Bool, Err}
use Rattle.std.specs.List.{flat_map, list_any}
use Rattle.std.specs.Str.{bytes_eq}
use Rattle.std.specs.String.{string_eq}
use Rattle.std.specs.declared.string.String.{String}
use Rattle.std.proofs.lemmas.List.{take_all, map-append}
use Rattle.std.proofs.lemmas.List.Sums.{fold-append}
use Rattle.indexmap.specs.IndexSet.{insert_key, insert_all}
use Rattle.otel_base.proofs.shared.Steps.{flat_map-take_more}
use Rattle.opentelemetry.specs.Carrier.{CarrierState, Pairs, Sets}
use Rattle.opentelemetry.specs.Injection.{Injects}
use Rattle.opentelemetry.specs.declared.propagation.error.PropagationError.{PropagationError}
use Rattle.opentelemetry.proofs.shared.Setting.{injects_until}

-- the strings' texts after one more
list_any-texts : {A : Type 0} (k : String A) (ks : List (String A)) → list_any (string_eq k) ks ≡ list_any (bytes_eq (string_bytes k)) (map string_bytes ks)
list_any-texts k [] = refl
list_any-texts k (x ∷ ks) = ap (λ b. bytes_eq (string_bytes k) (string_bytes x) || b) (list_any-texts k ks)

pub texts-insert_key : {A : Type 0} (ks : List (String A)) (k : String A) → map string_bytes (insert_key string_eq ks k) ≡ insert_key bytes_eq (map string_bytes ks) (string_bytes k)
texts-insert_key ks k =
    rw (← list_any-texts k ks)
    (elim (list_any (string_eq k) ks) as (λ b. map string_bytes (cond b ks (ks ++ k ∷ [])) ≡ cond b (map string_bytes ks) (map string_bytes ks ++ string_bytes k ∷ [])) [
      | true ↦ refl
      | false ↦ map-append string_bytes ks (k ∷ [])
    ])

-- one more propagator's fields
pub fields_more : {X : Type 0} (f : X → List (List ℕ)) (xs : List X) (i k : ℕ) (x : X) (old new : List (List ℕ)) → k ≡ i + 1 → i < length xs → x ≡ get_or xs i x
    → new ≡ insert_all bytes_eq old (f x) → old ≡ insert_all bytes_eq [] (flat_map f (take i xs)) → new ≡ insert_all bytes_eq [] (flat_map f (take k xs))
fields_more f xs i k x old new next h is more so_far =
    more ∙ ap (λ r. insert_all bytes_eq r (f x)) so_far ∙ sym (fold-append (insert_key bytes_eq) [] (flat_map f (take i xs)) (f x))
    ∙ ap (insert_all bytes_eq []) (sym (flat_map-take_more f xs i x h is)) ∙ ap (λ n. insert_all bytes_eq [] (flat_map f (take n xs))) (sym next)

-- past the last propagator
pub fields_all : {X : Type 0} (f : X → List (List ℕ)) (xs : List X) (i : ℕ) (new : List (List ℕ)) → length xs ≤ i
    → new ≡ insert_all bytes_eq [] (flat_map f (take i xs)) → new ≡ insert_all bytes_eq [] (flat_map f xs)
fields_all f xs i new h is = is ∙ ap (λ ys. insert_all bytes_eq [] (flat_map f ys)) (take_all i xs h)

-- none of them refuses
none_refuses : {X : Type 0} (xs : List X) → list_any (λ _. false) xs ≡ false
none_refuses [] = refl
none_refuses (x ∷ xs) = none_refuses xs

-- one that fails ends the whole injection
pub injects_until_none : {X T : Type 0} (f : X → Pairs) (xs : List X) (i : ℕ) (x : X) (a b c : CarrierState) (e : PropagationError) → i < length xs → x ≡ get_or xs i x
    → Sets a.texts (flat_map f (take i xs)) b.texts → a.refusals ≤ b.refusals → Injects {T = T} (f x) false b c (Err e) → Injects {T = T} (flat_map f xs) false a c (Err e)
injects_until_none {T = T} f xs i x a b c e h is sets le t =
    subst (λ (may : Bool). Injects {T = T} (flat_map f xs) may a c (Err e)) (none_refuses xs)
    (injects_until {T = T} f (λ _. false) xs xs i x a b c e refl h is sets le t)
