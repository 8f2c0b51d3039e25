-- The value of a text in a map of strings, before and after the map's calls.
use Rattle.std.proofs.Common.{◌≡◌, ℕ, List, [], ◌∷◌, true, false, cond, Option, None, Some, refl, sym, ap, ◌∙◌, string_bytes, map}
use Rattle.std.specs.FinMap as fin
use Rattle.std.specs.HashMap as hash
use Rattle.std.specs.Cmp.Lexicographic.{slice_cmp, nat_list_cmp_total, texts_ties}
use Rattle.std.specs.Option.{option_map, option_or}
use Rattle.std.specs.Ordering.{nat_cmp}
use Rattle.std.specs.Str.{bytes_eq, str_to_ascii_lowercase}
use Rattle.std.proofs.lemmas.Slice.Eq.{bytes_eq-Decides}
use Rattle.std.proofs.Common.{◌⊎◌, inl, inr}
use Rattle.std.specs.String.{string_eq}
use Rattle.std.specs.Map.{lookup}
use Rattle.std.specs.declared.string.String.{String}
use Rattle.std.specs.HashMap.{HashMap}
use Rattle.std.proofs.lemmas.Map.Text.{hash_map_updates_text}
use Rattle.opentelemetry.specs.Carrier.{CarrierState, TextMap, at, Sets, text_pair, text_map, map_state}

find-text_pair : {A : Type 0} (q : List ℕ) (es : List (String A × String A)) →
    fin.find (slice_cmp nat_cmp) q (map text_pair es) ≡ option_map string_bytes (lookup (λ k. bytes_eq q (string_bytes k)) es)
find-text_pair q [] = refl
find-text_pair q (e ∷ es) =
    rw (← texts_ties q (string_bytes e.0))
    (elim (bytes_eq q (string_bytes e.0)) as (λ b. cond b (Some (string_bytes e.1)) (fin.find (slice_cmp nat_cmp) q (map text_pair es)) ≡ option_map string_bytes (cond b (Some e.1) (lookup (λ k. bytes_eq q (string_bytes k)) es))) [
      | true ↦ refl
      | false ↦ find-text_pair q es
    ])

pub at-text_map : {A : Type 0} (es : List (String A × String A)) (q : List ℕ) →
    at (text_map es) q ≡ option_map string_bytes (lookup (λ k. bytes_eq q (string_bytes k)) es)
at-text_map es q = fin.get-from_entries nat_list_cmp_total (map text_pair es) q ∙ find-text_pair q es

-- the map after `insert`
pub sets_one : {A S : Type 0} (m n : HashMap (String A) (String A) S) (k : List ℕ) (lowered value : String A) →
    string_bytes lowered ≡ str_to_ascii_lowercase k →
    hash.Updates string_eq m n lowered (Some value) →
    Sets (text_map m.entries) ((k, string_bytes value) ∷ []) (text_map n.entries)
sets_one m n k lowered value is updated = record {
  at_key = λ q.
      at-text_map n.entries q ∙ ap (option_map string_bytes) (hash_map_updates_text (string_bytes lowered) m n (Some value) updated q)
      ∙ rw (is, at-text_map m.entries q)
      (elim (bytes_eq (str_to_ascii_lowercase k) q) as (λ b. option_map string_bytes (cond b (Some value) (hash.get_by_text m q)) ≡ option_or (cond b (Some (string_bytes value)) None) (option_map string_bytes (hash.get_by_text m q))) [
        | true ↦ refl
        | false ↦ refl
      ]);
}

-- a text is the key of some entry, or a look-up misses
at_key_or_none : {A X : Type 0} (q : List ℕ) (es : List (String A × X)) →
    (lookup (λ k. bytes_eq q (string_bytes k)) es ≡ None) ⊎ ((k : String A) × (q ≡ string_bytes k))
at_key_or_none q [] = inl refl
at_key_or_none {A} {X} q (e ∷ es) =
    elim (bytes_eq q (string_bytes e.0)) as (λ b. bytes_eq q (string_bytes e.0) ≡ b → (cond b (Some e.1) (lookup (λ k. bytes_eq q (string_bytes k)) es) ≡ None) ⊎ ((k : String A) × (q ≡ string_bytes k))) [
      | true ↦ λ is. inr (e.0, (bytes_eq-Decides q (string_bytes e.0)).0 is)
      | false ↦ λ is. at_key_or_none q es
    ] refl

-- a map with its entries in another order
same_text_map : {A S : Type 0} (m n : HashMap (String A) (String A) S) →
    ((q : String A) → hash.get string_eq n q ≡ hash.get string_eq m q) →
    text_map n.entries ≡ text_map m.entries
same_text_map {A} m n same =
    let at_string : (q : List ℕ) (k : String A) → q ≡ string_bytes k → hash.get_by_text n q ≡ hash.get_by_text m q =
    λ q k is. ap (hash.get_by_text n) is ∙ same k ∙ sym (ap (hash.get_by_text m) is) in
    let at_text : (q : List ℕ) → hash.get_by_text n q ≡ hash.get_by_text m q =
    λ q. elim (at_key_or_none q n.entries) [
      | inr there ↦ at_string q there.0 there.1
      | inl none ↦ elim (at_key_or_none q m.entries) [
        | inr there ↦ at_string q there.0 there.1
        | inl none_before ↦ none ∙ sym none_before
      ]
    ] in
    fin.same_map nat_list_cmp_total (fin.slice_cmp-IsAntisymmetric fin.nat_cmp-IsAntisymmetric) _ _
    (λ q. at-text_map n.entries q ∙ ap (option_map string_bytes) (at_text q) ∙ sym (at-text_map m.entries q))

abbrev state_of : TextMap → CarrierState
state_of texts = record { texts = texts; refusals = 0 }

pub same_map_state : {A S : Type 0} (m n : HashMap (String A) (String A) S) →
    ((q : String A) → hash.get string_eq n q ≡ hash.get string_eq m q) →
    map_state n.entries ≡ map_state m.entries
same_map_state m n same = ap state_of (same_text_map m n same)

-- the result of a look-up by a text
pub at_found : {A : Type 0} (es : List (String A × String A)) (q p : List ℕ) (o : Option (String A)) →
    p ≡ q → o ≡ lookup (λ k. bytes_eq p (string_bytes k)) es → at (text_map es) q ≡ option_map string_bytes o
at_found es q p o same is = at-text_map es q ∙ ap (λ r. option_map string_bytes (lookup (λ k. bytes_eq r (string_bytes k)) es)) (sym same) ∙ ap (option_map string_bytes) (sym is)
