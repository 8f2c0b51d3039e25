-- The equality of scopes decides `IsSameScope`, and scopes that are the same are hashed alike.
use Rattle.std.specs.Prelude.{◌≡◌, ℕ, List, [], ◌∷◌, ◌++◌, map, Bool, true, false, ◌&&◌, cond}
use Rattle.std.specs.Prelude.{Option, Some, None, ◌⊎◌}
use Rattle.std.specs.List.{filter, list_all, slice_get, flat_map}
use Rattle.std.specs.Bool.{Decides, one_answer}
use Rattle.std.specs.Cmp.{IsEquivalence, first_so, second_so}
use Rattle.std.specs.Cmp.Lexicographic.{pointwise}
use Rattle.std.specs.Option.{option_eq}
use Rattle.std.specs.Hash as fed
use Rattle.std.specs.Str.{bytes_eq}
use Rattle.std.proofs.Common.{refl, ap, sym, ◌∙◌, true≢false, inl, inr}
use Rattle.std.proofs.lemmas.Bool.Decides.{Decides-and}
use Rattle.std.proofs.lemmas.Slice.Eq.{slice_eq-Decides, bytes_eq-Decides}
use Rattle.otel_base.specs.KeyValueLaws.{value_eq-Decides, attribute_eq-Decides}
use Rattle.otel_base.specs.KeyValue as KeyValue
use Rattle.otel_base.specs.KeyValue.{Attribute, has_key, values_under}
use Rattle.otel_base.specs.KeyOrder.{in_key_order, IsKeyOrder}
use Rattle.otel_base.specs.InstrumentationScope.{Scope, IsSameScope, agree_under, attributes_eq, eq}
use Rattle.otel_base.specs.InstrumentationScope.{hash}
use Rattle.otel_base.specs.KeyOrderLaws.{key_is, one_order_from_values, values_from_one_order}

-- the same list of values under each key
abbrev SameValues : List Attribute → List Attribute → Type 0
SameValues xs ys = (k : List ℕ) → values_under k xs ≡ values_under k ys

-- ---- attributes
-- a property of each pair's key holds for k, or no pair has the key k
at_key_step : (t : List ℕ → Bool) (k : List ℕ) (p : Attribute) (rest : List Attribute) (b : Bool)
    → has_key k p ≡ b → t p.0 ≡ true → (t k ≡ true) ⊎ (rest ≡ [])
    → (t k ≡ true) ⊎ (cond b (p ∷ rest) rest ≡ [])
at_key_step t k p rest true e h more = inl (ap t (sym (key_is k p e)) ∙ h)
at_key_step t k p rest false e h more = more

at_key : (t : List ℕ → Bool) (k : List ℕ) (ps : List Attribute) → list_all (λ p. t p.0) ps ≡ true
    → (t k ≡ true) ⊎ (filter (has_key k) ps ≡ [])
at_key t k [] h = inr refl
at_key t k (p ∷ ps) h =
    at_key_step t k p (filter (has_key k) ps) (has_key k p) refl
    (first_so (t p.0) (list_all (λ q. t q.0) ps) h)
    (at_key t k ps (second_so (t p.0) (list_all (λ q. t q.0) ps) h))

-- a property of every key holds for the keys of ps
all_agree : (t : List ℕ → Bool) → ((k : List ℕ) → t k ≡ true) → (ps : List Attribute)
    → list_all (λ p. t p.0) ps ≡ true
all_agree t h [] = refl
all_agree t h (p ∷ ps) = rw (h p.0) (all_agree t h ps)

-- the test at one key
agree_under-Decides : (xs ys : List Attribute) (k : List ℕ)
    → Decides (agree_under xs ys k) (values_under k xs ≡ values_under k ys)
agree_under-Decides xs ys k =
    slice_eq-Decides value_eq-Decides (values_under k xs) (values_under k ys) _ refl

same_at : (xs ys : List Attribute) (k : List ℕ)
    → (agree_under xs ys k ≡ true) ⊎ (filter (has_key k) xs ≡ [])
    → (agree_under xs ys k ≡ true) ⊎ (filter (has_key k) ys ≡ [])
    → values_under k xs ≡ values_under k ys
same_at xs ys k (inl h) more = (agree_under-Decides xs ys k).0 h
same_at xs ys k (inr none) (inl h) = (agree_under-Decides xs ys k).0 h
same_at xs ys k (inr none) (inr no_more) = ap (map (λ p. p.1)) (none ∙ sym no_more)

-- the test of the attributes
attributes_eq-Decides : (xs ys : List Attribute) → Decides (attributes_eq xs ys) (SameValues xs ys)
attributes_eq-Decides xs ys =
    let t : List ℕ → Bool = agree_under xs ys in
    let left : Bool = list_all (λ p. t p.0) xs in
    let right : Bool = list_all (λ p. t p.0) ys in (
      λ h k. same_at xs ys k (at_key t k xs (first_so left right h))
          (at_key t k ys (second_so left right h)),
      λ same.
          let each : (k : List ℕ) → t k ≡ true = λ k. (agree_under-Decides xs ys k).1 (same k) in
          λ i. all_agree t each xs i && all_agree t each ys i,
    )

-- the key orders are equal if and only if the values under each key are equal
orders_Decides : (xs ys : List Attribute)
    → Decides (pointwise KeyValue.eq (in_key_order xs) (in_key_order ys)) (SameValues xs ys)
orders_Decides xs ys =
    let d = slice_eq-Decides attribute_eq-Decides (in_key_order xs) (in_key_order ys) _ refl in
    (λ h. values_from_one_order xs ys (d.0 h), λ same. d.1 (one_order_from_values xs ys same))

some_eq : (xs ys : List Attribute)
    → pointwise (option_eq KeyValue.eq) (map (λ p. Some p) xs) (map (λ p. Some p) ys)
    ≡ pointwise KeyValue.eq xs ys
some_eq [] [] = refl
some_eq [] (y ∷ ys) = refl
some_eq (x ∷ xs) [] = refl
some_eq (x ∷ xs) (y ∷ ys) = ap (λ b. KeyValue.eq x y && b) (some_eq xs ys)

-- comparing both in key order decides the same
pub walked_eq : (xs ys : List Attribute) (left right : List ℕ) → IsKeyOrder xs left
    → IsKeyOrder ys right
    → pointwise (option_eq KeyValue.eq) (map (slice_get xs) left) (map (slice_get ys) right)
    ≡ attributes_eq xs ys
walked_eq xs ys left right in_left in_right =
    (λ i. pointwise (option_eq KeyValue.eq) (in_left i) (in_right i))
    ∙ some_eq (in_key_order xs) (in_key_order ys)
    ∙ one_answer (pointwise KeyValue.eq (in_key_order xs) (in_key_order ys)) (attributes_eq xs ys)
    (orders_Decides xs ys) (attributes_eq-Decides xs ys)

-- ---- scopes
-- the test of a text that may be absent
option_bytes_eq-Decides : (a b : Option (List ℕ)) → Decides (option_eq bytes_eq a b) (a ≡ b)
option_bytes_eq-Decides None None = (λ h. refl, λ e. refl)
option_bytes_eq-Decides None (Some y) = (λ h. absurd (true≢false (sym h)), λ e. cc)
option_bytes_eq-Decides (Some x) None = (λ h. absurd (true≢false (sym h)), λ e. cc)
option_bytes_eq-Decides (Some x) (Some y) = let d =
    bytes_eq-Decides x y in (λ h. ap (λ z. Some z) (d.0 h), λ e. d.1 (cc))

-- the test of scopes
pub eq-Decides : (a b : Scope) → Decides (eq a b) (IsSameScope a b)
eq-Decides a b =
    let names =
    Decides-and _ _ (bytes_eq-Decides a.name b.name)
    (option_bytes_eq-Decides a.version b.version) in
    let texts = Decides-and _ _ names (option_bytes_eq-Decides a.schema_url b.schema_url) in
    let all = Decides-and _ _ texts (attributes_eq-Decides a.attributes b.attributes) in (
      λ h. let e =
          all.0 h in record { name = e.0.0.0; version = e.0.0.1; schema_url = e.0.1; values = e.1 },
      λ s. all.1 (((s.name, s.version), s.schema_url), s.values),
    )

IsSameScope-sym : (a b : Scope) → IsSameScope a b → IsSameScope b a
IsSameScope-sym a b s =
    record {
      name = sym s.name;
      version = sym s.version;
      schema_url = sym s.schema_url;
      values =
          λ k. sym (s.values k);
    }

IsSameScope-trans : (a b c : Scope) → IsSameScope a b → IsSameScope b c → IsSameScope a c
IsSameScope-trans a b c s t =
    record {
      name = s.name ∙ t.name;
      version = s.version ∙ t.version;
      schema_url =
          s.schema_url ∙ t.schema_url;
      values = λ k. s.values k ∙ t.values k;
    }

-- being the same scope is an equivalence relation: the law of `Eq`
pub eq-IsEquivalence : IsEquivalence eq
eq-IsEquivalence = record {
  refl = λ a. (eq-Decides a a).1
      (record { name = refl; version = refl; schema_url = refl; values = λ k. refl });
  symm = λ a b. one_answer (eq a b) (eq b a) (eq-Decides a b) (
    λ h. IsSameScope-sym b a ((eq-Decides b a).0 h),
    λ s. (eq-Decides b a).1 (IsSameScope-sym a b s),
  );
  congr = λ a b c h.
      let s = (eq-Decides a b).0 h in
      one_answer (eq a c) (eq b c) (eq-Decides a c) (
        λ k. IsSameScope-trans a b c s ((eq-Decides b c).0 k),
        λ t. (eq-Decides b c).1 (IsSameScope-trans b a c (IsSameScope-sym a b s) t),
      );
}

-- scopes that are the same are hashed alike: the law of `Hash`
pub hash-respects : (a b : Scope) → eq a b ≡ true → hash a ≡ hash b
hash-respects a b h =
    let s = (eq-Decides a b).0 h in
    let order = one_order_from_values a.attributes b.attributes s.values in
    λ i. fed.str (s.name i) ++ fed.option fed.str (s.version i)
    ++ fed.option fed.str (s.schema_url i) ++ flat_map KeyValue.hash (order i)
