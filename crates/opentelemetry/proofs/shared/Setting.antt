-- The texts that several members set together.
use Rattle.std.proofs.Common.{Result, Ok, Err, ◌≤◌, ◌⊎◌, inl, inr, true≢false, ◌≡◌, ℕ, ◌+◌, ◌<◌, List, [], ◌∷◌, ◌++◌, Bool, IsTrue, Option, None, Some, refl, sym, ap, subst, ◌∙◌, take, length, get_or, append_assoc, arith, drop, if◌then◌else◌}
use Rattle.std.proofs.lemmas.List.{take_all}
use Rattle.std.proofs.lemmas.List.Folds.{list_any_at}
use Rattle.std.specs.List.{flat_map, list_any}
use Rattle.std.specs.Option.{option_or}
use Rattle.std.specs.Str.{bytes_eq, str_to_ascii_lowercase}
use Rattle.otel_base.proofs.shared.Options.{option_or-assoc, option_or-none}
use Rattle.otel_base.proofs.shared.Steps.{flat_map-take_more, flat_map-split}
use Rattle.opentelemetry.specs.Carrier.{CarrierState, Pairs, TextMap, at, last_value, Sets, SetsBeginning}
use Rattle.opentelemetry.specs.Injection.{Injects}
use Rattle.opentelemetry.specs.declared.propagation.error.PropagationError.{PropagationError}

pub last_value-append : (ps qs : Pairs) (k : List ℕ) → last_value (ps ++ qs) k ≡ option_or (last_value qs k) (last_value ps k)
last_value-append [] qs k = sym (option_or-none (last_value qs k))
last_value-append (p ∷ ps) qs k =
    let own : Option (List ℕ) = if bytes_eq (str_to_ascii_lowercase p.0) k then Some p.1 else None in
    ap (λ o. option_or o own) (last_value-append ps qs k) ∙ option_or-assoc (last_value qs k) (last_value ps k) own

pub sets_nothing : (m : TextMap) → Sets m [] m
sets_nothing m = record { at_key = λ k. refl }

pub sets_more : (a b c : TextMap) (ps qs : Pairs) → Sets a ps b → Sets b qs c → Sets a (ps ++ qs) c
sets_more a b c ps qs s t = record {
  at_key = λ k. t.at_key k ∙ ap (option_or (last_value qs k)) (s.at_key k)
      ∙ sym (ap (λ o. option_or o (at a k)) (last_value-append ps qs k) ∙ option_or-assoc (last_value qs k) (last_value ps k) (at a k));
}

-- a member that fails leaves a prefix of the pairs that all would set
pub begins_all : {X : Type 0} (f : X → Pairs) (xs ys : List X) (i : ℕ) (x : X) (a b c : TextMap) → xs ≡ ys → i < length xs → x ≡ get_or xs i x →
    Sets a (flat_map f (take i xs)) b → SetsBeginning b (f x) c → SetsBeginning a (flat_map f ys) c
begins_all f xs ys i x a b c same h is s t =
    let first : Pairs = flat_map f (take i xs) in
    let after : Pairs = flat_map f (drop (i + 1) xs) in
    record {
      done = first ++ t.done;
      left = t.left ++ after;
      split = ap (flat_map f) (sym same) ∙ flat_map-split f xs i x h is ∙ ap (λ r. (first ++ r) ++ after) t.split
          ∙ ap (λ r. r ++ after) (sym (append_assoc first t.done t.left)) ∙ append_assoc (first ++ t.done) t.left after;
      sets = sets_more a b c first t.done s t.sets;
    }

pub more_all : {X : Type 0} (f : X → Pairs) (xs : List X) (i : ℕ) (x : X) (a b c : TextMap) → i < length xs → x ≡ get_or xs i x →
    Sets a (flat_map f (take i xs)) b → Sets b (f x) c → Sets a (flat_map f (take (i + 1) xs)) c
more_all f xs i x a b c h is s t = rw (flat_map-take_more f xs i x h is) (sets_more a b c (flat_map f (take i xs)) (f x) s t)

-- past the last member
pub sets_all : {X : Type 0} (f : X → Pairs) (xs ys : List X) (i : ℕ) (a b : TextMap) → xs ≡ ys → length xs ≤ i → Sets a (flat_map f (take i xs)) b → Sets a (flat_map f ys) b
sets_all f xs ys i a b same h s = rw (← same) (subst (λ zs. Sets a (flat_map f zs) b) (take_all i xs h) s)

-- a refusal is from a member that may refuse, or from the carrier
pub refused_by_one : {X : Type 0} (p : X → Bool) (xs ys : List X) (i : ℕ) (x : X) (a b c : ℕ) → xs ≡ ys → i < length xs → x ≡ get_or xs i x → a ≤ b →
    IsTrue (p x) ⊎ (b < c) → IsTrue (list_any p ys) ⊎ (a < c)
refused_by_one p xs ys i x a b c same h is le (inl may) = inl (ap (list_any p) (sym same) ∙ list_any_at p xs i x h (ap p (sym is) ∙ may))
refused_by_one p xs ys i x a b c same h is le (inr rose) = inr (omega arith)

-- a member that returns an error ends the whole injection
pub injects_until : {X T : Type 0} (f : X → Pairs) (p : X → Bool) (xs ys : List X) (i : ℕ) (x : X) (a b c : CarrierState) (e : PropagationError) → xs ≡ ys → i < length xs → x ≡ get_or xs i x →
    Sets a.texts (flat_map f (take i xs)) b.texts → a.refusals ≤ b.refusals → Injects {T = T} (f x) (p x) b c (Err e) → Injects {T = T} (flat_map f ys) (list_any p ys) a c (Err e)
injects_until f p xs ys i x a b c e same h is sets le t = record {
  ok = tt;
  err = begins_all f xs ys i x a.texts b.texts c.texts same h is sets t.err;
  refused = λ does. refused_by_one p xs ys i x a.refusals b.refusals c.refusals same h is le (t.refused does);
  count = omega (arith, le, t.count);
}

-- past the last member
pub injects_all : {X T : Type 0} (f : X → Pairs) (may : Bool) (xs ys : List X) (i : ℕ) (a b : CarrierState) (t : T) → xs ≡ ys → length xs ≤ i →
    Sets a.texts (flat_map f (take i xs)) b.texts → a.refusals ≤ b.refusals → Injects {T = T} (flat_map f ys) may a b (Ok t)
injects_all f may xs ys i a b t same h sets le = record {
  ok = sets_all f xs ys i a.texts b.texts same h sets;
  err = tt;
  refused = λ does. absurd (true≢false (sym does));
  count = le;
}

-- the same if the carrier is known by another name
pub injects_moved : {T : Type 0} (r : Result T PropagationError) (a b c d : CarrierState) (ps : Pairs) (may : Bool) → a ≡ c → b ≡ d → Injects ps may a b r → Injects ps may c d r
injects_moved r a b c d ps may p q h = subst (λ x. Injects ps may c x r) q (subst (λ x. Injects ps may x b r) p h)

-- unchanged texts are unchanged if the carrier is known by another name
pub texts_moved : (a b c d : CarrierState) → a ≡ c → b ≡ d → b.texts ≡ a.texts → d.texts ≡ c.texts
texts_moved a b c d p q h = ap (λ s. s.texts) (sym q) ∙ h ∙ ap (λ s. s.texts) p
