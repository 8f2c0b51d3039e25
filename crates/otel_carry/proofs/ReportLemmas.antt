-- Writing a text in parts.
use Rattle.std.proofs.Common.{◌≡◌, List, [], ℕ, ◌++◌, ◌+◌, ◌<◌, ◌≤◌, Bool, Option, Some, Result, Ok, Err, OnOk, refl, subst, sym, ap, ◌∙◌, arith, length, take, get_or, map, codes, Bor, append_assoc, zero-add}
use Rattle.std.specs.Io.KnownBytes.{Appends}
use Rattle.std.specs.List.{enumerate_from, flat_map}
use Rattle.std.specs.Option.{option_map_or}
use Rattle.std.proofs.KnownBytes.{Appends-trans}
use Rattle.std.proofs.lemmas.List.{take_all}
use Rattle.std.proofs.lemmas.List.Folds.{flat_map-map}
use Rattle.std.proofs.lemmas.List.FromFn.{length-enumerate_from, get_or-enumerate_from}
use Rattle.otel_context.specs.Context.{ContextRecord, empty_context}
use Rattle.opentelemetry.specs.Carrier.{TextMap, AreKeys, at}
use Rattle.opentelemetry.specs.Extraction.{Extracts}
use Rattle.opentelemetry.specs.declared.carry.event.AttachOutcome.{AttachOutcome}
use Rattle.opentelemetry.specs.declared.propagation.error.PropagationError.{PropagationError}
use Rattle.opentelemetry.specs.declared.propagation.error.PropagationError.TheVariants as errors
use Rattle.otel_base.proofs.shared.Steps.{flat_map-take_more}
use Rattle.otel_carry.specs.declared.extraction.Extracted.{Extracted}
use Rattle.otel_carry.specs.Extracted.{shown, shown_of_context, status_of, text_of}
use Rattle.otel_carry.specs.Report.{AreTextLines, Writes, outcome_line, outcome_lines, current_line, text_line}
use Rattle.otel_carry.specs.Run.{IsRunText}

-- one more part
pub written_more : {X : Type 0} (f : X → List ℕ) (xs : List X) (n k : ℕ) (x : X) (a b c : Option (List ℕ)) → k ≡ n + 1 → (n < length xs) × (x ≡ get_or xs n x)
    → Appends a b (flat_map f (take n xs)) → Appends b c (f x) → Appends a c (flat_map f (take k xs))
written_more f xs n k x a b c more turn h one =
    subst (Appends a c) (sym (ap (λ m. flat_map f (take m xs)) more ∙ flat_map-take_more f xs n x turn.0 turn.1)) (Appends-trans a b c (flat_map f (take n xs)) (f x) h one)

-- the lines of the outcomes, with one more, and all of them
pub outcomes_more : (xs : List AttachOutcome) (n : ℕ) (x : AttachOutcome) (a b c : Option (List ℕ)) → Appends b c (outcome_line n x) → x ≡ get_or xs n x → n < length xs
    → Appends a b (flat_map (λ it. outcome_line it.0 it.1) (take n (enumerate_from 0 xs))) → Appends a c (flat_map (λ it. outcome_line it.0 it.1) (take (n + 1) (enumerate_from 0 xs)))
outcomes_more xs n x a b c one is within h =
    let there : ◌≡◌ {A = ℕ × AttachOutcome} (n, x) (get_or (enumerate_from 0 xs) n (n, x)) = ap (λ (y : AttachOutcome). (n, y)) is ∙ sym (get_or-enumerate_from 0 xs n (n, x) within ∙ ap (λ (k : ℕ). (k, get_or xs n x)) (zero-add n)) in
    written_more (λ (it : ℕ × AttachOutcome). outcome_line it.0 it.1) (enumerate_from 0 xs) n (n + 1) (n, x) a b c refl (omega (arith, within, length-enumerate_from 0 xs), there) h one

pub outcomes_all : (xs : List AttachOutcome) (n : ℕ) (a b : Option (List ℕ)) → length xs ≤ n → Appends a b (flat_map (λ it. outcome_line it.0 it.1) (take n (enumerate_from 0 xs)))
    → Appends a b (outcome_lines xs)
outcomes_all xs n a b all h = subst (λ ys. Appends a b (flat_map (λ (it : ℕ × AttachOutcome). outcome_line it.0 it.1) ys)) (take_all n (enumerate_from 0 xs) (omega (arith, all, length-enumerate_from 0 xs))) h

-- the line of a text
pub text_written : {T E : Type 0} (texts : TextMap) (key value : List ℕ) (r : Result T E) (old new : Option (List ℕ)) → at texts key ≡ Some value
    → OnOk r (Appends old new (key ++ (codes "=" ++ (value ++ codes "\n")))) → OnOk r (Appends old new (text_line texts key))
text_written texts key value (Err e) old new is h = tt
text_written texts key value (Ok x) old new is h =
    let line : text_line texts key ≡ key ++ codes "=" ++ value ++ codes "\n" = ap (λ (o : Option (List ℕ)). option_map_or (λ v. key ++ codes "=" ++ v ++ codes "\n") o []) is in
    subst (Appends old new) (sym (line ∙ append_assoc (key ++ codes "=") value (codes "\n") ∙ append_assoc key (codes "=") (value ++ codes "\n"))) h

-- the lines of a carrier's texts
pub texts_written : {T E : Type 0} (texts : TextMap) (old new : Option (List ℕ)) (keys items : List (Bor (List ℕ))) (r : Result T E) → items ≡ keys
    → AreKeys texts (map (λ k. k.now) keys) → OnOk r (Appends old new (flat_map (λ k. text_line texts k.now) items)) → OnOk r (Writes (AreTextLines texts) old new)
texts_written texts old new keys items (Err e) same are h = tt
texts_written texts old new keys items (Ok x) same are h = record {
  text = flat_map (λ k. text_line texts k.now) items;
  is = record {
    keys = map (λ k. k.now) keys;
    are_keys = are;
    lines_are = ap (flat_map (λ (k : Bor (List ℕ)). text_line texts k.now)) same ∙ sym (flat_map-map (text_line texts) (λ (k : Bor (List ℕ)). k.now) keys);
  };
  appended = h;
}

-- the same for texts by another name
pub extracts_moved : (give : TextMap → ContextRecord) (may_refuse : Bool) (r : Result ContextRecord PropagationError) (a b : TextMap) → a ≡ b → Extracts (give a) may_refuse r → Extracts (give b) may_refuse r
extracts_moved give may_refuse r a b same = subst (λ (t : TextMap). Extracts (give t) may_refuse r) same

-- the output for an extraction that succeeded
shown_if_0 : (context : ContextRecord) (may_refuse : Bool) (r : Result ContextRecord PropagationError) (x : Extracted) → Extracts context may_refuse r → x ≡ shown r → status_of x ≡ 0
    → x ≡ shown_of_context context
shown_if_0 context may_refuse (Ok found) x e is zero = is ∙ ap shown_of_context e.ok
shown_if_0 context may_refuse (Err errors.Refused) x e is zero = absurd (let h : 1 ≡ 0 = sym (ap status_of is) ∙ zero in omega (arith, h))
shown_if_0 context may_refuse (Err (errors.Memory m)) x e is zero = absurd (let h : 1 ≡ 0 = sym (ap status_of is) ∙ zero in omega (arith, h))

-- the four parts of the report
pub run_written : (extracted : ContextRecord → TextMap → ContextRecord) (outcomes given_outcomes : List AttachOutcome) (context given_context start : ContextRecord) (texts : TextMap)
    (may_refuse : Bool) (r : Result ContextRecord PropagationError) (x : Extracted) (a b c d e : Option (List ℕ))
    → given_outcomes ≡ outcomes → given_context ≡ context → start ≡ empty_context
    → Extracts (extracted start texts) may_refuse r → x ≡ shown r → status_of x ≡ 0
    → Appends a b (outcome_lines given_outcomes) → Appends b c (current_line given_context) → Writes (AreTextLines texts) c d → Appends d e (codes "extracted: " ++ text_of x ++ codes "\n")
    → Writes (IsRunText extracted outcomes context texts) a e
run_written extracted outcomes given_outcomes context given_context start texts may_refuse r x a b c d e same_outcomes same_context from_base found is zero first second third fourth =
    let shows : x ≡ shown_of_context (extracted empty_context texts) = shown_if_0 (extracted start texts) may_refuse r x found is zero ∙ ap (λ s. shown_of_context (extracted s texts)) from_base in
    let one = subst (λ os. Appends a b (outcome_lines os)) same_outcomes first in
    let two = subst (λ k. Appends b c (current_line k)) same_context second in
    let four = subst (λ y. Appends d e (codes "extracted: " ++ text_of y ++ codes "\n")) shows fourth in
    record {
      text = outcome_lines outcomes ++ current_line context ++ third.text ++ (codes "extracted: " ++ text_of (shown_of_context (extracted empty_context texts)) ++ codes "\n");
      is = record { lines = third.text; of_texts = third.is; text_is = refl };
      appended = Appends-trans a d e _ _ (Appends-trans a c d _ _ (Appends-trans a b c _ _ one two) third.appended) four;
    }
