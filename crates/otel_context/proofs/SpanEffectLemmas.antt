-- Attributes set in turn, and the event of an error.
use Rattle.std.proofs.Common.{◌≡◌, ℕ, List, ◌∷◌, length, take, fold, sym, ap, ◌∙◌, arith, length-append, Bool, true}
use Rattle.std.proofs.Math.Seq.{take-append_seam}
use Rattle.std.specs.Prelude.{Option, Result, Ok, Err, OnOk, OnErr, IfSome, codes}
use Rattle.otel_base.specs.KeyValue.{Attribute}
use Rattle.otel_context.specs.SpanEffects.{message, RecordsError, SetSoFar, SetsBeginning}

module _ {S : Type 0} (after : S → Attribute → S) (old : S) (attributes : List Attribute) where
  -- if one remains, a prefix was set
  set_some : (now : S) (done left : List Attribute) (next : Attribute) (rest : List Attribute) → left ≡ next ∷ rest → SetSoFar after old attributes now done left → SetsBeginning after old attributes now
  set_some now done left next rest more h = record {
    count = length done;
    within = omega (arith, ap length h.parts, length-append done left, ap length more);
    set = h.set ∙ ap (fold after old) (sym (ap (take (length done)) h.parts ∙ take-append_seam done left));
  }

  pub set_some_err : {A E : Type 0} (r : Result A E) (now new : S) (done left : List Attribute) (next : Attribute) (rest : List Attribute) → left ≡ next ∷ rest → SetSoFar after old attributes now done left → new ≡ now
      → OnErr r (SetsBeginning after old attributes new)
  set_some_err (Ok x) now new done left next rest more h e = tt
  set_some_err (Err x) now new done left next rest more h e = rw e (set_some now done left next rest more h)

module _ {S A E : Type 0} where
  -- an event with that name, with this list of attributes
  pub error_event : (is_recording : S → Bool) (after : S → List ℕ → ℕ → List Attribute → S) (old : S) (output : Option (List ℕ)) (time : ℕ) (r : Result A E) (new : S)
      (name printed : List ℕ) (attributes : List Attribute)
      → is_recording old ≡ true → IfSome output (λ bytes. printed ≡ bytes) → name ≡ codes "exception" → attributes ≡ message printed
      → OnOk r (new ≡ after old name time attributes) → OnOk r (RecordsError is_recording after old output time new)
  error_event is_recording after old output time (Ok x) new name printed attributes records prints n l e =
      rw records (record { printed = printed; prints = prints; added = e ∙ ap (λ t. after old t time attributes) n ∙ ap (after old (codes "exception") time) l })
  error_event is_recording after old output time (Err x) new name printed attributes records prints n l e = tt
