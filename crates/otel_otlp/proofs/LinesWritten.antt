-- The bytes that a writer accepted, with the pending newline.
use Rattle.std.proofs.Common.{Result, Ok, Err, OnErr, OnOk, ◌≡◌, ℕ, inr, nat_eq, nat_lt, true≢false, ◌+◌, ◌-◌, ◌<◌, List, [], ◌∷◌, ◌++◌, length, take, Option, Bool, true, false, refl, sym, ap, ◌∙◌, append_assoc, subst, arith}
use Rattle.std.proofs.lemmas.Bool.Decides.{nat_tests}
use Rattle.std.proofs.lemmas.List.{length-append, take-append-le}
use Rattle.std.proofs.KnownBytes.{Appends-trans}
use Rattle.std.specs.Io.KnownBytes.{Appends}
use Rattle.otel_sdk_base.specs.Resource.{Parts}
use Rattle.otel_otlp.specs.Exporter.{LinesWritten, IsLineOf, pending, IsCutOff}
use Rattle.otel_otlp.specs.Groups.{BatchForm, batch_value}
use Rattle.otel_otlp.specs.Json.{IsTextOf}

-- lines after lines
pub more_written : (a b c : Option (List ℕ)) (o p q : Bool) (xs ys : List ℕ) → LinesWritten a b o p xs → LinesWritten b c p q ys → LinesWritten a c o q (xs ++ ys)
more_written a b c o p q xs ys first then = record {
  taken = first.taken ++ then.taken;
  appended = Appends-trans a b c first.taken then.taken first.appended then.appended;
  whole =
      append_assoc first.taken then.taken (pending q)
      ∙ ap (λ l. first.taken ++ l) then.whole
      ∙ sym (append_assoc first.taken (pending p) ys)
      ∙ ap (λ l. l ++ ys) first.whole
      ∙ append_assoc (pending o) xs ys;
}

-- more than a newline is left of a line, so not all of its text was written
short : (n m count : ℕ) → m ≡ n + 1 → count < m → ¬ (m - count ≡ 1) → count < n
short n m count size fewer left = omega (arith, size, fewer, left)

-- and a newline is pending
some_count : (count : ℕ) → 0 < count → nat_lt 0 count ≡ true
some_count count some = grind (arith, nat_tests)

-- the first bytes of a line, if no newline was pending; one is pending afterwards
pub cut_written : (a b : Option (List ℕ)) (text line : List ℕ) (count : ℕ) (was : Bool) → was ≡ false → line ≡ text ++ 10 ∷ [] → 0 < count → count < length line → ¬ (length line - count ≡ 1) → Appends a b (take count line)
    → (cut : List ℕ) × IsCutOff text cut × LinesWritten a b was (nat_lt 0 count) cut
cut_written a b text line count was w l some fewer left p =
    let size : length line ≡ length text + 1 = ap length l ∙ length-append text (10 ∷ []) in
    let within : count < length text = short (length text) (length line) count size fewer left in
    let first : take count line ≡ take count text = ap (take count) l ∙ take-append-le count text (10 ∷ []) (omega (arith, within)) in (
      take count text ++ 10 ∷ [],
      inr (count, some, within, refl),
      record {
        taken = take count text;
        appended = subst (Appends a b) first p;
        whole = ap (λ o. take count text ++ pending o) (some_count count some) ∙ sym (ap (λ o. pending o ++ (take count text ++ 10 ∷ [])) w);
      },
    )

-- no byte of a line, if no newline was pending; none is pending afterwards
none_at : (a b : Option (List ℕ)) (was : Bool) → was ≡ false → Appends a b [] → LinesWritten a b was false []
none_at a b was w p = record { taken = []; appended = p; whole = ap (λ o. pending o ++ []) (sym w) }

pub none_written : (a b : Option (List ℕ)) (line : List ℕ) (count : ℕ) (was : Bool) → was ≡ false → count ≡ 0 → Appends a b (take count line)
    → LinesWritten a b was (nat_lt 0 count) []
none_written a b line count was w none p =
    subst (λ k. LinesWritten a b was (nat_lt 0 k) []) (sym none) (none_at a b was w (subst (λ k. Appends a b (take k line)) none p))

-- the line of a batch with items
pub line_of : {R : Type 0} (form : BatchForm R) (of : Parts) (batch : List R) (text : List ℕ) → false ≡ nat_eq (length batch) 0 → IsTextOf text (batch_value form of batch) → IsLineOf form of batch (text ++ 10 ∷ [])
line_of form of [] text h is = absurd (true≢false (sym h))
line_of form of (r ∷ more) text h is = (text, is, refl)

-- the consequence of facts that hold after success or after an error
pub map_ok : {X E : Type 0} (P Q : Type 0) (r : Result X E) → (P → Q) → OnOk r P → OnOk r Q
map_ok P Q (Ok x) f p = f p
map_ok P Q (Err e) f p = tt

pub map_err : {X E : Type 0} (P Q : Type 0) (r : Result X E) → (P → Q) → OnErr r P → OnErr r Q
map_err P Q (Ok x) f p = tt
map_err P Q (Err e) f p = f p
