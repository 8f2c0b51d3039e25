-- One more line.
use Rattle.std.proofs.Common.{◌≡◌, ℕ, ◌+◌, ◌<◌, true, false, List, [], ◌∷◌, ◌++◌, length, take, get_or, Some, refl, sym, ap, subst, ◌∙◌, arith, inl, inr, append-nil}
use Rattle.std.specs.Prelude.{if◌then◌else◌}
use Rattle.std.specs.List.{slice_get, enumerate_from}
use Rattle.std.proofs.lemmas.List.FromFn.{length-enumerate_from, get_or-enumerate_from}
use Rattle.std.proofs.lemmas.List.{take_more, take-append-le, length-append, take_all}
use Rattle.std.proofs.lemmas.List.Elements.{filter-append}
use Rattle.std.proofs.lemmas.Option.{slice_get-get_or}
use Rattle.std.proofs.Math.Seq.{take-append_seam}
use Rattle.opentelemetry.specs.declared.carry.event.StackEvent.{StackEvent}
use Rattle.opentelemetry.specs.declared.carry.event.StackEvent.TheVariants.{Attach, Detach}
use Rattle.opentelemetry.specs.Run.{attaches_of, is_attach}
use Rattle.otel_base.proofs.shared.Steps.{slice_get-append, slice_get-append_end, last_or_before}
use Rattle.otel_carry.specs.declared.failure.Failure.{Failure}
use Rattle.otel_carry.specs.declared.failure.Failure.TheVariants.{Unreadable, NotUtf8, Line, NoMemory}
use Rattle.otel_carry.specs.Events.{AskFor, AsksFor, IsReported, IsTold, asking, is_asking}

pub asks_nothing : AskFor [] []
asks_nothing = record { one_each = refl; each = λ index line at. absurd (cc) }

asking-skip : (lines : List (List ℕ)) (line : List ℕ) → is_asking line ≡ false → asking (lines ++ line ∷ []) ≡ asking lines
asking-skip lines line h = filter-append is_asking lines (line ∷ []) ∙ rw h (append-nil (asking lines))

asking-more : (lines : List (List ℕ)) (line : List ℕ) → is_asking line ≡ true → asking (lines ++ line ∷ []) ≡ asking lines ++ line ∷ []
asking-more lines line h = filter-append is_asking lines (line ∷ []) ∙ rw h refl

skips : (lines : List (List ℕ)) (line : List ℕ) (events : List StackEvent) → is_asking line ≡ false → AskFor lines events → AskFor (lines ++ line ∷ []) events
skips lines line events h a = record {
  one_each = rw (asking-skip lines line h) a.one_each;
  each = λ index other at. a.each index other (rw (asking-skip lines line h) at at);
}

adds : (lines : List (List ℕ)) (line : List ℕ) (events : List StackEvent) (event : StackEvent) → is_asking line ≡ true → AskFor lines events → AsksFor (attaches_of events) line event
    → AskFor (lines ++ line ∷ []) (events ++ event ∷ [])
adds lines line events event h a one = record {
  one_each = rw (asking-more lines line h, length-append, length-append) (ap (λ n. n + 1) a.one_each);
  each = λ index other at. elim (last_or_before (asking lines) line index other (rw (asking-more lines line h) at at)) [
    | inl w ↦
        let e : slice_get (asking lines) index ≡ Some other = sym (slice_get-append (asking lines) (line ∷ []) index w) ∙ (rw (asking-more lines line h) at at) in
        rw (slice_get-append events (event ∷ []) index (omega (arith, w, a.one_each)), take-append-le index events (event ∷ []) (omega (arith, w, a.one_each))) (a.each index other e)
    | inr w ↦
        rw (w.0, ← a.one_each, slice_get-append_end, take-append_seam) (subst (λ l. AsksFor (attaches_of events) l event) w.1 one)
  ];
}

-- the lines so far, with one more
next_line : (lines : List (List ℕ)) (n k : ℕ) (line : List ℕ) → k ≡ n + 1 → (n < length lines) × (line ≡ get_or lines n line) → take k lines ≡ take n lines ++ line ∷ []
next_line lines n k line more turn = ap (λ m. take m lines) more ∙ take_more lines n line turn.0 ∙ ap (λ l. take n lines ++ l ∷ []) (sym turn.1)

pub passes_by : (lines : List (List ℕ)) (n k : ℕ) (line : List ℕ) (events : List StackEvent) → k ≡ n + 1 → (n < length lines) × (line ≡ get_or lines n line) → is_asking line ≡ false
    → AskFor (take n lines) events → AskFor (take k lines) events
passes_by lines n k line events more turn h a = rw (next_line lines n k line more turn) (skips (take n lines) line events h a)

pub goes_on : (lines : List (List ℕ)) (n k : ℕ) (line : List ℕ) (events : List StackEvent) (event : StackEvent) → k ≡ n + 1 → (n < length lines) × (line ≡ get_or lines n line) → is_asking line ≡ true
    → AskFor (take n lines) events → AsksFor (attaches_of events) line event → AskFor (take k lines) (events ++ event ∷ [])
goes_on lines n k line events event more turn h a one = rw (next_line lines n k line more turn) (adds (take n lines) line events event h a one)

pub ends : (lines : List (List ℕ)) (n : ℕ) (events : List StackEvent) → length lines ≡ n → AskFor (take n lines) events → AskFor lines events
ends lines n events all a = rw (take_all n lines (omega (arith, all))) at a

pub fails : (lines : List (List ℕ)) (n number : ℕ) (line : List ℕ) (events : List StackEvent) (failure : Failure) → number ≡ n + 1 → (n < length lines) × (line ≡ get_or lines n line) → is_asking line ≡ true
    → AskFor (take n lines) events → IsTold number line failure → IsReported lines failure
fails lines n number line events Unreadable is turn h a told = told
fails lines n number line events NotUtf8 is turn h a told = told
fails lines n number line events (Line m fault) is turn h a told = record {
  before = n;
  number_is = told.0 ∙ is;
  line = line;
  at = slice_get-get_or lines n line turn.0 ∙ ap (λ l. Some l) (sym turn.1);
  asks = h;
  faulty = told.1;
  events = events;
  asked = a;
}
fails lines n number line events NoMemory is turn h a told = tt

-- a line that the loop reads is the one at the loop's index
pub line_at : (lines : List (List ℕ)) (n index : ℕ) (line : List ℕ) → (n < length (enumerate_from 0 lines)) × ((index, line) ≡ get_or (enumerate_from 0 lines) n (index, line))
    → (index ≡ n) × ((n < length lines) × (line ≡ get_or lines n line))
line_at lines n index line turn =
    let within : n < length lines = omega (arith, turn.0, length-enumerate_from 0 lines) in
    let there : ◌≡◌ {A = ℕ × List ℕ} (index, line) (0 + n, get_or lines n line) = turn.1 ∙ get_or-enumerate_from 0 lines n (index, line) within in
    (omega (arith, ap (λ (p : ℕ × List ℕ). p.0) there), (within, ap (λ (p : ℕ × List ℕ). p.1) there))

-- the attaches are counted
pub counted : (events : List StackEvent) (event : StackEvent) (before after : ℕ) → before ≡ attaches_of events → after ≡ (if is_attach event then before + 1 else before)
    → after ≡ attaches_of (events ++ event ∷ [])
counted events (Attach context) before after h e = rw (filter-append, length-append) (omega (arith, h, e))
counted events (Detach number) before after h e = rw (filter-append, length-append) (omega (arith, h, e))
