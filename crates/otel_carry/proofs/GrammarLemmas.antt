-- A line that requests an event has no fault.
use Rattle.std.proofs.Common.{◌≡◌, ℕ, zero, suc, ◌<◌, true, false, List, [], ◌∷◌, ◌++◌, length, take, get_or, drop, is_some, Option, Some, None, refl, sym, ap, subst, ◌∙◌, arith, inl, inr, codes, IfSome, IsSome, eqb-true}
use Rattle.std.specs.Prelude.{◌==◌}
use Rattle.std.specs.List.{list_any, slice_get}
use Rattle.std.proofs.lemmas.Bool.{cases_Bool}
use Rattle.std.proofs.lemmas.List.{append_cancel_left, length-append}
use Rattle.std.proofs.lemmas.List.Folds.{list_any_none}
use Rattle.std.proofs.lemmas.Option.{slice_get_within, slice_get-get_or}
use Rattle.otel_ids.proofs.shared.Readings.{no_fault_from_reads}
use Rattle.otel_ids.specs.Reading.{fault_of, Reads as ReadsState}
use Rattle.otel_ids.specs.TraceState.{Pair}
use Rattle.otel_base.proofs.shared.Searches.{before_none, before_at}
use Rattle.opentelemetry.specs.declared.carry.event.StackEvent.{StackEvent}
use Rattle.opentelemetry.specs.declared.carry.event.StackEvent.TheVariants.{Attach, Detach}
use Rattle.opentelemetry.specs.Run.{attaches_of}
use Rattle.otel_carry.specs.declared.lines.Fault.{Fault}
use Rattle.otel_carry.specs.declared.lines.Fault.TheVariants.{UnknownCommand, BadName, BadTraceState, BadNumber}
use Rattle.otel_carry.specs.Lines.{IsName, IsNumber, first_word}
use Rattle.otel_carry.specs.Events.{AskFor, AsksFor, IsAttachLine, IsFaulty, IsFirstFaulty, asking, is_asking}

-- the text after `attach` and its space, for a line that attaches
abbrev rest_of : List ℕ → Option (List ℕ) → List ℕ
rest_of name None = name
rest_of name (Some state) = name ++ (32 ∷ state)

no_space : (name : List ℕ) → IsName name → list_any (λ byte. byte == 32) name ≡ false
no_space name h = list_any_none (λ byte. byte == 32) name (λ k d l. elim (cases_Bool (get_or name k d == 32)) [
  | inl t ↦ let e : get_or name k d ≡ 32 = eqb-true (get_or name k d) 32 t in absurd (omega (arith, e, (h.1 k d l).0))
  | inr f ↦ f
])

-- the name is the first word
name_first : (name : List ℕ) (state : Option (List ℕ)) → IsName name → first_word (rest_of name state) ≡ name
name_first name None h = before_none (λ byte. byte == 32) name (no_space name h)
name_first name (Some state) h = before_at (λ byte. byte == 32) name 32 state (no_space name h) refl

-- the words of a line that attaches
record Attached (line : List ℕ) (state : Option (List Pair)) : Type 0 where
  name : List ℕ
  given : Option (List ℕ)
  is_name : IsName name
  spelled : line ≡ codes "attach " ++ rest_of name given
  read : (text : List ℕ) → given ≡ Some text → (pairs : List Pair) × ReadsState text pairs

same_text : (a b : List ℕ) → ◌≡◌ {A = Option (List ℕ)} (Some a) (Some b) → a ≡ b
same_text a b e = cc

attached : (line name : List ℕ) (state : Option (List Pair)) → IsAttachLine line name state → Attached line state
attached line name None h = record { name = name; given = None; is_name = h.0; spelled = h.1; read = λ text e. absurd (cc) }
attached line name (Some pairs) h = record {
  name = name;
  given = Some h.1.0;
  is_name = h.0;
  spelled = h.1.1;
  read = λ text e. (pairs, subst (λ t. ReadsState t pairs) (same_text h.1.0 text e) h.1.2);
}

-- no line has both words
two_words : (line a b : List ℕ) → line ≡ codes "attach " ++ a → line ≡ codes "detach " ++ b → ⊥
two_words line a b x y = let first : 97 ≡ 100 = ap (λ l. get_or l 0 0) (sym x ∙ y) in absurd (omega (arith, first))

no_fault : (text : List ℕ) → fault_of text ≡ None → IsSome (fault_of text) → ⊥
no_fault text none some = absurd (let h : false ≡ true = ap is_some (sym none) ∙ some in cc)

-- a trace state can't be both read and faulty
given_state : (name other text : List ℕ) (given : Option (List ℕ)) → name ≡ other → rest_of name given ≡ rest_of other (Some text)
    → ((t : List ℕ) → given ≡ Some t → (pairs : List Pair) × ReadsState t pairs) → IsSome (fault_of text) → ⊥
given_state name other text None names same read some =
    absurd (omega (arith, ap length same, ap length names, length-append other (32 ∷ text)))
given_state name other text (Some state) names same read some =
    let tails : 32 ∷ state ≡ 32 ∷ text = append_cancel_left other (32 ∷ state) (32 ∷ text) (ap (λ n. n ++ 32 ∷ state) (sym names) ∙ same) in
    let states : text ≡ state = ap (drop 1) (sym tails) in
    let r = read state refl in
    no_fault text (ap fault_of states ∙ no_fault_from_reads state r.0 r.1) some

attach_apart : (line : List ℕ) (state : Option (List Pair)) → Attached line state → (fault : Fault) → IsFaulty line fault → ⊥
attach_apart line state a UnknownCommand f = (f (rest_of a.name a.given)).0 a.spelled
attach_apart line state a BadName f =
    let same : rest_of a.name a.given ≡ f.0 = append_cancel_left (codes "attach ") _ _ (sym a.spelled ∙ f.1) in
    f.2 (subst IsName (sym (name_first a.name a.given a.is_name) ∙ ap first_word same) a.is_name)
attach_apart line state a BadTraceState f =
    let same : rest_of a.name a.given ≡ rest_of f.0 (Some f.1) = append_cancel_left (codes "attach ") _ _ (sym a.spelled ∙ f.3) in
    let names : a.name ≡ f.0 = sym (name_first a.name a.given a.is_name) ∙ ap first_word same ∙ name_first f.0 (Some f.1) f.2 in
    given_state a.name f.0 f.1 a.given names same a.read f.4
attach_apart line state a BadNumber f = two_words line (rest_of a.name a.given) f.0 a.spelled f.1

detach_apart : (line digits : List ℕ) (number : ℕ) → line ≡ codes "detach " ++ digits → IsNumber digits number → (fault : Fault) → IsFaulty line fault → ⊥
detach_apart line digits number spelled is UnknownCommand f = (f digits).1 spelled
detach_apart line digits number spelled is BadName f = two_words line f.0 digits f.1 spelled
detach_apart line digits number spelled is BadTraceState f = two_words line (rest_of f.0 (Some f.1)) digits f.3 spelled
detach_apart line digits number spelled is BadNumber f =
    f.2 number (subst (λ t. IsNumber t number) (append_cancel_left (codes "detach ") digits f.0 (sym spelled ∙ f.1)) is)

asked_apart : (attaches : ℕ) (line : List ℕ) (event : StackEvent) (fault : Fault) → AsksFor attaches line event → IsFaulty line fault → ⊥
asked_apart attaches line (Attach context) fault a f = attach_apart line a.1 (attached line a.0 a.1 a.2) fault f
asked_apart attaches line (Detach number) fault a f = detach_apart line a.0 number a.1 a.2 fault f

-- a line that isn't empty is one of the requesting lines
asked_at : (lines : List (List ℕ)) (n : ℕ) (line : List ℕ) → slice_get lines n ≡ Some line → is_asking line ≡ true → (index : ℕ) × (slice_get (asking lines) index ≡ Some line)
asked_at [] n line at asks = absurd (cc)
asked_at (l ∷ ls) zero line at asks =
    let same : l ≡ line = cc in
    (0, rw (ap is_asking same ∙ asks) at)
asked_at (l ∷ ls) (suc n) line at asks =
    let later = asked_at ls n line at asks in
    elim (cases_Bool (is_asking l)) [
      | inl t ↦ (suc later.0, rw t later.1)
      | inr f ↦ (later.0, rw f later.1)
    ]

-- lines that request events have no faulty one among them
pub never_both : (lines : List (List ℕ)) (events : List StackEvent) (number : ℕ) (fault : Fault) → AskFor lines events → IsFirstFaulty lines number fault → ⊥
never_both lines events number fault a f =
    let p = asked_at lines f.before f.line f.at f.asks in
    let within : p.0 < length events = omega (arith, slice_get_within (asking lines) p.0 f.line p.1, a.one_each) in
    let there : slice_get events p.0 ≡ Some (get_or events p.0 (Detach 0)) = slice_get-get_or events p.0 (Detach 0) within in
    let asks : AsksFor (attaches_of (take p.0 events)) f.line (get_or events p.0 (Detach 0)) = subst (λ o. IfSome o (AsksFor (attaches_of (take p.0 events)) f.line)) there (a.each p.0 f.line p.1) in
    asked_apart (attaches_of (take p.0 events)) f.line (get_or events p.0 (Detach 0)) fault asks f.faulty
