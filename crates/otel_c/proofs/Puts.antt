-- Members that are put in turn, and the parts of the call that does so.
use Rattle.std.proofs.Common.{◌≡◌, ◌∙◌, ◌+◌, ◌<◌, ◌++◌, ℕ, List, [], ◌∷◌, map, take, get_or, length}
use Rattle.std.proofs.Common.{Option, Some, Result, Ok, Err, IfOk, IfErr, sym, ap, subst, inr}
use Rattle.std.proofs.lemmas.Grind.{take_at_read}
use Rattle.std.proofs.lemmas.List.{map-append}
use Rattle.otel_context.specs.Baggage.{accepts, put}
use Rattle.otel_context.specs.BaggageMember.{Member}
use Rattle.otel_context.specs.Context.{ContextRecord}
use Rattle.otel_propagators.specs.BaggagePropagator.{members}
use Rattle.otel_c.specs.declared.many.MemberTexts.{MemberTexts}
use Rattle.otel_c.specs.declared.object.Object.{Object}
use Rattle.otel_c.specs.declared.status.Status.{Status}
use Rattle.otel_c.specs.Object.{context_of}
use Rattle.otel_c.specs.Member.{GivesFrom}
use Rattle.otel_c.specs.Many.{given_of, Puts, PutsAll, SetsAll, PutAllRefused, SetAllRefused}

puts_more : (held ms mid new : List Member) (m : Member) → PutsAll held ms mid → Puts m mid new
    → PutsAll held (ms ++ m ∷ []) new
puts_more held [] mid new m e p = (
  p.sendable,
  ap (λ (h : List Member). accepts h m) (sym e) ∙ p.accepted,
  p.is ∙ ap (λ (h : List Member). put h m) e,
)
puts_more held (x ∷ xs) mid new m h p =
    (h.0, h.1, puts_more (put held x) xs mid new m h.2 p)

pub puts_next : (held mid new : List Member) (given : List MemberTexts) (i : ℕ) (d : MemberTexts)
    → i < length given → PutsAll held (map given_of (take i given)) mid
    → Puts (given_of (get_or given i d)) mid new
    → PutsAll held (map given_of (take (i + 1) given)) new
puts_next held mid new given i d below h p =
    let last = get_or given i d ∷ [] in
    let more = ap (map given_of) (take_at_read given i d below).1
    ∙ map-append given_of (take i given) last in
    subst (λ (ms : List Member). PutsAll held ms new) (sym more) (puts_more held _ mid new _ h p)

module _ (object : Option Object) (context : ContextRecord)
    (from : context_of object ≡ Some context) where
  pub gives_all : (r : Result ContextRecord Status) (ms : List Member)
      → IfOk r (SetsAll ms context) → IfOk r (GivesFrom (SetsAll ms) object)
  gives_all (Ok c) ms h = record { context = context; from = from; is = h }
  gives_all (Err s) ms h = h

  pub gives_none : (r : Result ContextRecord Status) (given : List MemberTexts) (at : ℕ)
      → IfErr r (PutAllRefused (members context) given at)
      → IfErr r (SetAllRefused given object at)
  gives_none (Ok c) given at h = h
  gives_none (Err s) given at h = inr (record { context = context; from = from; why = h })
