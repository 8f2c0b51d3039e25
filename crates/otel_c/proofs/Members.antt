-- The parts of the effect of a call on a member of a baggage make up the whole.
use Rattle.std.proofs.Common.{◌≡◌, ◌∙◌, ℕ, Bool, true, false, List, [], Option, Some, Result}
use Rattle.std.proofs.Common.{Ok, Err}
use Rattle.std.proofs.Common.{◌⊎◌, IfOk, IfErr, OnOk, refl, sym, ap, subst, inl, inr}
use Rattle.std.specs.Borrow.{Bor}
use Rattle.std.specs.Prelude.{option_map}
use Rattle.std.specs.Option.{option_map_or}
use Rattle.std.proofs.lemmas.Bool.{cond-true, cond-false}
use Rattle.http_header.specs.FieldValue.{is_visible_text}
use Rattle.otel_context.specs.Baggage.{accepts, put, insert}
use Rattle.otel_context.specs.BaggageMember.{Member}
use Rattle.otel_context.specs.Context.{ContextRecord, with_baggage}
use Rattle.otel_propagators.specs.BaggagePropagator.{members}
use Rattle.otel_c.specs.declared.object.Object.{Object}
use Rattle.otel_c.specs.declared.status.Status.{Status}
use Rattle.otel_c.specs.declared.status.Status.TheVariants as status
use Rattle.otel_c.specs.Object.{context_of}
use Rattle.otel_c.specs.Member.{SetsMember, GivesFrom, Makes, may_be_key, reason, PutRefused}
use Rattle.otel_c.specs.Member.{IsNoKey, IsTooMuch}
use Rattle.otel_c.specs.Member.{SetRefused, given_member}

pub refused_by : (m : Member) (held : List Member) (s : Status) → s ≡ reason m.key
    → accepts held m ≡ false → PutRefused m held s
refused_by m held s is refused = inr (by (may_be_key m.key) refl)
  where
    by : (b : Bool) → may_be_key m.key ≡ b → IsNoKey m.key s ⊎ IsTooMuch m held s
    by true e = inr (record {
      status = is ∙ cond-true (may_be_key m.key) status.Refused status.Key e;
      key = e;
      is = refused;
    })
    by false e = inl (record {
      status = is ∙ cond-false (may_be_key m.key) status.Refused status.Key e;
      is = e;
    })

pub copied_members : {E : Type 0} (r : Result (List Member) E) (context : ContextRecord)
    (held : Option (Bor (List Member))) (found : Bor (List Member))
    → option_map (λ b. b.now) held ≡ context.baggage → held ≡ Some found
    → IfOk r (λ b. b ≡ found.now) → IfOk r (λ b. b ≡ members context)
copied_members (Ok b) context held found is some same =
    same ∙ ap (λ (o : Option (List Member)). option_map_or (λ ms. ms) o [])
    (ap (option_map (λ (b : Bor (List Member)). b.now)) (sym some) ∙ is)
copied_members (Err e) context held found is some same = same

pub sets_member : (before made : ContextRecord) (held new : List Member) (m : Member)
    → is_visible_text m.metadata ≡ true → held ≡ members before → accepts (members before) m ≡ true → new ≡ insert held m
    → made ≡ with_baggage before new → SetsMember m before made
sets_member before made held new m sendable same taken puts is = record {
  sendable = sendable;
  accepted = taken;
  is = is ∙ ap (with_baggage before) (puts ∙ ap (λ ms. insert ms m) same
      ∙ cond-true (accepts (members before) m) (put (members before) m) (members before) taken);
}

pub makes : {A : Type 0} (r : Result A Status) (Made : ContextRecord → ContextRecord → Type 0)
    (object new : Option Object) (context : ContextRecord) → GivesFrom Made object context
    → OnOk r (context_of new ≡ Some context) → OnOk r (Makes Made object new)
makes (Ok v) Made object new context given into =
    record { context = context; given = given; into = into }
makes (Err s) Made object new context given h = h

module _ (object : Option Object) (context : ContextRecord)
    (from : context_of object ≡ Some context) where
  pub sets : (r : Result ContextRecord Status) (key value metadata k v d : List ℕ)
      → k ≡ key → v ≡ value → d ≡ metadata
      → IfOk r (SetsMember (given_member k v d) context)
      → IfOk r (GivesFrom (SetsMember (given_member key value metadata)) object)
  sets (Ok c) key value metadata k v d ek ev ed h = record {
    context = context;
    from = from;
    is = subst (λ (m : Member). SetsMember m context c)
        (λ i. given_member (ek i) (ev i) (ed i)) h;
  }
  sets (Err s) key value metadata k v d ek ev ed h = h

  pub set_refused : (r : Result ContextRecord Status) (key value metadata k v d : List ℕ)
      → k ≡ key → v ≡ value → d ≡ metadata
      → IfErr r (PutRefused (given_member k v d) (members context))
      → IfErr r (SetRefused key value metadata object)
  set_refused (Ok c) key value metadata k v d ek ev ed h = h
  set_refused (Err s) key value metadata k v d ek ev ed h = inr (inr (record {
    context = context;
    from = from;
    why = subst (λ (m : Member). PutRefused m (members context) s)
        (λ i. given_member (ek i) (ev i) (ed i)) h;
  }))
