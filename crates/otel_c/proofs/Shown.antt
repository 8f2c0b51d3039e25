-- The parts of the effect of a call on a context make up the whole.
use Rattle.std.proofs.Common.{◌≡◌, ◌∙◌, ◌++◌, ℕ, List, length, drop, Option, Some, Result, Ok, Err}
use Rattle.std.proofs.Common.{OnOk, IfErr, sym, subst, inr}
use Rattle.otel_context.specs.Context.{ContextRecord}
use Rattle.otel_c.specs.declared.object.Object.{Object}
use Rattle.otel_c.specs.declared.status.Status.{Status}
use Rattle.otel_c.specs.Object.{context_of}
use Rattle.otel_c.specs.Room.{Holds, IsLong, HoldsFound, FoundRefused}
use Rattle.otel_c.specs.Baggage.{Shows, ShowRefused, NamedRefused}
use Rattle.otel_c.specs.Context.{Copies}
use Rattle.otel_c.specs.Span.{ShowsState, ShowStateRefused, state_header}
use Rattle.otel_c.specs.Stack.{Pushes, Attaches, GivesCurrent, HasCurrent}
use Rattle.otel_c.specs.Status.{HasNoRoom}

module _ {A : Type 0} (object : Option Object) (context : ContextRecord)
    (from : context_of object ≡ Some context) where
  pub copies : (r : Result A Status) (new : Option Object)
      → OnOk r (context_of new ≡ Some context) → OnOk r (Copies object new)
  copies (Ok v) new into = record { context = context; from = from; into = into }
  copies (Err s) new h = h

  -- ---- a text that is found

  pub shows : (r : Result A Status) (look : ContextRecord → Option (List ℕ))
      (found : Option (List ℕ)) (old new : List ℕ) (written : ℕ) → found ≡ look context
      → OnOk r (HoldsFound found old new written) → OnOk r (Shows look object old new written)
  shows (Ok v) look found old new written same h = record {
    context = context;
    from = from;
    found = record { text = h.text; is = sym same ∙ h.is; holds = h.holds };
  }
  shows (Err s) look found old new written same h = h

  pub shows_none : (r : Result A Status) (look : ContextRecord → Option (List ℕ))
      (found : Option (List ℕ)) (old : List ℕ) (written : ℕ) → found ≡ look context
      → IfErr r (λ s. FoundRefused found old written s)
      → IfErr r (λ s. ShowRefused look object old written s)
  shows_none (Ok v) look found old written same h = h
  shows_none (Err s) look found old written same h = inr (record {
    context = context;
    from = from;
    why = subst (λ (f : Option (List ℕ)). FoundRefused f old written s) same h;
  })

  pub named_none : (r : Result A Status) (look : ContextRecord → Option (List ℕ))
      (key : List ℕ) (found : Option (List ℕ)) (old : List ℕ) (written : ℕ) → found ≡ look context
      → IfErr r (λ s. FoundRefused found old written s)
      → IfErr r (λ s. NamedRefused look key object old written s)
  named_none (Ok v) look key found old written same h = h
  named_none (Err s) look key found old written same h =
      inr (shows_none (Err s) look found old written same h)

  -- ---- the header of a trace state

  pub shows_state : (r : Result A Status) (text old new : List ℕ) (written : ℕ)
      → text ≡ state_header context → written ≡ length text
      → OnOk r (new ≡ text ++ drop (length text) old) → OnOk r (ShowsState object old new written)
  shows_state (Ok v) text old new written same needed h = record {
    context = context;
    from = from;
    holds = subst (λ (t : List ℕ). Holds t old new written) same
        (record { room = h; length = needed });
  }
  shows_state (Err s) text old new written same needed h = h

  pub state_long : (r : Result A Status) (text old : List ℕ) (written : ℕ)
      → text ≡ state_header context → written ≡ length text
      → IfErr r (λ s. HasNoRoom text old s) → IfErr r (λ s. ShowStateRefused object old written s)
  state_long (Ok v) text old written same needed h = h
  state_long (Err s) text old written same needed h = inr (record {
    context = context;
    from = from;
    long = subst (λ (t : List ℕ). IsLong t old written s) same
        (record { short = h; length = needed });
  })

  -- ---- stacks

  pub attaches : (r : Result A Status) (old new : Option Object) (position : ℕ)
      → OnOk r (Pushes context old new position) → OnOk r (Attaches object old new position)
  attaches (Ok v) old new position h = record { context = context; from = from; pushes = h }
  attaches (Err s) old new position h = h

pub has_current : {A : Type 0} (r : Result A Status) (object new : Option Object)
    (context : ContextRecord) → GivesCurrent object context
    → OnOk r (context_of new ≡ Some context) → OnOk r (HasCurrent object new)
has_current (Ok v) object new context given into =
    record { context = context; given = given; into = into }
has_current (Err s) object new context given h = h
