-- A copy that shares nothing: the parts make up the whole.
use Rattle.std.proofs.Common.{◌≡◌, ◌∙◌, ℕ, List, [], ◌∷◌, Option, Some, Result, Ok, Err, OnOk}
use Rattle.std.proofs.Common.{refl, sym, ap, subst, arith, take}
use Rattle.std.proofs.lemmas.Cmp.{nat_list_eq_equiv}
use Rattle.std.proofs.lemmas.List.{take_all}
use Rattle.otel_ids.specs.TraceState.{Pair, IsState, LacksKey, pair_with, delete, insert}
use Rattle.otel_context.specs.Context.{ContextRecord}
use Rattle.otel_c.specs.declared.object.Object.{Object}
use Rattle.otel_c.specs.declared.status.Status.{Status}
use Rattle.otel_c.specs.Object.{context_of}
use Rattle.otel_c.specs.Detached.{only_these, CopiesApart}

pub copies_apart : {A : Type 0} (r : Result A Status) (object new : Option Object)
    (context made : ContextRecord) → context_of object ≡ Some context → made ≡ only_these context
    → OnOk r (context_of new ≡ Some made) → OnOk r (CopiesApart object new)
copies_apart (Ok v) object new context made from is into =
    record { context = context; from = from; into = into ∙ ap Some is }
copies_apart (Err s) object new context made from is h = h

-- ---- the first pair of a trace state, inserted again

lacking : (key : List ℕ) (ps : List Pair) → LacksKey key ps → delete ps key ≡ ps
lacking key [] h = refl
lacking key (p ∷ ps) h = rw h.0 (ap (λ (x : List Pair). p ∷ x) (lacking key ps h.1))

deleted : (key value : List ℕ) (rest : List Pair) → LacksKey key rest
    → delete (pair_with key value ∷ rest) key ≡ rest
deleted key value rest h = rw (nat_list_eq_equiv.refl key) (lacking key rest h)

first : (key value : List ℕ) (rest : List Pair) → IsState (pair_with key value ∷ rest)
    → insert (pair_with key value ∷ rest) key value ≡ pair_with key value ∷ rest
first key value rest s =
    ap (λ (x : List Pair). pair_with key value ∷ x)
    (ap (λ (x : List Pair). take 31 x) (deleted key value rest s.distinct.0)
    ∙ take_all 31 rest (omega (arith, s.few)))

pub inserted_again : (ps rest : List Pair) (key value : List ℕ) → IsState ps
    → ps ≡ pair_with key value ∷ rest → insert ps key value ≡ ps
inserted_again ps rest key value s is =
    subst (λ (x : List Pair). insert x key value ≡ x) (sym is)
    (first key value rest (subst IsState is s))
