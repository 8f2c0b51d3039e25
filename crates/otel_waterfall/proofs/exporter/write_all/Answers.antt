use Rattle.std.proofs.Common.{◌≡◌, ℕ, ◌-◌, List, ◌++◌, length, take, drop, sym, ap, ◌∙◌, append_assoc, take-append-drop, subst}
use Rattle.std.specs.Prelude.{Option, Some, None}
use Rattle.std.proofs.lemmas.List.{take_rest}
use Rattle.std.proofs.Math.Seq.{take-append_seam}
use Rattle.std.proofs.KnownBytes.{Appends-trans}
use Rattle.std.specs.Io.KnownBytes.{Appends, Keeps}
use Rattle.otel_waterfall.proofs.exporter.write_all.Goals as goal

-- the bytes that a write takes move from the rest to the done part
moves_front : (all done rest : List ℕ) (n : ℕ) → all ≡ done ++ rest → all ≡ (done ++ take n rest) ++ take (length rest - n) (drop n rest)
moves_front all done rest n e =
    e ∙ ap (λ l. done ++ l) (sym (take-append-drop n rest)) ∙ sym (append_assoc done (take n rest) (drop n rest))
    ∙ ap (λ l. (done ++ take n rest) ++ l) (sym (take_rest rest n))

-- a write that fails changes nothing
Appends-kept : (a b c : Option (List ℕ)) (bs : List ℕ) → Appends a b bs → Keeps b c → Appends a c bs
Appends-kept None b c bs p q = tt
Appends-kept (Some x) None c bs p q = absurd p
Appends-kept (Some x) (Some y) None bs p q = absurd q
Appends-kept (Some x) (Some y) (Some z) bs p q = q ∙ p

-- the bytes that are gone are a part of all
cut_at : (a b : Option (List ℕ)) (all done rest : List ℕ) → all ≡ done ++ rest → Appends a b done → (n : ℕ) × Appends a b (take n all)
cut_at a b all done rest e p = (length done, subst (λ (xs : List ℕ). Appends a b xs) (sym (ap (take (length done)) e ∙ take-append_seam done rest)) p)

pub returns-clause-cut : goal.returns-clause-cut
returns-clause-cut g c =
    let (done, split, appended, unflushed) = c.loop-rest.invariant in
    cut_at _ _ _ done _ split appended

pub returns-in-Err-clause-cut : goal.returns-in-Err-clause-cut
returns-in-Err-clause-cut g c =
    let (done, split, appended, unflushed) = c.loop-rest.invariant in
    cut_at _ _ _ done _ split (Appends-kept _ _ _ done appended (c.in-Err.ensures.none))

pub loop-rest-preserved : goal.loop-rest-preserved
loop-rest-preserved g c =
    let (done, split, appended, unflushed) = c.loop-rest.invariant in
    let rest = c.loop-rest.rest.now in (
      done ++ take c.in-Ok.count rest,
      moves_front _ done rest c.in-Ok.count split,
      Appends-trans _ _ _ _ _ appended c.in-Ok.ensures.some.2,
      λ answers before. c.in-Ok.ensures.unflushed answers (unflushed answers before),
    )

pub returns-clause-unflushed : goal.returns-clause-unflushed
returns-clause-unflushed g c = c.loop-rest.invariant.3

pub returns-in-Err-clause-unflushed : goal.returns-in-Err-clause-unflushed
returns-in-Err-clause-unflushed g c = λ answers before.
    c.in-Err.ensures.unflushed answers (c.loop-rest.invariant.3 answers before)
