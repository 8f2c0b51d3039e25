-- A baggage made from members inserted in turn isn't empty once one of them is accepted.
use Rattle.std.proofs.Common.{◌≡◌, Bool, true, false, List, [], ◌∷◌, ◌++◌, map, length, sym, ap, ◌∙◌, arith}
use Rattle.std.specs.Prelude.{if◌then◌else◌, fold, Result}
use Rattle.std.specs.Result.{IsOk}
use Rattle.std.specs.List.{list_any}
use Rattle.std.proofs.lemmas.Bool.{cond-true}
use Rattle.std.proofs.lemmas.List.Sums.{fold-append}
use Rattle.otel_context.specs.BaggageMember.{Member, has_key}
use Rattle.otel_context.specs.Baggage.{put, accepts, insert, from_members}

put_some : (ms : List Member) (m : Member) → put ms m ≡ [] → ⊥
put_some [] m e = omega (arith, ap length e)
put_some (o ∷ ms) m e = either (list_any (has_key m.key) (o ∷ ms)) e
  where
    either : (b : Bool) → (if b then map (λ other. if has_key m.key other then m else other) (o ∷ ms) else ((o ∷ ms) ++ m ∷ [])) ≡ [] → ⊥
    either true h = omega (arith, ap length h)
    either false h = omega (arith, ap length h)

insert_some : (ms : List Member) (m : Member) → (ms ≡ [] → ⊥) → insert ms m ≡ [] → ⊥
insert_some ms m some = either (accepts ms m)
  where
    either : (b : Bool) → (if b then put ms m else ms) ≡ [] → ⊥
    either true = put_some ms m
    either false = some

inserts_some : (xs ms : List Member) → (ms ≡ [] → ⊥) → fold insert ms xs ≡ [] → ⊥
inserts_some [] ms some = some
inserts_some (x ∷ xs) ms some = inserts_some xs (insert ms x) (insert_some ms x some)

pub accepted_some : (done rest : List Member) (m : Member) → accepts (from_members done) m ≡ true → from_members (done ++ m ∷ rest) ≡ [] → ⊥
accepted_some done rest m taken none =
    inserts_some rest (insert (from_members done) m)
    (λ e. put_some (from_members done) m (sym (cond-true (accepts (from_members done) m) (put (from_members done) m) (from_members done) taken) ∙ e))
    (sym (fold-append insert [] done (m ∷ rest)) ∙ none)

-- the baggage of the members inserted so far, and the remaining members
pub record InsertedSoFar (all baggage done left : List Member) : Type 0 where
  pub baggage_is : baggage ≡ from_members done
  pub parts : all ≡ done ++ left

-- if all of them give the empty baggage, no insert fails, since a failing one would be accepted
pub none_fails : {A E : Type 0} (r : Result A E) (all baggage done left rest : List Member) (m n : Member)
    → InsertedSoFar all baggage done left → left ≡ n ∷ rest → m ≡ n → accepts baggage m ≡ true → from_members all ≡ [] → IsOk r
none_fails r all baggage done left rest m n h more same taken none =
    absurd (accepted_some done rest n
    (sym (ap (λ b. accepts b n) h.baggage_is) ∙ sym (ap (accepts baggage) same) ∙ taken)
    (sym (ap from_members (h.parts ∙ ap (λ l. done ++ l) more)) ∙ none))
