-- Copying a baggage, member by member.
use Rattle.std.proofs.Common.{◌≡◌, ◌+◌, ◌<◌, ◌≤◌, false, List, [], ◌∷◌, ◌++◌, length}
use Rattle.std.proofs.Common.{All, sym, ap, subst, ◌∙◌, arith, append_assoc, length-append}
use Rattle.std.specs.List.{list_any}
use Rattle.std.proofs.lemmas.List.{append-nil}
use Rattle.std.proofs.lemmas.List.Elements.{All-head, All-tail}
use Rattle.std.proofs.lemmas.List.Sums.{sum_by-append, sum_by-cons}
use Rattle.otel_context.specs.BaggageMember.{Member, has_key, weight_of, IsValidMember}
use Rattle.otel_context.specs.Baggage.{max_key_value_pairs, max_len_of_all_pairs, weight}
use Rattle.otel_context.specs.Baggage.{insert, IsBaggage}
use Rattle.otel_context.proofs.shared.BaggageAppends.{is_new, inserted}

valid_at : (xs ys : List Member) (m : Member) → All IsValidMember (xs ++ m ∷ ys) → IsValidMember m
valid_at [] ys m good = All-head IsValidMember m ys good
valid_at (x ∷ xs) ys m good =
    valid_at xs ys m (All-tail IsValidMember x (xs ++ m ∷ ys) good)

-- the next member of a baggage is put last in the copy of the members before it
module _ (copy rest : List Member) (m : Member) (held : IsBaggage (copy ++ m ∷ rest)) where
  new : list_any (has_key m.key) copy ≡ false
  new = is_new copy m rest held.distinct

  light : weight copy + weight_of m ≤ max_len_of_all_pairs
  light = omega (
    arith,
    sum_by-append weight_of copy (m ∷ rest),
    sum_by-cons weight_of m rest,
    held.light,
  )

  few : length copy < max_key_value_pairs
  few = omega (arith, length-append copy (m ∷ rest), held.few)

  copied : insert copy m ≡ copy ++ m ∷ []
  copied = inserted copy m new (valid_at copy rest m held.valid).0 few light

-- the copy and the remaining members make up the baggage
pub goes_on : (all copy made left rest : List Member) (m : Member) → IsBaggage all
    → all ≡ copy ++ left → left ≡ m ∷ rest → made ≡ insert copy m → all ≡ made ++ rest
goes_on all copy made left rest m held so_far next is =
    let here : all ≡ copy ++ m ∷ rest = so_far ∙ ap (λ l. copy ++ l) next in
    let copies = is ∙ copied copy rest m (subst IsBaggage here held) in
    here ∙ sym (ap (λ l. l ++ rest) copies ∙ append_assoc copy (m ∷ []) rest)

pub ends : (all copy left : List Member) → all ≡ copy ++ left → left ≡ [] → copy ≡ all
ends all copy left so_far none = sym (so_far ∙ ap (λ l. copy ++ l) none ∙ append-nil copy)
