-- Facts on the model of a span table.
use Rattle.std.proofs.Common.{◌≡◌, ℕ, Option, Some, None, Bool, cond, true, false, refl, sym, ap, ◌∙◌, inr}
use Rattle.std.specs.Ordering.{nat_cmp, eq_by_cmp}
use Rattle.std.specs.Cmp.{nat_cmp_total, eq_by_cmp_equiv, unsigned_tied, unsigned_Decides}
use Rattle.std.proofs.lemmas.Cmp.{nat_eq_equiv}
use Rattle.std.specs.FinMap as map
use Rattle.otel_context.specs.Spans.{SpansState, get, insert, take, used_up, cause_of, HasSameSpans}
use Rattle.otel_context.specs.declared.span.spans.SpanCause.TheVariants.{NumbersUsedUp, Memory}
use Rattle.std.specs.Prelude.{◌==◌, if◌then◌else◌, alloc_error}
use Rattle.std.proofs.lemmas.Bool.{false_from_ne_true}

-- numbers that their order doesn't tell apart are equal
pub same_by_cmp : (q k : ℕ) → eq_by_cmp nat_cmp q k ≡ true → q ≡ k
same_by_cmp q k e = (unsigned_Decides q k).0 (sym (unsigned_tied q k) ∙ e)

-- `==` tells numbers apart as their order does
pub flipped : (k q : ℕ) → eq_by_cmp nat_cmp q k ≡ (k == q)
flipped k q = unsigned_tied q k ∙ nat_eq_equiv.symm q k

module _ {S : Type 0} where
  pub get-insert : (t : SpansState S) (s : S) → get (insert t s) t.next_number ≡ Some s
  get-insert t s =
      map.get-insert nat_cmp_total t.spans t.next_number s t.next_number ∙ ap (λ b. cond b (Some s) (map.get t.spans t.next_number)) ((eq_by_cmp_equiv nat_cmp_total).refl t.next_number)

  folded : (b : Bool) (o v : Option S) → (b ≡ true → o ≡ None) → cond b None (cond b v o) ≡ o
  folded true o v h = sym (h refl)
  folded false o v h = refl

  -- taking back a span that was just inserted leaves the same spans
  pub HasSameSpans-take_back : (t : SpansState S) (s : S) → get t t.next_number ≡ None → HasSameSpans t (take (insert t s) t.next_number)
  HasSameSpans-take_back t s absent =
      let m = t.spans in let k = t.next_number in
      record {
        spans = map.same_map nat_cmp_total map.nat_cmp-IsAntisymmetric _ _ (λ q.
            map.get-remove nat_cmp_total (map.insert m k s) k q
            ∙ ap (cond (eq_by_cmp nat_cmp q k) None) (map.get-insert nat_cmp_total m k s q)
            ∙ folded (eq_by_cmp nat_cmp q k) (map.get m q) (Some s) (λ e. ap (map.get m) (same_by_cmp q k e) ∙ absent));
        next_number = inr refl;
      }

  -- if numbers are left, a table refuses a span only if out of memory
  pub cause_of-memory : (t : SpansState S) → (t.next_number ≡ used_up → ⊥) → cause_of t ≡ Memory alloc_error
  cause_of-memory t left = ap (λ b. if b then NumbersUsedUp else Memory alloc_error) (false_from_ne_true (t.next_number == used_up) (λ e. left ((unsigned_Decides t.next_number used_up).0 e)))
