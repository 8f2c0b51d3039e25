-- At most so many roots are sampled in each second.
use Rattle.std.proofs.Common.{◌≡◌, ◌∙◌, ℕ, ◌+◌, ◌<◌, ◌≤◌, ◌/◌, ◌==◌, max, Bool, true, false, List, [], ◌∷◌, Some, refl, sym, ap, subst, nat_lt, arith, cond}
use Rattle.std.specs.Prelude.{if◌then◌else◌}
use Rattle.std.specs.List.{count_by}
use Rattle.std.proofs.lemmas.List.Sums.{sum_by-cons}
use Rattle.otel_sdk.specs.RateLimit.{NeverFall, RateLimit, admits, after_root, sampled_in, sampled_of, second_at, second_of}

-- how many of these timestamps are in the second
abbrev in_second : ℕ → List ℕ → ℕ
in_second second starts = count_by (λ start. second_of start == second) starts

later_second : (a b : ℕ) → a ≤ b → second_of a ≤ second_of b
later_second a b h = grind arith

not_same : (a b : ℕ) → a < b → (b == a) ≡ false
not_same a b h = grind arith

one_first : (second start : ℕ) (rest : List ℕ)
    → in_second second (start ∷ rest) ≡ cond (second_of start == second) 1 0 + in_second second rest
one_first second start rest = sum_by-cons (λ (x : ℕ). cond (second_of x == second) 1 0) start rest

add_none : (b : Bool) (n : ℕ) → b ≡ false → n ≡ 0 → cond b 1 0 + n ≡ 0
add_none b n e z = grind arith

-- no root that starts later is in an earlier second
none_before : (starts : List ℕ) (limit : RateLimit) (from second : ℕ) → NeverFall from starts → second < second_of from
    → in_second second (sampled_of starts limit) ≡ 0
none_before [] limit from second rises early = refl
none_before (start ∷ later) limit from second rises early =
    let still : second < second_of start = omega (arith, early, later_second from start rises.0) in
    elim (admits (Some start) limit) as (λ b. in_second second
    (if b then start ∷ sampled_of later (after_root (Some start) limit) else sampled_of later limit) ≡ 0) [
      | true ↦ one_first second start (sampled_of later (after_root (Some start) limit))
          ∙ add_none (second_of start == second) (in_second second (sampled_of later (after_root (Some start) limit)))
          (not_same second (second_of start) still)
          (none_before later (after_root (Some start) limit) start second rises.1 still)
      | false ↦ none_before later limit start second rises.1 still
    ]

-- ---- one root more

in_its_second : (start : ℕ) (limit : RateLimit) → limit.second ≤ second_of start
    → second_at (Some start) limit ≡ second_of start
in_its_second start limit h = grind arith

-- the state after a root that is admitted
admitted : (start : ℕ) (limit : RateLimit) → admits (Some start) limit ≡ true → after_root (Some start) limit
    ≡ record limit { second = second_at (Some start) limit; sampled = sampled_in (second_at (Some start) limit) limit + 1 }
admitted start limit e = ap (λ (b : Bool). if b then record limit {
  second = second_at (Some start) limit;
  sampled = sampled_in (second_at (Some start) limit) limit + 1;
} else limit) e

-- what the state is within
record IsWithin (most latest : ℕ) (limit : RateLimit) : Type 0 where
  maximum : limit.maximum ≡ most
  second : limit.second ≤ latest
  sampled : limit.sampled ≤ most

stays_within : (start : ℕ) (limit : RateLimit) → IsWithin limit.maximum (second_of start) limit
    → IsWithin limit.maximum (second_of start) (after_root (Some start) limit)
stays_within start limit within =
    let is_next : second_at (Some start) limit ≡ second_of start = in_its_second start limit within.second in
    elim (admits (Some start) limit) as (λ b. (admits (Some start) limit ≡ b) → IsWithin limit.maximum (second_of start)
    (if b then record limit {
      second = second_at (Some start) limit;
      sampled = sampled_in (second_at (Some start) limit) limit + 1;
    } else limit)) [
      | true ↦ λ e. record { maximum = refl; second = omega (arith, is_next); sampled = grind (arith, e) }
      | false ↦ λ e. within
    ] refl

-- what was sampled in the second, and what is sampled in it later, if the root at the timestamp is sampled
one_more : (second at old used rest maximum : ℕ) (n : RateLimit) → n.second ≡ at → n.sampled ≡ (if at == old then used else 0) + 1
    → sampled_in second n + rest ≤ maximum → old ≤ at → used ≤ maximum → (second < at → rest ≡ 0)
    → (if second == old then used else 0) + (cond (at == second) 1 0 + rest) ≤ maximum
one_more second at old used rest maximum n e1 e2 h1 h2 h3 h4 = grind arith

at_most : (starts : List ℕ) (limit : RateLimit) (from second : ℕ) → NeverFall from starts
    → IsWithin limit.maximum (second_of from) limit
    → sampled_in second limit + in_second second (sampled_of starts limit) ≤ limit.maximum
at_most [] limit from second rises within = grind (arith, within.sampled)
at_most (start ∷ later) limit from second rises within =
    let now : IsWithin limit.maximum (second_of start) limit = record {
      maximum = refl;
      second = omega (arith, within.second, later_second from start rises.0);
      sampled = within.sampled;
    } in
    let next : IsWithin limit.maximum (second_of start) (after_root (Some start) limit) = stays_within start limit now in
    let is_next : second_at (Some start) limit ≡ second_of start = in_its_second start limit now.second in
    elim (admits (Some start) limit) as (λ b. (admits (Some start) limit ≡ b) → sampled_in second limit + in_second second
    (if b then start ∷ sampled_of later (after_root (Some start) limit) else sampled_of later limit) ≤ limit.maximum) [
      | true ↦ λ e. subst (λ (n : ℕ). sampled_in second limit + n ≤ limit.maximum)
          (sym (one_first second start (sampled_of later (after_root (Some start) limit))))
          (one_more second (second_of start) limit.second limit.sampled
          (in_second second (sampled_of later (after_root (Some start) limit))) limit.maximum
          (after_root (Some start) limit)
          (ap (λ (l : RateLimit). l.second) (admitted start limit e) ∙ is_next)
          (ap (λ (l : RateLimit). l.sampled) (admitted start limit e) ∙ ap (λ (at : ℕ). sampled_in at limit + 1) is_next)
          (subst (λ (m : ℕ). sampled_in second (after_root (Some start) limit)
          + in_second second (sampled_of later (after_root (Some start) limit)) ≤ m) next.maximum
          (at_most later (after_root (Some start) limit) start second rises.1 (record {
            maximum = refl;
            second = next.second;
            sampled = subst (λ (m : ℕ). (after_root (Some start) limit).sampled ≤ m) (sym next.maximum) next.sampled;
          })))
          now.second now.sampled
          (λ early. none_before later (after_root (Some start) limit) start second rises.1 early))
      | false ↦ λ e. at_most later limit start second rises.1 now
    ] refl

pub law : (maximum : ℕ) (starts : List ℕ) → NeverFall 0 starts → (second : ℕ) → in_second second (sampled_of starts (record { maximum = maximum; second = 0; sampled = 0 })) ≤ maximum
law maximum starts rises second =
    let limit : RateLimit = record { maximum = maximum; second = 0; sampled = 0 } in
    let all = at_most starts limit 0 second rises (record { maximum = refl; second = omega arith; sampled = omega arith }) in omega (arith, all)
