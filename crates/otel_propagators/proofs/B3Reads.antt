-- Ids in the headers of B3, and a text that is cut at its dashes.
use Rattle.std.proofs.Common.{◌≡◌, ℕ, suc, ◌*◌, ◌^◌, ◌<◌, ◌≤◌, Bool, true, ◌&&◌, List, [], ◌∷◌, length, refl, sym, ap, subst, ◌∙◌, arith, pow-suc, inl, Option, Some, None, Result, Ok, option_copied}
use Rattle.std.specs.Prelude.{◌==◌, is_some}
use Rattle.std.specs.Char.{digit_value, is_ascii_hexdigit}
use Rattle.std.specs.List.{list_all, before_first, after_first, position_or_len}
use Rattle.std.specs.Option.{option_and_then, option_map_or}
use Rattle.std.specs.Result.{result_ok}
use Rattle.std.specs.Str.Parse.{AllDigits}
use Rattle.std.proofs.Math.Nat.{mul-le-mul_right}
use Rattle.std.proofs.lemmas.Bool.{and_parts, eqb-true, false≢true}
use Rattle.std.proofs.lemmas.Bool.Decides.{nat_tests}
use Rattle.std.proofs.lemmas.List.Splits.{length-slice_split, slice_split_first, slice_split_none}
use denote.Ref.{Bor}
use Rattle.otel_base.proofs.shared.Searches.{list_any_none, none_All}
use Rattle.otel_ids.specs.Ids.{ReadsId, number_of}
use Rattle.opentelemetry.specs.Carrier.{TextMap, at}
use Rattle.otel_propagators.specs.B3.{B3Span, dashed, flags_key, id_in, multi_in, multi_state, sampled_key, span_id_in, span_id_key, span_of, state_after_ids, trace_id_in, trace_id_key}
use Rattle.otel_propagators.specs.declared.b3.sampling.Sampling.{Sampling}

-- ---- the number of digits of either case

digit_below : (c : ℕ) → is_ascii_hexdigit c ≡ true → digit_value c < 16
digit_below c h = grind (arith, nat_tests)

digits_from : (cs : List ℕ) → list_all is_ascii_hexdigit cs ≡ true → AllDigits 16 cs
digits_from [] h = tt
digits_from (c ∷ cs) h = let p = and_parts (is_ascii_hexdigit c) (list_all is_ascii_hexdigit cs) h in (digit_below c p.0, digits_from cs p.1)

digits_below : (cs : List ℕ) → AllDigits 16 cs → number_of cs < 16 ^ length cs
digits_below [] h = omega arith
digits_below (c ∷ cs) h =
    let m : digit_value c * 16 ^ length cs ≤ 15 * 16 ^ length cs = mul-le-mul_right (16 ^ length cs) (omega (arith, h.0)) in
    let w : 16 ^ suc (length cs) ≡ 16 * 16 ^ length cs = pow-suc 16 (length cs) ∙ omega arith in
    omega (arith, digits_below cs h.1, m, w)

reads_digits : (bits count : ℕ) (text : List ℕ) → 0 < count → 16 ^ count ≤ 2 ^ bits → (length text == count && list_all is_ascii_hexdigit text) ≡ true → ReadsId bits text (number_of text)
reads_digits bits count text some fits h =
    let p = and_parts (length text == count) (list_all is_ascii_hexdigit text) h in
    let e : length text ≡ count = eqb-true (length text) count p.0 in
    let d = digits_from text p.1 in
    let below : number_of text < 16 ^ count = subst (λ (k : ℕ). number_of text < 16 ^ k) e (digits_below text d) in
    record {
      digits = text;
      spelled = inl refl;
      some = omega (arith, e);
      hex = d;
      is = refl;
      fits = omega (arith, below);
    }

pub id_from : {E : Type 0} (bits count : ℕ) (text : List ℕ) (r : Result ℕ E) (o : Option ℕ) → 0 < count → 16 ^ count ≤ 2 ^ bits → (length text == count && list_all is_ascii_hexdigit text) ≡ true
    → ((id : ℕ) → ReadsId bits text id → r ≡ Ok id) → o ≡ result_ok r → o ≡ id_in count text
id_from {E = E} bits count text r o some fits h returned is =
    rw h (is ∙ ap (λ (x : Result ℕ E). result_ok x) (returned (number_of text) (reads_digits bits count text some fits h)))

-- ---- a text that is cut at its first dash

abbrev is_dash : ℕ → Bool
is_dash b = b == 45

pub cut_some : (text first rest : List ℕ) → (first ≡ before_first is_dash text) × (rest ≡ after_first is_dash text) × (position_or_len is_dash text < length text) → dashed text ≡ first ∷ dashed rest
cut_some text first rest h =
    slice_split_first is_dash text 0 h.2 ∙ ap (λ (x : List ℕ). x ∷ dashed (after_first is_dash text)) (sym h.0) ∙ ap (λ (x : List ℕ). first ∷ dashed x) (sym h.1)

pub cut_none : (text : List ℕ) → position_or_len is_dash text ≡ length text → dashed text ≡ text ∷ []
cut_none text h = slice_split_none is_dash text (none_All is_dash text (list_any_none is_dash text h))

-- ---- more than four parts

many : (s p : List ℕ) (others : List (List ℕ)) → 0 < length others → state_after_ids (s ∷ p ∷ others) ≡ None
many s p [] h = absurd (omega arith)
many s p (x ∷ xs) h = refl

some_part : (text : List ℕ) → 0 < length (dashed text)
some_part text = omega (arith, length-slice_split is_dash text)

pub fifth_part : (s p : List ℕ) (o : Option (Bor (List ℕ))) (b : Bool) → b ≡ is_some o → b ≡ true → state_after_ids (s ∷ p ∷ option_map_or dashed (option_copied o) []) ≡ None
fifth_part s p None b is t = absurd (false≢true (sym is ∙ t))
fifth_part s p (Some x) b is t = many s p (dashed x.now) (some_part x.now)

-- ---- the multiple headers

pub multi_from : (m : TextMap) (r : Option B3Span) (t s : Option ℕ) (state : Sampling) (ot os of od : Option (List ℕ)) → r ≡ span_of t s (Some state)
    → t ≡ option_and_then trace_id_in ot → s ≡ option_and_then span_id_in os → state ≡ multi_state of od
    → ot ≡ at m trace_id_key → os ≡ at m span_id_key → of ≡ at m flags_key → od ≡ at m sampled_key → r ≡ multi_in m
multi_from m r t s state ot os of od is a b c ma mb mc md =
    is
    ∙ ap (λ (o : Option ℕ). span_of o s (Some state)) (a ∙ ap (option_and_then trace_id_in) ma)
    ∙ ap (λ (o : Option ℕ). span_of (option_and_then trace_id_in (at m trace_id_key)) o (Some state)) (b ∙ ap (option_and_then span_id_in) mb)
    ∙ ap (λ (x : Sampling). span_of (option_and_then trace_id_in (at m trace_id_key)) (option_and_then span_id_in (at m span_id_key)) (Some x))
    (c ∙ ap (λ (o : Option (List ℕ)). multi_state o od) mc ∙ ap (multi_state (at m flags_key)) md)
