-- A member that is put behind those of a baggage.
use Rattle.std.proofs.Common.{◌≡◌, ℕ, ◌+◌, ◌<◌, ◌≤◌, true, false, List, [], ◌∷◌, ◌++◌, map, length, refl, ap, ◌∙◌, arith}
use Rattle.std.specs.Prelude.{◌&&◌, ◌||◌, nat_le, nat_lt, if◌then◌else◌}
use Rattle.std.specs.List.{list_any}
use Rattle.std.specs.Str.{bytes_eq}
use Rattle.std.proofs.lemmas.Bool.{and_from, or_from, or_right, cond-true, cond-false, le-leb, lt-ltb}
use Rattle.std.proofs.lemmas.List.Sums.{sum_by-append, sum_by-cons}
use Rattle.std.proofs.lemmas.Map.Keys.{IsDistinct-head, IsDistinct-tail}
use Rattle.otel_base.proofs.shared.Bytes.{turned}
use Rattle.otel_context.specs.BaggageText.{is_key}
use Rattle.otel_context.specs.BaggageMember.{Member, has_key, weight_of}
use Rattle.otel_context.specs.Baggage.{max_key_value_pairs, max_len_of_all_pairs, weight, put, accepts, insert}
use Rattle.otel_context.proofs.shared.BaggageLists.{AreDistinct, HasNone}

pub weight_more : (ms ys : List Member) → weight (ms ++ ys) ≡ weight ms + weight ys
weight_more ms ys = sum_by-append weight_of ms ys

pub put_last : (ms : List Member) (m : Member) → list_any (has_key m.key) ms ≡ false → put ms m ≡ ms ++ m ∷ []
put_last ms m h = cond-false (list_any (has_key m.key) ms) (map (λ other. if has_key m.key other then m else other) ms) (ms ++ m ∷ []) h

pub not_among : (k : List ℕ) (xs : List Member) (m : Member) (ys : List Member) → HasNone k (xs ++ m ∷ ys) → bytes_eq k m.key ≡ false
not_among k [] m ys h = h.0
not_among k (x ∷ xs) m ys h = not_among k xs m ys h.1

pub is_new : (xs : List Member) (m : Member) (ys : List Member) → AreDistinct (xs ++ m ∷ ys) → list_any (has_key m.key) xs ≡ false
is_new [] m ys d = refl
is_new (x ∷ xs) m ys d =
    or_from (has_key m.key x) (list_any (has_key m.key) xs)
    (turned x.key m.key (not_among x.key xs m ys (IsDistinct-head bytes_eq x.key (map (λ o. o.key) (xs ++ m ∷ ys)) d)))
    (is_new xs m ys (IsDistinct-tail bytes_eq x.key (map (λ o. o.key) (xs ++ m ∷ ys)) d))

pub inserted : (ms : List Member) (m : Member) → list_any (has_key m.key) ms ≡ false → is_key m.key ≡ true → length ms < max_key_value_pairs → weight ms + weight_of m ≤ max_len_of_all_pairs → insert ms m ≡ ms ++ m ∷ []
inserted ms m new key few light =
    let p = put_last ms m new in
    let w = weight_more ms (m ∷ []) in
    let one = sum_by-cons weight_of m [] in
    let a : accepts ms m ≡ true = and_from (nat_le (weight (put ms m)) max_len_of_all_pairs) (list_any (has_key m.key) ms || (is_key m.key && nat_lt (length ms) max_key_value_pairs))
    (le-leb (weight (put ms m)) max_len_of_all_pairs (omega (arith, ap weight p)))
    (or_right (list_any (has_key m.key) ms) (is_key m.key && nat_lt (length ms) max_key_value_pairs) (and_from (is_key m.key) (nat_lt (length ms) max_key_value_pairs) key (lt-ltb (length ms) max_key_value_pairs few))) in
    cond-true (accepts ms m) (put ms m) ms a ∙ p
