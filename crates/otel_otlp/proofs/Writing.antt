-- Bytes that a writer accepts, some at a time.
use Rattle.std.proofs.Common.{◌≡◌, ℕ, ◌+◌, ◌≤◌, ◌-◌, List, length, take, drop, Option, sym, ap, ◌∙◌, subst, arith}
use Rattle.std.proofs.Math.Seq.{take-add, take-length}
use Rattle.std.proofs.lemmas.List.{length-drop}
use Rattle.std.proofs.KnownBytes.{Appends-trans}
use Rattle.std.specs.Io.KnownBytes.{Appends}

-- the slice from a place to the end is the rest from there
pub rest_whole : (bytes : List ℕ) (count : ℕ) → take (length bytes - count) (drop count bytes) ≡ drop count bytes
rest_whole bytes count = ap (λ k. take k (drop count bytes)) (sym (length-drop count bytes)) ∙ take-length (drop count bytes)

-- a write accepted n more bytes
pub took : (a b c : Option (List ℕ)) (bytes : List ℕ) (count n : ℕ) → count ≤ length bytes → Appends a b (take count bytes)
    → n ≤ length (drop count bytes) → Appends b c (take n (drop count bytes)) → (count + n ≤ length bytes) × Appends a c (take (count + n) bytes)
took a b c bytes count n within before most more =
    let most' : n ≤ length bytes - count = subst (λ k. n ≤ k) (length-drop count bytes) most in
    (omega arith, subst (λ xs. Appends a c xs) (sym (take-add count n bytes)) (Appends-trans a b c (take count bytes) (take n (drop count bytes)) before more))
