-- The digits that the crate `hex` writes and reads.
use Rattle.std.proofs.Common.{◌≡◌, ℕ, zero, suc, ◌+◌, ◌-◌, ◌*◌, ◌/◌, ◌%◌, ◌^◌, ◌<◌, ◌==◌, true, false, List, [], ◌∷◌, length, drop, get_or, slice_index, Option, Some, None, unwrap_or, Result, Ok, Err, refl, sym, ap, ◌∙◌, arith, inl, pow-suc}
use Rattle.std.specs.Char.{digit_value}
use Rattle.std.specs.Int.{byte_worth, sum_through}
use Rattle.std.specs.List.{flat_map}
use Rattle.std.specs.Str.Parse.{AllDigits}
use Rattle.std.specs.Result.{result_unwrap_or}
use Rattle.std.proofs.lemmas.Bool.{agree_below_at, eqb-true}
use Rattle.std.proofs.lemmas.Nat.{mul-add-lt}
use Rattle.std.proofs.lemmas.List.{drop_all, drop_more, length-drop}
use Rattle.hex.specs.declared.error.FromHexError.{FromHexError}
use Rattle.hex.specs.Hex.{lower_digits, encode_with, encode_lower, decode_pairs, decode_sized, digit_or_error, hex_digit_value, pair_value, value_at, ◌>>=◌}
use Rattle.hex.proofs.Pairs.{decode_sized-pairs}
use Rattle.hex.proofs.HexLemmas.{IsOk-decode_sized}
use Rattle.otel_ids.specs.Ids.{ReadsId, number_of, two_digits}
use Rattle.std.specs.Fmt.{digit_glyph}
use Rattle.otel_ids.proofs.shared.Numerals.{powers}

-- ---- digits that are written

spelled : (d : ℕ) → d < 16 → slice_index lower_digits d ≡ digit_glyph false d
spelled d below = eqb-true (slice_index lower_digits d) (digit_glyph false d) (agree_below_at (λ n. slice_index lower_digits n == digit_glyph false n) (λ n. true) 16 d refl below)

-- two digits for each byte
pub encoded : (bytes : List ℕ) → ((i : ℕ) → get_or bytes i 0 < 256) → encode_lower bytes ≡ flat_map two_digits bytes
unfolding encode_with
encoded [] small = refl
encoded (b ∷ bytes) small =
    let byte : b < 256 = small 0 in
    rw (spelled (b / 16) (omega arith), spelled (b % 16) (omega arith), encoded bytes (λ i. small (suc i))) refl

-- ---- digits that are read

-- the number with these bytes, most significant first
abbrev worth_of : List ℕ → ℕ
worth_of [] = 0
worth_of (b ∷ bytes) = b * 256 ^ length bytes + worth_of bytes

bound : {A B : Type 0} (r : Result A FromHexError) (f : A → Result B FromHexError) (y : B) → (r >>= f) ≡ Ok y → (x : A) × (r ≡ Ok x) × (f x ≡ Ok y)
bound (Ok x) f y h = (x, refl, h)
bound (Err e) f y h = cc h

same_ok : {A : Type 0} (x y : A) (r : Result A FromHexError) → r ≡ Ok x → r ≡ Ok y → x ≡ y
same_ok {A = A} x y r g h = ap (λ (s : Result A FromHexError). result_unwrap_or s x) (sym g ∙ h)

found : (c i : ℕ) (o : Option ℕ) (v : ℕ) → digit_or_error c i o ≡ Ok v → o ≡ Some v
found c i (Some w) v h = ap Some (same_ok w v (Ok w) refl h)
found c i None v h = cc h

low_code : (c v : ℕ) → hex_digit_value c ≡ Some v → c < 103
low_code c v h = grind (arith)

digit_is : (c v : ℕ) → hex_digit_value c ≡ Some v → digit_value c ≡ v
digit_is c v h =
    let same = eqb-true (unwrap_or (hex_digit_value c) (digit_value c)) (digit_value c) (agree_below_at (λ n. unwrap_or (hex_digit_value n) (digit_value n) == digit_value n) (λ n. true) 103 c refl (low_code c v h)) in
    sym (ap (λ o. unwrap_or o (digit_value c)) (sym h) ∙ same)

digit_small : (c v : ℕ) → hex_digit_value c ≡ Some v → v < 16
digit_small c v h = grind (arith)

digit_read : (c i v : ℕ) → value_at c i ≡ Ok v → (digit_value c ≡ v) × (v < 16)
digit_read c i v h = let f = found c i (hex_digit_value c) v h in (digit_is c v f, digit_small c v f)

record AreRead (text bytes : List ℕ) : Type 0 where
  hex : AllDigits 16 text
  twice : length text ≡ 2 * length bytes
  is : number_of text ≡ worth_of bytes
  fits : worth_of bytes < 256 ^ length bytes

joined : (high low byte p q r number worth : ℕ) → high * 16 + low ≡ byte → q ≡ p * 16 → r ≡ p → number ≡ worth → high * q + (low * p + number) ≡ byte * r + worth
joined high low byte p q r number worth e f g h = rw (← e, f, g, h) (grind arith)

pairs_read : (i : ℕ) (text bytes : List ℕ) → decode_pairs i text ≡ Ok bytes → AreRead text bytes
unfolding decode_pairs
pairs_read i [] bytes h =
    let e : [] ≡ bytes = same_ok [] bytes (Ok []) refl h in
    rw (← e) (record { hex = tt; twice = refl; is = refl; fits = omega arith })
pairs_read i (a ∷ []) bytes h = cc h
pairs_read i (a ∷ b ∷ text) bytes h =
    let pair = bound (pair_value a b i) _ bytes h in
    let high = bound (value_at a i) _ pair.0 pair.1 in
    let low = bound (value_at b (i + 1)) _ pair.0 high.2 in
    let rest = bound (decode_pairs (i + 2) text) _ bytes pair.2 in
    let r = pairs_read (i + 2) text rest.0 rest.1 in
    let d = digit_read a i high.0 high.1 in
    let e = digit_read b (i + 1) low.0 low.1 in
    let byte : high.0 * 16 + low.0 ≡ pair.0 = same_ok _ _ _ refl low.2 in
    let all : pair.0 ∷ rest.0 ≡ bytes = same_ok _ _ _ refl rest.2 in
    let p = powers (length rest.0) (length text) (omega (arith, r.twice)) in
    rw (← all) (record {
      hex = (omega (arith, d), (omega (arith, e), r.hex));
      twice = let t = r.twice in omega arith;
      is = rw (d.0, e.0) (joined high.0 low.0 pair.0 _ _ _ _ _ byte (pow-suc 16 (length text)) p r.is);
      fits = rw (pow-suc 256 (length rest.0)) (mul-add-lt _ _ _ _ (omega (arith, byte, d, e)) r.fits);
    })

byte_worth_is : (k b : ℕ) → b * 256 ^ k ≡ byte_worth k b
byte_worth_is zero b = omega arith
byte_worth_is (suc k) b = refl

worth_is : (k n : ℕ) (bytes : List ℕ) → length bytes ≡ suc k → n < suc k → worth_of (drop n bytes) ≡ byte_worth (k - n) (slice_index bytes n) + worth_of (drop (n + 1) bytes)
worth_is k n bytes len below =
    let left : length (drop (n + 1) bytes) ≡ k - n = omega (arith, length-drop (n + 1) bytes) in
    ap worth_of (drop_more bytes n 0 (omega arith)) ∙ ap (λ (m : ℕ). slice_index bytes n * 256 ^ m + worth_of (drop (n + 1) bytes)) left
    ∙ ap (λ (x : ℕ). x + worth_of (drop (n + 1) bytes)) (byte_worth_is (k - n) (slice_index bytes n))

-- the sum that std computes from bytes, up to place n, and the worth of the bytes that follow
sum_is : (k n : ℕ) (bytes : List ℕ) → length bytes ≡ suc k → n < suc k → sum_through (λ i. byte_worth (k - i) (slice_index bytes i)) n + worth_of (drop (n + 1) bytes) ≡ worth_of bytes
sum_is k zero bytes len below = sym (worth_is k 0 bytes len below)
sum_is k (suc n) bytes len below =
    let so_far = sum_is k n bytes len (omega arith) in
    let here = worth_is k (suc n) bytes len below in
    let place : n + 1 ≡ suc n = omega arith in
    let same : worth_of (drop (n + 1) bytes) ≡ worth_of (drop (suc n) bytes) = ap (λ (m : ℕ). worth_of (drop m bytes)) place in
    omega (arith, so_far, here, same)

-- bytes that are decoded from digits encode the number of the digits
pub decoded : (bits k : ℕ) (text bytes : List ℕ) → 256 ^ suc k ≡ 2 ^ bits → decode_sized text (suc k) ≡ Ok bytes → ReadsId bits text (sum_through (λ i. byte_worth (k - i) (slice_index bytes i)) k)
decoded bits k text bytes range h =
    let sized = ((IsOk-decode_sized text (suc k)).0 (rw h refl)).0 in
    let r = pairs_read 0 text bytes (sym (decode_sized-pairs text (suc k) (omega (arith, sized)) (omega (arith, sized))) ∙ h) in
    let len : length bytes ≡ suc k = omega (arith, sized, r.twice) in
    let sum = sum_is k k bytes len (omega arith) in
    let all : drop (k + 1) bytes ≡ [] = drop_all (k + 1) bytes (omega arith) in
    let e : sum_through (λ i. byte_worth (k - i) (slice_index bytes i)) k ≡ worth_of bytes = let none = ap worth_of all in omega (arith, sum, none) in
    rw e (record { digits = text; spelled = inl refl; some = omega (arith, r.twice, len); hex = r.hex; is = sym r.is; fits = let f = rw (len, range) at r.fits in f })
