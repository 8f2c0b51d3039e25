-- The digits of an id determine its number.
use Rattle.std.proofs.Common.{◌≡◌, ℕ, zero, suc, ◌<◌, ◌^◌, List, [], Result, Ok, Err, ap, ◌∙◌, sym, arith}
use Rattle.std.proofs.lemmas.Nat.{from_be_bytes-to_be_bytes_8}
use Rattle.std.specs.Int.{byte_at, bytes_high_first, w64, w128, to_be_bytes, from_be_bytes}
use Rattle.std.specs.Prelude.{slice_index}
use Rattle.hex.specs.Hex.{IsBytes, encode_lower, decode_of}
use Rattle.hex.proofs.HexLemmas.{decode_of-encode_lower}
use Rattle.otel_ids.proofs.shared.Numerals.{bytes_again}
use Rattle.otel_otlp.specs.Json.{trace_id_text, span_id_text}

byte_small : (i n : ℕ) → byte_at i n < 256
byte_small zero n = omega arith
byte_small (suc i) n = omega arith

pub bytes_small : (k n i : ℕ) → slice_index (bytes_high_first k n) i < 256
bytes_small zero n i = omega arith
bytes_small (suc k) n zero = byte_small k n
bytes_small (suc k) n (suc i) = bytes_small k n i

abbrev unok : {E : Type 0} → Result (List ℕ) E → List ℕ
unok (Ok xs) = xs
unok (Err e) = []

same_bytes : (xs ys : List ℕ) → IsBytes xs → IsBytes ys → encode_lower xs ≡ encode_lower ys → xs ≡ ys
same_bytes xs ys bx by e =
    ap unok (sym (decode_of-encode_lower xs bx) ∙ ap decode_of e ∙ decode_of-encode_lower ys by)

pub same_trace_id : (a b : ℕ) → a < 2 ^ 128 → b < 2 ^ 128 → trace_id_text a ≡ trace_id_text b → a ≡ b
same_trace_id a b ha hb e =
    sym (bytes_again a ha)
    ∙ ap (from_be_bytes w128) (same_bytes (to_be_bytes w128 a) (to_be_bytes w128 b) (bytes_small 16 a) (bytes_small 16 b) e)
    ∙ bytes_again b hb

pub same_span_id : (a b : ℕ) → a < 2 ^ 64 → b < 2 ^ 64 → span_id_text a ≡ span_id_text b → a ≡ b
same_span_id a b ha hb e =
    sym (from_be_bytes-to_be_bytes_8 a ha)
    ∙ ap (from_be_bytes w64) (same_bytes (to_be_bytes w64 a) (to_be_bytes w64 b) (bytes_small 8 a) (bytes_small 8 b) e)
    ∙ from_be_bytes-to_be_bytes_8 b hb
