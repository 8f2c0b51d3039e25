-- The bytes of a response, read.
use Rattle.std.proofs.Common.{◌≡◌, ◌<◌, ◌^◌, ℕ, ℤ, List, [], ◌∷◌, ◌++◌, length, Option, Some, None, Bool, true, false, if◌then◌else◌, refl, sym, ap, ◌∙◌, length-append, arith, w64}
use Rattle.std.specs.Prelude.{◌==◌, ◌&&◌, option_map, option_and_then}
use Rattle.std.specs.Int.{cast_signed, cast_unsigned}
use Rattle.std.specs.List.{All, flat_map}
use Rattle.std.specs.Str.{is_utf8}
use Rattle.std.proofs.lemmas.Bool.Decides.{nat_tests}
use Rattle.std.proofs.lemmas.Int.{to_z-of_z}
use Rattle.std.proofs.lemmas.List.{nil_from_length}
use Rattle.std.proofs.lemmas.List.Concat.{flat_map-cons}
use Rattle.std.proofs.lemmas.List.Elements.{All-cons}
use Rattle.std.proofs.lemmas.Str.{is_utf8-from_IsUtf8}
use Rattle.std.proofs.Math.Facts.{Fits-of_z}
use Rattle.otel_proto.specs.Laws.{IsField}
use Rattle.otel_proto.specs.Wire.{Field, varint, bytes, read}
use Rattle.otel_proto.specs.Written.{bytes_of, field_bytes, message, head}
use Rattle.otel_proto.proofs.shared.ReadBack.{fields_read_back}
use Rattle.otel_proto_answers.specs.Answers.{Scalars, scalars, unwritten, partial_success, message_of, response, unless_empty}
use Rattle.otel_proto_answers.specs.Laws.{WrittenResponseReadsBack}
use Rattle.otel_proto_answers.proofs.Merging.{one_merged}

-- ---- the fields of a partial success
fields : Bool → Bool → ℕ → List ℕ → List Field
fields b c w s = (if b then [] else (1, varint w) ∷ []) ++ (if c then [] else (2, bytes s) ∷ [])

zero_of : (w : ℕ) → (w == 0) ≡ true → 0 ≡ w
zero_of w e = grind (arith, nat_tests)

empty_of : (s : List ℕ) → (length s == 0) ≡ true → [] ≡ s
empty_of s e = let none : 0 ≡ length s = zero_of (length s) e in sym (nil_from_length s (sym none))

told : (b c : Bool) (w : ℕ) (s : List ℕ) → (w == 0) ≡ b → (length s == 0) ≡ c → is_utf8 s ≡ true → scalars unwritten (fields b c w s) ≡ Some (record { integer = w; string = s })
unfolding fields
told true true w s zero empty text = λ i. Some (record { integer = zero_of w zero i; string = empty_of s empty i })
told false true w s zero empty text = λ i. Some (record { integer = w; string = empty_of s empty i })
told true false w s zero empty text =
    ap (λ (t : Bool). if t then Some (record { integer = 0; string = s }) else None) (ap (λ (t : Bool). t && true) text)
    ∙ (λ i. Some (record { integer = zero_of w zero i; string = s }))
told false false w s zero empty text =
    ap (λ (t : Bool). if t then Some (record { integer = w; string = s }) else None) (ap (λ (t : Bool). t && true) text)

-- each is a field
none : All IsField []
none k d h = absurd (omega arith)

are_fields : (b c : Bool) (w : ℕ) (s : List ℕ) → w < 2 ^ 64 → All IsField (fields b c w s)
unfolding fields
are_fields true true w s small = none
are_fields true false w s small = All-cons IsField (2, bytes s) [] (record { number = refl; content = tt }) none
are_fields false true w s small = All-cons IsField (1, varint w) [] (record { number = refl; content = small }) none
are_fields false false w s small = All-cons IsField (1, varint w) ((2, bytes s) ∷ []) (record { number = refl; content = small }) (All-cons IsField (2, bytes s) [] (record { number = refl; content = tt }) none)

-- ---- a response with them
one_message_is_field : (inner : List Field) → All IsField (message 1 inner ∷ [])
one_message_is_field inner = All-cons IsField (message 1 inner) [] (record { number = refl; content = tt }) none

inner_short : (inner : List Field) → length (bytes_of (message 1 inner ∷ [])) < 2 ^ 64 → length (bytes_of inner) < 2 ^ 64
unfolding bytes_of
inner_short inner short =
    let s = flat_map field_bytes inner in
    let whole : length (flat_map field_bytes (message 1 inner ∷ [])) ≡ length ((head 1 (length s) ++ s) ++ []) = ap length (flat_map-cons field_bytes (message 1 inner) []) in
    omega (arith, short, whole, length-append (head 1 (length s) ++ s) [], length-append (head 1 (length s)) s)

reads : (inner : List Field) → All IsField inner → length (bytes_of (message 1 inner ∷ [])) < 2 ^ 64 → response (bytes_of (message 1 inner ∷ [])) ≡ partial_success inner
reads inner each short =
    ap (λ (o : Option (List Field)). option_and_then partial_success (option_and_then (message_of 1) o)) (fields_read_back (message 1 inner ∷ []) (one_message_is_field inner) short)
    ∙ ap (option_and_then partial_success) (one_merged (read (bytes_of inner)) ∙ fields_read_back inner each (inner_short inner short))

pub response_reads_back : WrittenResponseReadsBack
unfolding fields
response_reads_back z s fits utf8 short =
    let w = cast_unsigned w64 z in
    let small : w < 2 ^ 64 = omega (arith, Fits-of_z {w = w64} {z = z} fits) in
    reads (fields (w == 0) (length s == 0) w s) (are_fields (w == 0) (length s == 0) w s small) short
    ∙ ap (option_map (λ (t : Scalars). record { rejected = cast_signed w64 t.integer; message = unless_empty t.string })) (told (w == 0) (length s == 0) w s refl refl (is_utf8-from_IsUtf8 s utf8))
    ∙ ap (λ (n : ℤ). Some (record { rejected = n; message = unless_empty s })) (to_z-of_z w64 z fits)
