use Rattle.std.proofs.Common.{◌≡◌, Result, Ok, Err, nat_lt, ltb-true, refl, subst, sym}
use Rattle.std.specs.Prelude.{IsOk, MatchResult, OnOk}
use Rattle.std.specs.Str.{IsUtf8, IsAscii}
use Rattle.std.proofs.lemmas.Str.{IsUtf8-from_ascii}
use Rattle.std.proofs.lemmas.Str.Ascii.{IsAscii-from_all}
use Rattle.std.proofs.lemmas.List.Sums.{AllPass-from_list_all}
use Rattle.hex.specs.Hex.{encode_lower, lower_digits}
use Rattle.hex.proofs.HexLemmas.{IsAscii-encode_with}
use Rattle.otel_otlp.proofs.object.put_hex.Goals as goal

digits : IsAscii lower_digits
digits =
    IsAscii-from_all lower_digits
    (λ k d low. ltb-true _ _ (AllPass-from_list_all (λ b. nat_lt b 128) lower_digits refl k d low))

-- a result is `Ok` if no error is possible
ok_unless : {T E : Type 0} (r : Result T E) (P : T → Type 0) (Q : E → Type 0) → MatchResult r P Q → ((e : E) → Q e → ⊥) → IsOk r
ok_unless (Ok x) P Q h never = refl
ok_unless (Err e) P Q h never = absurd (never e h)

pub unwrap-digits-requires : goal.unwrap-digits-requires
unwrap-digits-requires c =
    let given = c.args.bytes.now in
    let written = subst (λ r. OnOk r (c.encode_to_slice.new.output ≡ encode_lower given)) c.unwrap.ensures c.encode_to_slice.ensures.written in
    let utf8 = IsUtf8-from_ascii _ (IsAscii-encode_with lower_digits given digits) in
    ok_unless _ _ _ c.from_utf8.ensures.cases (λ e broken. broken.0 (subst IsUtf8 (sym written) utf8))
