use Rattle.std.proofs.Common.{◌≡◌, true, ◌++◌, Some, None, sym, ap, subst, ◌∙◌, string_bytes}
use Rattle.std.specs.Prelude.{◌&&◌, IsUtf8}
use Rattle.std.specs.Str.{is_utf8}
use Rattle.std.proofs.lemmas.Bool.{cond-true, cond-false, and_from, and_parts, false_from_ne_true, false≢true}
use Rattle.std.proofs.lemmas.Str.{IsUtf8-string_bytes, is_utf8-from_IsUtf8, IsUtf8-from_is_utf8}
use Rattle.percent_encoding.specs.Percent.{percent_decode}
use Rattle.otel_sdk_base.specs.ResourceTexts.{has_whole_escapes}
use Rattle.otel_sdk_base.proofs.resource.texts.decode.Goals as goal

pub returns-in-Ok : goal.returns-in-Ok
returns-in-Ok c =
    let bytes = percent_decode c.args.text.now in
    let whole = has_whole_escapes c.args.text.now in
    let same : c.append_to.new.out.items ≡ bytes = c.in_ok-append_to.ensures.ok ∙ (λ i. c.new-bytes.ensures.items i ++ c.percent_decode_str.ensures.bytes i) in
    let is : string_bytes c.in-Ok.text ≡ bytes = ap (λ v. v.items) c.in-Ok.ensures.ok ∙ same in
    let utf8 : is_utf8 bytes ≡ true = is_utf8-from_IsUtf8 bytes (subst IsUtf8 is (IsUtf8-string_bytes c.in-Ok.text)) in
    let is_whole : whole ≡ true = sym c.has_whole_escapes.ensures ∙ c.if-not-has_whole_escapes.false in
    ap Some is ∙ sym (cond-true (whole && is_utf8 bytes) (Some bytes) None (and_from whole (is_utf8 bytes) is_whole utf8))

pub returns : goal.returns
returns c =
    let bytes = percent_decode c.args.text.now in
    let whole = has_whole_escapes c.args.text.now in
    let same : c.append_to.new.out.items ≡ bytes = c.in_ok-append_to.ensures.ok ∙ (λ i. c.new-bytes.ensures.items i ++ c.percent_decode_str.ensures.bytes i) in
    sym (cond-false (whole && is_utf8 bytes) (Some bytes) None
    (false_from_ne_true (whole && is_utf8 bytes) (λ t. false≢true (c.in-Err.ensures.succeeds (subst IsUtf8 (sym same) (IsUtf8-from_is_utf8 bytes (and_parts whole (is_utf8 bytes) t).1))))))
