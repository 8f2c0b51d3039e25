use Rattle.std.proofs.Common.{◌≡◌, sym, ap, subst, ◌∙◌, List, ℕ, Option, IfOk, option_map}
use Rattle.std.specs.Option.{option_or}
use Rattle.std.specs.Result.{result_ok}
use Rattle.base64.specs.Engines.{standard_pad_indifferent}
use Rattle.base64.specs.GeneralPurpose.{IsDecodeFailure}
use Rattle.otel_otlp.specs.ReadTrees.{url_safe_bytes_of, bytes_of}
use Rattle.otel_otlp.proofs.read.trees.bytes_of.Goals as goal

pub returns-in-Ok : goal.returns-in-Ok
returns-in-Ok c =
    sym (ap bytes_of (sym c.as_bytes.ensures.value)
    ∙ ap (λ r. option_or (result_ok r) (url_safe_bytes_of c.as_bytes.result.now)) c.in-Ok.ensures.ok)

pub returns-in-Err-DecodeError : goal.returns-in-Err-DecodeError
returns-in-Err-DecodeError c =
    let same : url_safe_bytes_of c.args.text.now ≡ bytes_of c.args.text.now =
    sym (ap bytes_of (sym c.as_bytes.ensures.value)
    ∙ ap (λ r. option_or (result_ok r) (url_safe_bytes_of c.as_bytes.result.now))
    (subst (IsDecodeFailure standard_pad_indifferent c.as_bytes.result.now)
    c.in-Err-DecodeError.field-0-is c.in-Err-DecodeError.ensures.err)
    ∙ ap url_safe_bytes_of c.as_bytes.ensures.value) in
    subst (λ (o : Option (List ℕ)). IfOk c.url_safe_bytes_of.result
    (λ bytes. option_map (λ v. v.items) bytes ≡ o)) same c.url_safe_bytes_of.ensures
