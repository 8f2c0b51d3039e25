use Rattle.std.proofs.Common.{sym, ap, subst, ◌∙◌}
use Rattle.std.specs.Result.{result_ok}
use Rattle.base64.specs.Engines.{url_safe_pad_indifferent}
use Rattle.base64.specs.GeneralPurpose.{IsDecodeFailure}
use Rattle.otel_otlp.specs.ReadTrees.{url_safe_bytes_of}
use Rattle.otel_otlp.proofs.read.trees.url_safe_bytes_of.Goals as goal

pub returns-in-Ok : goal.returns-in-Ok
returns-in-Ok c =
    sym (ap url_safe_bytes_of (sym c.as_bytes.ensures.value) ∙ ap result_ok c.in-Ok.ensures.ok)

pub returns-in-Err-DecodeError : goal.returns-in-Err-DecodeError
returns-in-Err-DecodeError c =
    sym (ap url_safe_bytes_of (sym c.as_bytes.ensures.value)
    ∙ ap result_ok (subst (IsDecodeFailure url_safe_pad_indifferent c.as_bytes.result.now)
    c.in-Err-DecodeError.field-0-is c.in-Err-DecodeError.ensures.err))
