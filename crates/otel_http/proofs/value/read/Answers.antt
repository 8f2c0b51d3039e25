use Rattle.std.proofs.Common.{rules, sym, ap, ◌∙◌, Some}
use Rattle.otel_http.proofs.Reading.{text_visible}
use Rattle.otel_http.proofs.value.read.Goals as goal

pub returns-in-Ok : goal.returns-in-Ok
returns-in-Ok c =
    ap Some c.in-Ok.ensures.ok ∙ sym (text_visible c.args.value.now (c.in-Ok.ensures.succeeds.0 (search rules)))
