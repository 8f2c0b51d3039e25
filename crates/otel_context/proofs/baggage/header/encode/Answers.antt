use Rattle.std.proofs.Common.{◌∙◌, arith}
use Rattle.std.proofs.lemmas.List.Elements.{All-from_get_or}
use Rattle.percent_encoding.proofs.PercentLemmas.{IsByte}
use Rattle.otel_context.proofs.BaggageEscapeSet.{escapes_are}
use Rattle.otel_context.proofs.baggage.header.encode.Goals as goal

pub returns : goal.returns
returns c =
    let small = All-from_get_or IsByte c.args.value.now 0 (λ i within. omega (arith, c.type_inv.value i)) in
    c.utf8_percent_encode.ensures.text ∙ escapes_are c.args.value.now small
