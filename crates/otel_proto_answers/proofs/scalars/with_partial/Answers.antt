use Rattle.std.proofs.Common.{sym, ap, ◌∙◌}
use Rattle.std.specs.Prelude.{option_map, option_to_list}
use Rattle.otel_proto_answers.specs.Parts.{content_of, field_of}
use Rattle.otel_proto_answers.specs.Seen.{response_after, scalars_of}
use Rattle.otel_proto_answers.proofs.Merging.{one_message}
use Rattle.otel_proto_answers.proofs.scalars.with_partial.Goals as goal

pub returns-in-Bytes : goal.returns-in-Bytes
returns-in-Bytes c =
    c.merge.ensures
    ∙ one_message (scalars_of c.args.scalars) (field_of c.in-Some.field) c.in-Bytes.bytes.now c.if-field-eq-PARTIAL_SUCCESS.true (ap content_of c.in-Bytes.is)
    ∙ ap (λ p. response_after (scalars_of c.args.scalars) (option_to_list (option_map field_of p))) (sym c.in-Some.is)
