use Rattle.std.proofs.Common.{ap}
use Rattle.otel_proto_answers.specs.Parts.{content_of, field_of}
use Rattle.otel_proto_answers.specs.Seen.{scalars_of}
use Rattle.otel_proto_answers.proofs.Merging.{text_counts, no_text}
use Rattle.otel_proto_answers.proofs.scalars.with_field.Goals as goal

pub returns-in-Ok : goal.returns-in-Ok
returns-in-Ok c =
    text_counts (scalars_of c.args.scalars) (field_of c.args.field) c.in-Bytes.bytes.now c.in-Ok.string.now c.if-field-eq-STRING.true (ap content_of c.in-Bytes.is) c.in-Ok.ensures.cases.0 c.in-Ok.ensures.cases.1

pub returns-in-Err : goal.returns-in-Err
returns-in-Err c =
    no_text (scalars_of c.args.scalars) (field_of c.args.field) c.in-Bytes.bytes.now c.if-field-eq-STRING.true (ap content_of c.in-Bytes.is) c.in-Err.ensures.cases.0
