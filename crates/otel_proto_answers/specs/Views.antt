-- What a caller sees of answers.
use Rattle.std.specs.Prelude.{option_map, string_bytes}
use Rattle.otel_proto_answers.specs.Answers as spec
use Rattle.otel_proto_answers.specs.declared.answers.Partial.{Partial}
use Rattle.otel_proto_answers.specs.declared.answers.Status.{Status}

abbrev pub partial_of : Partial → spec.PartialSuccess
partial_of p = record { rejected = p.rejected; message = option_map string_bytes p.message }

abbrev pub status_of : Status → spec.StatusMessage
status_of s = record { code = s.code; message = option_map string_bytes s.message }
