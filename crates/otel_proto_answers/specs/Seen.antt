-- The values that were read so far.
use Rattle.std.specs.Prelude.{List, Option, option_and_then}
use Rattle.otel_proto.specs.Wire.{Field}
use Rattle.otel_proto_answers.specs.Answers as spec
use Rattle.otel_proto_answers.specs.Answers.{message_of}
use Rattle.otel_proto_answers.specs.declared.scalars.Scalars.{Scalars}

abbrev pub scalars_of : Scalars → spec.Scalars
scalars_of s = record { integer = s.integer; string = s.string.now }

-- what the partial success in the fields of a response says, with these in place of absent fields
abbrev pub response_after : spec.Scalars → List Field → Option spec.Scalars
response_after absent fields = option_and_then (spec.scalars absent) (message_of 1 fields)
