use Rattle.otel_proto.proofs.fields.+put_varint.Given as goal

abbrev pub decreases-put_varint : goal.decreases-put_varint
decreases-put_varint l = l.value
