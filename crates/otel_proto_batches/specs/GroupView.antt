-- The fields of a group of the program.
use Rattle.std.specs.Prelude.{List, ◌∷◌, ◌++◌}
use Rattle.otel_proto.specs.Wire.{Field}
use Rattle.otel_proto.specs.Written.{message, messages}
use Rattle.otel_proto_batches.specs.Common.{scope_with, text_if_given}
use Rattle.otel_proto_batches.specs.declared.groups.Group.{Group}

-- the fields of its scope, with the attributes that are written, of its items and of its schema URL
abbrev pub group_fields : {R : Type 0} → (R → List Field) → Group R → List Field
group_fields fields_of g =
    message 1 (scope_with g.scope g.attributes.attributes)
    ∷ (messages 2 (λ r. fields_of r.now) g.items.items ++ text_if_given 3 g.scope.schema_url)
