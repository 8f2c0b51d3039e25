use Rattle.std.proofs.Common.{◌≡◌, map, string_bytes}
use Rattle.std.specs.Str.{bytes_eq}
use Rattle.indexmap.specs.IndexSet.{insert_all}
use Rattle.otel_sdk.proofs.env.configured.add_fields.Given as goal

abbrev pub invariant-loop-name : goal.invariant-loop-name
invariant-loop-name l =
    insert_all bytes_eq (map string_bytes l.fields.keys) l.name-iterator ≡ insert_all bytes_eq (map string_bytes l.initial.fields.keys) l.initial.name-iterator
