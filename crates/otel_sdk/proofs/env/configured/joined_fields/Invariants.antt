use Rattle.std.proofs.Common.{◌≡◌, take, [], map, string_bytes}
use Rattle.std.specs.List.{flat_map}
use Rattle.std.specs.Str.{bytes_eq}
use Rattle.indexmap.specs.IndexSet.{insert_all}
use Rattle.otel_sdk.specs.ConfiguredPropagator.{fields_by}
use Rattle.otel_sdk.proofs.env.configured.joined_fields.Given as goal

abbrev pub invariant-loop-member : goal.invariant-loop-member
invariant-loop-member l =
    map string_bytes l.fields.keys ≡ insert_all bytes_eq [] (flat_map fields_by (take l.member-index l.members))
