use Rattle.std.proofs.Common.{◌≡◌, take, [], map, string_bytes}
use Rattle.std.specs.List.{flat_map}
use Rattle.std.specs.Str.{bytes_eq}
use Rattle.indexmap.specs.IndexSet.{insert_all}
use Rattle.opentelemetry.proofs.propagation.composite.TextMapCompositePropagator.new.Given as goal

abbrev pub invariant-loop-member : goal.invariant-loop-member
invariant-loop-member g l =
    map string_bytes l.fields.keys
    ≡ insert_all bytes_eq [] (flat_map (λ b. (goal.TextMapPropagator-dyn g (b.vtable, b.value)).field_names b.value) (take l.member-index l.member-items))
