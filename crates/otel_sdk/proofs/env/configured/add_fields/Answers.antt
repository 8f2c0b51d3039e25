use Rattle.std.proofs.Common.{ap, ◌∙◌, sym, map, string_bytes}
use Rattle.std.specs.Str.{bytes_eq}
use Rattle.indexmap.specs.IndexSet.{insert_key, insert_all}
use Rattle.otel_sdk.proofs.ListedFields.{texts-insert_key}
use Rattle.otel_sdk.proofs.env.configured.add_fields.Goals as goal

pub loop-name-preserved : goal.loop-name-preserved
loop-name-preserved c =
    ap (λ ks. insert_all bytes_eq ks c.next.new.self)
    (ap (map string_bytes) c.in_ok-insert.ensures.keys ∙ texts-insert_key c.loop-name.fields.keys c.in_ok-from_str.field-0
    ∙ ap (insert_key bytes_eq (map string_bytes c.loop-name.fields.keys)) c.in_ok-from_str.ensures.ok)
    ∙ sym (ap (insert_all bytes_eq (map string_bytes c.loop-name.fields.keys)) c.in-Some.ensures.steps)
    ∙ c.loop-name.invariant
