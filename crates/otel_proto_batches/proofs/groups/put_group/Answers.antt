use Rattle.std.proofs.Common.{[], ◌∷◌, ◌++◌, ◌≡◌, map, rules}
use Rattle.otel_base.specs.View.{attribute_of}
use Rattle.otel_proto.specs.Written.{message, messages}
use Rattle.otel_proto.proofs.shared.Outputs.{put_then, puts_then, same_put, same_puts}
use Rattle.otel_proto_batches.specs.Common.{scope_with, text_if_given}
use Rattle.otel_proto_batches.proofs.groups.put_group.Goals as goal

pub returns : goal.returns
returns g c =
    let fields_of = g.R.Grouped.form.fields_of in
    let o = c.args.out.now in
    let of = c.args.group.now in
    let given : map attribute_of c.as_slice-2.result.now ≡ of.attributes.attributes = search rules in
    let url = text_if_given 3 of.scope.schema_url in
    let items = messages 2 (λ r. fields_of r.now) of.items.items in
    puts_then c.put_scope.result (message 1 (scope_with of.scope of.attributes.attributes) ∷ []) (items ++ url) o c.put_scope.new.out
    (put_then items url o
    (same_put (text_if_given 3) o c.schema_url.ensures c.in_ok-put_text_if_given.ensures)
    (same_put (messages 2 (λ r. fields_of r.now)) c.put_text_if_given.new.out c.as_slice.ensures.value c.in_ok-put_items.ensures))
    (same_puts (λ xs. message 1 (scope_with of.scope xs) ∷ []) c.put_scope.result c.put_items.new.out c.put_scope.new.out given c.put_scope.ensures)
