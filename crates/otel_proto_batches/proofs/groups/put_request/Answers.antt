use Rattle.std.proofs.Common.{[], ◌∷◌, ◌++◌}
use Rattle.otel_proto.specs.Written.{message, messages}
use Rattle.otel_proto.proofs.shared.Outputs.{put_then, puts_message, same_put}
use Rattle.otel_proto_batches.specs.Common.{resource, text_if_given}
use Rattle.otel_proto_batches.specs.GroupView.{group_fields}
use Rattle.otel_proto_batches.proofs.groups.put_request.Goals as goal

pub returns : goal.returns
returns g c =
    let o = c.args.out.now in
    let of = c.args.resource.now in
    let url = text_if_given 3 of.schema_url in
    let groups = messages 2 (group_fields g.R.Grouped.form.fields_of) c.args.groups.now in
    let first = message 1 (resource of) ∷ [] in
    puts_message c.put_head.result 1 c.count-end.result (first ++ (groups ++ url)) o c.put_head.new.out c.count-end.ensures
    (put_then first (groups ++ url) o
    (put_then groups url o (same_put (text_if_given 3) o c.schema_url.ensures c.in_ok-put_text_if_given.ensures) c.in_ok-put_groups.ensures)
    c.in_ok-put_resource.ensures)
    c.put_head.ensures
