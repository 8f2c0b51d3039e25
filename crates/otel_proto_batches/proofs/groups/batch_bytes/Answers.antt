use Rattle.std.proofs.Common.{◌≡◌, List, [], ◌∷◌, ◌++◌, ap, ◌∙◌, refl}
use Rattle.std.proofs.lemmas.Result.{IfOk-weaker}
use Rattle.otel_proto.specs.Output.{Output, put, writing}
use Rattle.otel_proto.specs.Wire.{Field}
use Rattle.otel_proto.specs.Written.{message, messages}
use Rattle.otel_proto.proofs.shared.Outputs.{whole_bytes}
use Rattle.otel_proto.proofs.shared.Readable.{messages_are_fields, bytes_read, both}
use Rattle.otel_proto_batches.specs.Common.{resource, text_if_given}
use Rattle.otel_proto_batches.specs.declared.groups.Group.{Group}
use Rattle.otel_proto_batches.specs.Groups.{request, request_of, scope_group, first_scopes}
use Rattle.otel_proto_batches.specs.GroupView.{group_fields}
use Rattle.otel_proto_batches.proofs.GroupFields.{messages_same}
use Rattle.otel_proto_batches.proofs.groups.batch_bytes.Goals as goal

pub returns : goal.returns
returns g c =
    let form = g.R.Grouped.form in
    let of = c.args.resource.now in
    let groups = c.in_ok-groups.groups in
    let fs = request form of c.args.batch.now in
    let o = c.put_request-2.new.out in
    let same : request_of of (messages 2 (group_fields form.fields_of) groups.items) ≡ fs =
    ap (request_of of) (messages_same (group_fields form.fields_of) (scope_group form c.args.batch.now) groups.items (first_scopes form.scope_of [] c.args.batch.now) c.in_ok-groups.ensures) in
    let sent : List (Group g.row.R.Denot) → List Field = λ xs. request_of of (messages 2 (group_fields form.fields_of) xs) in
    let whole : o ≡ put fs writing =
    c.in_ok-put_request-2.ensures
    ∙ ap (λ (p : Output). put (sent c.as_slice-2.result.now) p) c.in_ok-out.ensures
    ∙ ap (λ (s : List Field). put s writing) (ap sent c.as_slice-2.ensures.value ∙ same) in
    let inside =
    message 1 (resource of) ∷ (messages 2 (scope_group form c.args.batch.now) (first_scopes form.scope_of [] c.args.batch.now) ++ text_if_given 3 of.schema_url) in
    let all = messages_are_fields 1 (λ (x : List Field). x) (inside ∷ []) refl in
    record {
      bytes = IfOk-weaker c.into_bytes.result _ _ (λ v h. whole_bytes fs v.items o whole h) c.into_bytes.ensures.bytes;
      reads = both c.into_bytes.result _ _ _ (λ v h short. bytes_read fs v.items all short (whole_bytes fs v.items o whole h)) c.into_bytes.ensures.bytes c.into_bytes.ensures.short;
    }
