use Rattle.std.proofs.Common.{◌≡◌, ◌∙◌, ap, OnOk, subst}
use Rattle.otel_proto.specs.Output.{Output, put_bytes}
use Rattle.otel_proto_batches.proofs.TraceStates.{entry_put}
use Rattle.otel_proto_batches.proofs.traces.put_entry.Goals as goal

pub returns : goal.returns
returns c =
    let o = c.args.out.now in
    subst (λ (p : Output). OnOk c.put-3.result (c.put-3.new.self ≡ p))
    (ap (λ s. put_bytes s c.put-2.new.self) c.as_bytes-2.ensures.value
    ∙ entry_put c.args.key.now c.args.value.now o
    (c.in_ok-put.ensures ∙ ap (λ s. put_bytes s o) c.as_bytes.ensures.value) c.in_ok-put-2.ensures)
    c.put-3.ensures
