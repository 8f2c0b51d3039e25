use Rattle.std.proofs.Common.{◌≡◌, ◌∙◌, sym, ap, OnOk, List, subst}
use Rattle.std.specs.List.{flat_map}
use Rattle.otel_ids.specs.TraceState.{Pair, lent_pair}
use Rattle.otel_proto.specs.Output.{Output, put_bytes}
use Rattle.otel_proto_batches.proofs.TraceStates.{joined, entries_put}
use Rattle.otel_proto_batches.proofs.traces.+put_entries.Goals as goal

pub returns : goal.returns
returns t c =
    let o = c.args.out.now in
    let p = lent_pair (c.in-Some.key, c.in-Some.value) in
    subst (λ (q : Output). OnOk c.put.result (c.put.new.self ≡ q))
    (entries_put p c.next.new.self o c.in_ok-put_entries.ensures c.in_ok-put_entry.ensures
    ∙ ap (λ (ps : List Pair). put_bytes (flat_map joined ps) o) (sym c.in-Some.ensures.steps))
    c.put.ensures
