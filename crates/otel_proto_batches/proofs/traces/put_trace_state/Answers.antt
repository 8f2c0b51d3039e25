use Rattle.std.proofs.Common.{◌≡◌, ◌∙◌, sym, ap, OnOk, List, subst}
use Rattle.otel_ids.specs.TraceState.{Pair, lent_pair, header}
use Rattle.otel_proto.specs.Output.{Output, put}
use Rattle.otel_proto.specs.Written.{bytes_unless_empty}
use Rattle.otel_proto_batches.proofs.TraceStates.{state_put, no_state}
use Rattle.otel_proto_batches.proofs.traces.put_trace_state.Goals as goal

pub returns-in_default : goal.returns-in_default
returns-in_default c =
    no_state c.args.state.now c.args.out.now (sym c.iter-rest.ensures.pairs ∙ c.in_default.ensures.steps.0)

pub returns : goal.returns
returns c =
    let o = c.args.out.now in
    let p = lent_pair (c.in-Some.key, c.in-Some.value) in
    subst (λ (q : Output). OnOk c.put_head.result (c.put_head.new.out ≡ q))
    (state_put c.count-end.result p c.next.new.self o c.count-end.ensures c.in_ok-put_entries.ensures c.in_ok-put_entry.ensures
    ∙ ap (λ (ps : List Pair). put (bytes_unless_empty 3 (header ps)) o) (sym c.in-Some.ensures.steps ∙ c.iter-rest.ensures.pairs))
    c.put_head.ensures
