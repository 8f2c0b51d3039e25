use Rattle.otel_context.proofs.SpanRefLemmas.{OthersStay-replaced, changed}
use Rattle.otel_context.proofs.span.span_ref.SpanRef.set_status.Goals as goal

pub returns-in-Some-clause-table : goal.returns-in-Some-clause-table
returns-in-Some-clause-table g c =
    let written = rw c.in-Some.is at (c.find_mut.follows.holds c.set_status.new.self) in
    changed _ c.args.self.now.spans.now c.args.self.now.number _ _ _ c.in-Some.ensures.value written c.set_status.ensures

pub invariant_of-self : goal.invariant_of-self
invariant_of-self g c =
    let written = rw c.in-Some.is at (c.find_mut.follows.holds c.set_status.new.self) in
    let s = c.args.self.now in
    record { others = rw written (OthersStay-replaced s.number s.first.value s.spans.now c.set_status.new.self s.others) }
