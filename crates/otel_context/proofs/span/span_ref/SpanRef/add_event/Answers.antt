use Rattle.otel_context.proofs.SpanRefLemmas.{OthersStay-replaced, changed-ok, changed-err}
use Rattle.otel_context.proofs.span.span_ref.SpanRef.add_event.Goals as goal

pub returns-in-Some-clause-ok : goal.returns-in-Some-clause-ok
returns-in-Some-clause-ok g c =
    let written = rw c.in-Some.is at (c.find_mut.follows.holds c.add_event.new.self) in
    changed-ok c.add_event.result _ c.args.self.now.spans.now c.args.self.now.number _ _ _ c.in-Some.ensures.value written c.add_event.ensures.ok

pub returns-in-Some-clause-err : goal.returns-in-Some-clause-err
returns-in-Some-clause-err g c =
    let written = rw c.in-Some.is at (c.find_mut.follows.holds c.add_event.new.self) in
    changed-err c.add_event.result c.args.self.now.spans.now c.args.self.now.number _ _ _ c.in-Some.ensures.value written c.add_event.ensures.err

pub invariant_of-self : goal.invariant_of-self
invariant_of-self g c =
    let written = rw c.in-Some.is at (c.find_mut.follows.holds c.add_event.new.self) in
    let s = c.args.self.now in
    record { others = rw written (OthersStay-replaced s.number s.first.value s.spans.now c.add_event.new.self s.others) }
