use Rattle.otel_context.proofs.SpanRefLemmas.{OthersStay-replaced, becomes-ok, changed-err, idle-found}
use Rattle.otel_context.proofs.span.span_ref.SpanRef.record_error.Goals as goal

pub returns-in-Some-clause-ok : goal.returns-in-Some-clause-ok
returns-in-Some-clause-ok g c =
    let written = rw c.in-Some.is at (c.find_mut.follows.holds c.record_error.new.self) in
    becomes-ok c.record_error.result _ c.args.self.now.spans.now c.args.self.now.number _ _ _ c.in-Some.ensures.value written c.record_error.ensures.ok

pub returns-in-Some-clause-err : goal.returns-in-Some-clause-err
returns-in-Some-clause-err g c =
    let written = rw c.in-Some.is at (c.find_mut.follows.holds c.record_error.new.self) in
    changed-err c.record_error.result c.args.self.now.spans.now c.args.self.now.number _ _ _ c.in-Some.ensures.value written c.record_error.ensures.err

pub returns-in-Some-clause-idle : goal.returns-in-Some-clause-idle
returns-in-Some-clause-idle g c =
    let written = rw c.in-Some.is at (c.find_mut.follows.holds c.record_error.new.self) in
    idle-found c.record_error.result g.S.Span.records c.args.self.now.spans.now c.args.self.now.number _ _ _ c.in-Some.ensures.value written c.record_error.ensures.idle

pub invariant_of-self : goal.invariant_of-self
invariant_of-self g c =
    let written = rw c.in-Some.is at (c.find_mut.follows.holds c.record_error.new.self) in
    let s = c.args.self.now in
    record { others = rw written (OthersStay-replaced s.number s.first.value s.spans.now c.record_error.new.self s.others) }
