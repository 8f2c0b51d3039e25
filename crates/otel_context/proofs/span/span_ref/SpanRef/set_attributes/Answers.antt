use Rattle.otel_context.proofs.SpanRefLemmas.{OthersStay-replaced, becomes-ok, becomes-err, idle-found}
use Rattle.otel_context.proofs.span.span_ref.SpanRef.set_attributes.Goals as goal

pub returns-in-Some-clause-ok : goal.returns-in-Some-clause-ok
returns-in-Some-clause-ok g c =
    let written = rw c.in-Some.is at (c.find_mut.follows.holds c.set_attributes.new.self) in
    becomes-ok c.set_attributes.result _ c.args.self.now.spans.now c.args.self.now.number _ _ _ c.in-Some.ensures.value written c.set_attributes.ensures.ok

pub returns-in-Some-clause-err : goal.returns-in-Some-clause-err
returns-in-Some-clause-err g c =
    let written = rw c.in-Some.is at (c.find_mut.follows.holds c.set_attributes.new.self) in
    becomes-err c.set_attributes.result _ c.args.self.now.spans.now c.args.self.now.number _ _ _ c.in-Some.ensures.value written c.set_attributes.ensures.err

pub returns-in-Some-clause-idle : goal.returns-in-Some-clause-idle
returns-in-Some-clause-idle g c =
    let written = rw c.in-Some.is at (c.find_mut.follows.holds c.set_attributes.new.self) in
    idle-found c.set_attributes.result g.S.Span.records c.args.self.now.spans.now c.args.self.now.number _ _ _ c.in-Some.ensures.value written c.set_attributes.ensures.idle

pub invariant_of-self : goal.invariant_of-self
invariant_of-self g c =
    let written = rw c.in-Some.is at (c.find_mut.follows.holds c.set_attributes.new.self) in
    let s = c.args.self.now in
    record { others = rw written (OthersStay-replaced s.number s.first.value s.spans.now c.set_attributes.new.self s.others) }
