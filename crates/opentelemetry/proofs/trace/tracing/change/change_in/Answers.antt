use Rattle.std.proofs.Common.{sym}
use Rattle.opentelemetry.specs.SpanChange.{change_of}
use Rattle.opentelemetry.proofs.OpenLemmas.{changed-here, unchanged-here}
use Rattle.opentelemetry.proofs.trace.tracing.change.change_in.Goals as goal

pub returns-in-Some-clause-ok : goal.returns-in-Some-clause-ok
returns-in-Some-clause-ok g c =
    let written = rw c.in-Some.is at (c.get_mut.follows.holds c.make_change.new.span) in
    changed-here (change_of g.S.Span.after_event g.S.Span.after_attribute g.S.Span.after_link g.S.Span.after_status
    g.S.Span.after_name c.args.change) c.args.spans.now (c.get_mut.follows.lender c.make_change.new.span) c.args.number
    c.in-Some.span.now c.make_change.new.span c.make_change.result written (sym c.in-Some.ensures.value) c.make_change.ensures.ok

pub returns-in-Some-clause-err : goal.returns-in-Some-clause-err
returns-in-Some-clause-err g c =
    let written = rw c.in-Some.is at (c.get_mut.follows.holds c.make_change.new.span) in
    unchanged-here (change_of g.S.Span.after_event g.S.Span.after_attribute g.S.Span.after_link g.S.Span.after_status
    g.S.Span.after_name c.args.change) c.args.spans.now (c.get_mut.follows.lender c.make_change.new.span) c.args.number
    c.in-Some.span.now c.make_change.new.span c.make_change.result written (sym c.in-Some.ensures.value) c.make_change.ensures.err
