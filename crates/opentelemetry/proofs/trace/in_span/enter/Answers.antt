use Rattle.std.proofs.Common.{◌≡◌, Some, ap, is_some}
use Rattle.std.proofs.lemmas.Bool.{false≢true}
use Rattle.otel_context.proofs.shared.SpansLemmas.{get-insert, cause_of-memory, HasSameSpans-take_back}
use Rattle.otel_context.specs.Spans.{HasSameSpans, get, take}
use Rattle.opentelemetry.specs.InSpan.{out_of_memory}
use Rattle.opentelemetry.proofs.trace.in_span.enter.Goals as goal

pub take_back-requires : goal.take_back-requires
take_back-requires g c =
    let n = c.next_number-number.ensures in
    let found : get c.with_span.new.spans c.next_number-number.result ≡ Some c.args.span =
    rw (c.in-Ok.ensures.inserted, n.number) (get-insert c.args.spans.now c.args.span) in
    record { found = ap is_some found }

pub returns-in-Err-attach_copy-clause-same_spans : goal.returns-in-Err-attach_copy-clause-same_spans
returns-in-Err-attach_copy-clause-same_spans g c =
    let n = c.next_number-number.ensures in
    let same : HasSameSpans c.args.spans.now (take c.with_span.new.spans c.next_number-number.result) =
    rw (c.in-Ok.ensures.inserted, n.number)
    (HasSameSpans-take_back c.args.spans.now c.args.span (rw n.number at n.fresh)) in
    rw c.take_back.ensures.taken same

pub returns-in-Err-attach_copy-clause-refused : goal.returns-in-Err-attach_copy-clause-refused
returns-in-Err-attach_copy-clause-refused g c =
    let n = c.next_number-number.ensures in
    let found : get c.with_span.new.spans c.next_number-number.result ≡ Some c.args.span =
    rw (c.in-Ok.ensures.inserted, n.number) (get-insert c.args.spans.now c.args.span) in
    let left = cause_of-memory c.args.spans.now (λ e. false≢true (rw c.in-Ok.is at (c.with_span.ensures.used_up e))) in
    let error : c.take_back.result ≡ out_of_memory c.args.span = rw found at c.take_back.ensures.refused in
    rw left error
