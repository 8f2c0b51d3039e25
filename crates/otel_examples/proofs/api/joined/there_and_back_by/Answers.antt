use denote.Param.Object.{read_made}
use Rattle.otel_context.specs.Context.{empty_context}
use Rattle.opentelemetry.specs.Carrier.{text_map}
use Rattle.otel_examples.proofs.Joined.{baggage_first, trace_first}
use Rattle.otel_examples.proofs.api.joined.there_and_back_by.OwnLists as own
use Rattle.otel_examples.proofs.api.joined.there_and_back_by.Goals as goal

pub returns-in-Trace-clause-back : goal.returns-in-Trace-clause-back
returns-in-Trace-clause-back c =
    let made-first = c.into_dyn_box.ensures.1 in
    let made-second = c.into_dyn_box-in-Trace.ensures.1 in
    let sent = text_map c.by_both.new.headers.entries in
    c.by_both.ensures.back
    (trace_first c.args.context.now empty_context sent _ _ _ _
    (read_made own.own-1 own.entry-1-1 own.at-1-1 own.same-1-1 _ (λ j y. j.1.pairs y c.args.context.now) _ _ _ made-first)
    (read_made own.own-1 own.entry-1-2 own.at-1-2 own.same-1-2 _ (λ j y. j.1.pairs y c.args.context.now) _ _ _ made-second)
    (read_made own.own-1 own.entry-1-1 own.at-1-1 own.same-1-1 _ (λ j y. j.1.extracted y empty_context sent) _ _ _ made-first)
    (λ given. read_made own.own-1 own.entry-1-2 own.at-1-2 own.same-1-2 _ (λ j y. j.1.extracted y given sent) _ _ _ made-second))

pub returns-in-Baggage-clause-back : goal.returns-in-Baggage-clause-back
returns-in-Baggage-clause-back c =
    let made-first = c.into_dyn_box-in-Baggage.ensures.1 in
    let made-second = c.into_dyn_box-in-Baggage-2.ensures.1 in
    let sent = text_map c.by_both-in-Baggage.new.headers.entries in
    c.by_both-in-Baggage.ensures.back
    (baggage_first c.args.context.now empty_context sent _ _ _ _
    (read_made own.own-1 own.entry-1-2 own.at-1-2 own.same-1-2 _ (λ j y. j.1.pairs y c.args.context.now) _ _ _ made-first)
    (read_made own.own-1 own.entry-1-1 own.at-1-1 own.same-1-1 _ (λ j y. j.1.pairs y c.args.context.now) _ _ _ made-second)
    (read_made own.own-1 own.entry-1-2 own.at-1-2 own.same-1-2 _ (λ j y. j.1.extracted y empty_context sent) _ _ _ made-first)
    (λ given. read_made own.own-1 own.entry-1-1 own.at-1-1 own.same-1-1 _ (λ j y. j.1.extracted y given sent) _ _ _ made-second))
