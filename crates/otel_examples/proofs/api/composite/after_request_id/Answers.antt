use Rattle.std.proofs.Common.{rules, [], ◌∷◌, ◌++◌, ap}
use Rattle.std.proofs.lemmas.Result.{on_ok_weaker}
use denote.Param.Object.{read_made}
use Rattle.otel_context.specs.Context.{empty_context}
use Rattle.opentelemetry.specs.Carrier.{Pairs, text_map}
use Rattle.otel_examples.specs.RequestId as request
use Rattle.otel_examples.proofs.Sending.{id_is_sent}
use Rattle.otel_examples.proofs.Joined.{after_others, trace_first, requests_are_other}
use Rattle.otel_examples.proofs.api.composite.after_request_id.OwnLists as own
use Rattle.otel_examples.proofs.api.composite.after_request_id.Goals as goal

pub returns-clause-back : goal.returns-clause-back
returns-clause-back c =
    let made-id = c.into_dyn_box.ensures.1 in
    let made-trace = c.into_dyn_box-in_ok-new-4.ensures.1 in
    let made-baggage = c.into_dyn_box-in_ok-new-6.ensures.1 in
    let sent = text_map c.send_and_receive.new.headers.entries in
    let given = request.extracted empty_context sent in
    c.send_and_receive.ensures.back given
    (after_others _ _ c.args.context.now empty_context given sent
    c.in_ok-composite.composite.members.items (c.into_dyn_box.result ∷ []) c.into_dyn_box-in_ok-new-4.result c.into_dyn_box-in_ok-new-6.result
    (request.pairs c.args.context.now ++ []) (search rules)
    (read_made own.own-1 own.entry-1-1 own.at-1-1 own.same-1-1 _ (λ j y. j.1.extracted y empty_context sent) _ _ _ made-id)
    (ap (λ (ps : Pairs). ps ++ []) (read_made own.own-1 own.entry-1-1 own.at-1-1 own.same-1-1 _ (λ j y. j.1.pairs y c.args.context.now) _ _ _ made-id))
    (requests_are_other c.args.context.now)
    (trace_first c.args.context.now given sent _ _ _ _
    (read_made own.own-1 own.entry-1-2 own.at-1-2 own.same-1-2 _ (λ j y. j.1.pairs y c.args.context.now) _ _ _ made-trace)
    (read_made own.own-1 own.entry-1-3 own.at-1-3 own.same-1-3 _ (λ j y. j.1.pairs y c.args.context.now) _ _ _ made-baggage)
    (read_made own.own-1 own.entry-1-2 own.at-1-2 own.same-1-2 _ (λ j y. j.1.extracted y given sent) _ _ _ made-trace)
    (λ given. read_made own.own-1 own.entry-1-3 own.at-1-3 own.same-1-3 _ (λ j y. j.1.extracted y given sent) _ _ _ made-baggage)))

pub returns-clause-id : goal.returns-clause-id
returns-clause-id c =
    let made-id = c.into_dyn_box.ensures.1 in
    let made-trace = c.into_dyn_box-in_ok-new-4.ensures.1 in
    let made-baggage = c.into_dyn_box-in_ok-new-6.ensures.1 in
    on_ok_weaker c.send_and_receive.result
    (id_is_sent _ c.args.context.now _ _ c.in_ok-composite.composite.members.items c.into_dyn_box.result c.into_dyn_box-in_ok-new-4.result c.into_dyn_box-in_ok-new-6.result
    (search rules)
    (read_made own.own-1 own.entry-1-1 own.at-1-1 own.same-1-1 _ (λ j y. j.1.pairs y c.args.context.now) _ _ _ made-id)
    (read_made own.own-1 own.entry-1-2 own.at-1-2 own.same-1-2 _ (λ j y. j.1.pairs y c.args.context.now) _ _ _ made-trace)
    (read_made own.own-1 own.entry-1-3 own.at-1-3 own.same-1-3 _ (λ j y. j.1.pairs y c.args.context.now) _ _ _ made-baggage))
    c.send_and_receive.ensures.sent
