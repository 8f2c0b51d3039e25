use Rattle.otel_examples.proofs.Joined.{arrives}
use Rattle.otel_examples.proofs.Sending.{on_each}
use Rattle.otel_examples.proofs.api.composite.send_and_receive.Goals as goal

pub returns-clause-back : goal.returns-clause-back
returns-clause-back g c = λ given has.
    arrives c.headers_there_and_back.ensures.together c.headers_there_and_back.ensures.composite c.args.context.now given c.receive.result _ _ _ _
    c.every_context.ensures c.in_ok-send.ensures.ok (rw (← c.new-empty.ensures) c.receive.ensures.ok) has

pub returns-clause-sent : goal.returns-clause-sent
returns-clause-sent g c = on_each c.receive.result c.in_ok-send.ensures.ok
