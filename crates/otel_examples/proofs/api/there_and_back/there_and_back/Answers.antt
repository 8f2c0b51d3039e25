use Rattle.otel_examples.proofs.ThereAndBack.{back_from, begun, begun_second, all_begun}
use Rattle.otel_examples.proofs.api.there_and_back.there_and_back.Goals as goal

pub returns-in_err-inject-2-clause-err : goal.returns-in_err-inject-2-clause-err
returns-in_err-inject-2-clause-err c = begun _ (begun_second _ _ _ _ _ c.in_ok-inject.ensures.ok c.in_err-inject-2.ensures.err)

pub returns-in_err-given-clause-err : goal.returns-in_err-given-clause-err
returns-in_err-given-clause-err c = begun _ (begun_second _ _ _ _ _ c.in_ok-inject.ensures.ok (all_begun _ _ _ c.in_ok-inject-2.ensures.ok))

pub returns-clause-back : goal.returns-clause-back
returns-clause-back c =
    back_from c.headers_there_and_back.ensures.in_turn c.args.context.now _ _ c.extract-2.result _ _ _ c.every_context.ensures
    c.in_ok-inject.ensures.ok c.in_ok-inject-2.ensures.ok c.new.ensures c.in_ok-given.ensures.ok c.extract-2.ensures.ok

pub returns-clause-err : goal.returns-clause-err
returns-clause-err c = begun _ (begun_second _ _ _ _ _ c.in_ok-inject.ensures.ok (all_begun _ _ _ c.in_ok-inject-2.ensures.ok))
