use Rattle.otel_http.specs.Headers.{texts}
use Rattle.otel_http.proofs.ThereAndBack.{back_from}
use Rattle.otel_http.proofs.there_and_back.there_and_back.Goals as goal

pub returns-clause-back : goal.returns-clause-back
returns-clause-back c =
    let sent = texts c.inject.new.injector.headers in
    back_from c.headers_there_and_back.ensures.in_turn c.args.context.now c.new-2.result c.in_ok-given.given c.extract-2.result
    (texts c.args.injector.now.headers) sent (texts c.inject-2.new.injector.headers) c.in_ok-extractor.extractor c.every_context.ensures
    c.in_ok-inject.ensures.ok c.in_ok-inject-2.ensures.ok c.in_ok-extractor.ensures c.new-2.ensures
    c.in_ok-given.ensures.ok c.extract-2.ensures.ok
