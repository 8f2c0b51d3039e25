use Rattle.std.proofs.Common.{string_bytes}
use Rattle.otel_http.proofs.Reading.{sets_header}
use Rattle.otel_http.proofs.injector.HeaderInjectorInjector.set.Goals as goal

pub returns-in-Ok-clause-ok : goal.returns-in-Ok-clause-ok
returns-in-Ok-clause-ok c =
    sets_header c.args.self.now.headers c.put.new.headers c.args.key.now (string_bytes c.args.value) c.in-Ok.ensures.ok c.in-Ok.ensures.readable
