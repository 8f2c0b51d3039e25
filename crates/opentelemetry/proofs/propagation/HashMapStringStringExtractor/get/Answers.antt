use Rattle.std.proofs.Common.{rules, sym}
use Rattle.opentelemetry.proofs.shared.Maps.{at_found}
use Rattle.opentelemetry.proofs.propagation.HashMapStringStringExtractor.get.Goals as goal

pub returns-in-Some : goal.returns-in-Some
returns-in-Some g c = rw c.as_str-in-Some.ensures.value
    (sym (at_found c.args.self.now.entries _ c.as_str.result.now _ (search rules) c.in-Some.ensures.value))

pub returns : goal.returns
returns g c = sym (at_found c.args.self.now.entries _ c.as_str.result.now _ (search rules) c.in-None.ensures.value)
