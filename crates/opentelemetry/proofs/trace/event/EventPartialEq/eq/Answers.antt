use Rattle.std.proofs.Common.{rules}
use Rattle.std.proofs.lemmas.Bool.Decides.{Decides-at}
use Rattle.opentelemetry.specs.Event.{event_eq, event_eq-Decides}
use Rattle.opentelemetry.specs.View.{event_of}
use Rattle.opentelemetry.proofs.trace.event.EventPartialEq.eq.Goals as goal

pub returns-then-same_attributes-clause-same : goal.returns-then-same_attributes-clause-same
returns-then-same_attributes-clause-same c =
    let a = event_of c.args.self.now in
    let b = event_of c.args.other.now in
    Decides-at _ (event_eq a b) (search rules) (event_eq-Decides a b)

pub returns-else-same_attributes-clause-same : goal.returns-else-same_attributes-clause-same
returns-else-same_attributes-clause-same c =
    let a = event_of c.args.self.now in
    let b = event_of c.args.other.now in
    Decides-at _ (event_eq a b) (search rules) (event_eq-Decides a b)
