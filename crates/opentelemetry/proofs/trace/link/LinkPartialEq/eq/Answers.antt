use Rattle.std.proofs.Common.{rules}
use Rattle.std.proofs.lemmas.Bool.Decides.{Decides-at}
use Rattle.opentelemetry.specs.Event.{link_eq, link_eq-Decides}
use Rattle.opentelemetry.specs.View.{link_of}
use Rattle.opentelemetry.proofs.trace.link.LinkPartialEq.eq.Goals as goal

pub returns-then-same_attributes-clause-same : goal.returns-then-same_attributes-clause-same
returns-then-same_attributes-clause-same c =
    let a = link_of c.args.self.now in
    let b = link_of c.args.other.now in
    Decides-at _ (link_eq a b) (search rules) (link_eq-Decides a b)

pub returns-else-same_attributes-clause-same : goal.returns-else-same_attributes-clause-same
returns-else-same_attributes-clause-same c =
    let a = link_of c.args.self.now in
    let b = link_of c.args.other.now in
    Decides-at _ (link_eq a b) (search rules) (link_eq-Decides a b)
