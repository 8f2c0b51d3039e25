use Rattle.std.proofs.Common.{sym, ap, ◌∙◌, is_some}
use Rattle.otel_context.proofs.BaggageStores.{none_there}
use Rattle.otel_context.proofs.baggage.members.few.Few.takes.Goals as goal

pub returns-else-len-lt-WALKED-clause-absent : goal.returns-else-len-lt-WALKED-clause-absent
returns-else-len-lt-WALKED-clause-absent c = λ no. none_there c.args.self.now c.args.key.now (ap is_some (sym c.index_of.ensures) ∙ sym c.is_some.ensures ∙ no)
