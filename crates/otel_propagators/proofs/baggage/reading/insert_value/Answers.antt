use Rattle.std.proofs.Common.{sym, ◌∙◌}
use Rattle.std.proofs.lemmas.Bool.{cond-false}
use Rattle.otel_context.specs.Baggage.{accepts, put}
use Rattle.otel_context.specs.BaggageMember.{member_of}
use Rattle.otel_propagators.proofs.baggage.reading.insert_value.Goals as goal

pub returns-then-not-accepts : goal.returns-then-not-accepts
returns-then-not-accepts c =
    let m = member_of c.args.key.now c.in-Some.value.now c.args.metadata.now in
    rw c.in-Some.is (sym (cond-false (accepts c.args.baggage.now m) (put c.args.baggage.now m) c.args.baggage.now (sym c.accepts.ensures ∙ c.if-not-accepts.true)))
