use Rattle.std.proofs.Common.{◌∙◌, sym}
use Rattle.otel_c.proofs.Given.{at_baggage, at_parent, at_state, at_none}
use Rattle.otel_c.proofs.values.Values.at.Goals as goal

pub returns-then-eq : goal.returns-then-eq
returns-then-eq c = at_baggage _ _ _ _ (sym c.eq.ensures ∙ c.if-eq.true)

pub returns-then-eq-2 : goal.returns-then-eq-2
returns-then-eq-2 c = at_parent _ _ _ _ (sym c.eq.ensures ∙ c.if-eq.false)
    (sym c.eq-else-eq.ensures ∙ c.if-eq-2.true)

pub returns-then-eq-3 : goal.returns-then-eq-3
returns-then-eq-3 c = at_state _ _ _ _ (sym c.eq.ensures ∙ c.if-eq.false)
    (sym c.eq-else-eq.ensures ∙ c.if-eq-2.false) (sym c.eq-else-eq-2.ensures ∙ c.if-eq-3.true)

pub returns-else-eq-3 : goal.returns-else-eq-3
returns-else-eq-3 c = at_none _ _ _ _ (sym c.eq.ensures ∙ c.if-eq.false)
    (sym c.eq-else-eq.ensures ∙ c.if-eq-2.false) (sym c.eq-else-eq-2.ensures ∙ c.if-eq-3.false)
