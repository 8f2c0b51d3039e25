use Rattle.opentelemetry.proofs.carry.run.Goals as goal

pub returns-clause-injected : goal.returns-clause-injected
returns-clause-injected g c = rw c.current.ensures at c.send-injected.ensures.injected
