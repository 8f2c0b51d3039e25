use Rattle.std.proofs.Common.{sym, ◌∙◌}
use Rattle.otel_carry.proofs.ReportLemmas.{run_written}
use Rattle.otel_carry.proofs.carry.write_run.Goals as goal

pub returns-clause-written : goal.returns-clause-written
returns-clause-written g c = λ zero.
    run_written _ _ c.deref.result.now _ c.current.result.now c.new.result _ _ c.extract-extraction.result c.of-extracted.result _ _ _ _ _
    c.deref.ensures.value c.current.ensures c.new.ensures
    c.extract-extraction.ensures c.of-extracted.ensures (sym c.status.ensures ∙ zero)
    c.in_ok-write_outcomes.ensures c.in_ok-write_current.ensures c.in_ok-write_texts.ensures c.in_ok-writeln-2.ensures.bytes
