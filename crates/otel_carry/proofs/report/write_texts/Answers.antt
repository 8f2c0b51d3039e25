use Rattle.otel_carry.proofs.ReportLemmas.{texts_written}
use Rattle.otel_carry.proofs.report.write_texts.Goals as goal

pub returns : goal.returns
returns g c = texts_written _ _ _ _ _ _ c.deref.ensures.value c.in_ok-keys.ensures c.write_texts_at.ensures
