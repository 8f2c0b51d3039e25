use Rattle.otel_view.proofs.Choosing.{chosen_more}
use Rattle.otel_view.proofs.page.choose.Goals as goal

pub loop-record-preserved : goal.loop-record-preserved
loop-record-preserved c =
    chosen_more c.args.records.now c.loop-record.record-index c.record-item.result c.loop-record.chosen.traces.entries c.choose.new.self.traces.entries _
    c.loop-record-test.true c.record-item.is c.loop-record.invariant c.in_ok-choose.ensures
