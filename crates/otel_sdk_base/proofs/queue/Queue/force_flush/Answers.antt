use Rattle.std.proofs.Common.{◌∙◌, ◌++◌, ap, inl, inr, List, rules}
use Rattle.otel_sdk_base.specs.Export.{items_of}
use Rattle.otel_sdk_base.specs.Queue.{Received}
use Rattle.otel_sdk_base.specs.QueueView.{state}
use Rattle.otel_sdk_base.proofs.shared.BatchLemmas.{keeps}
use Rattle.otel_sdk_base.proofs.queue.Queue.force_flush.Goals as goal

pub returns-in_err-export_all : goal.returns-in_err-export_all
returns-in_err-export_all g c = (
  (
    c.export_all.ensures.flushed,
    keeps g.E.Exporter.accepted (state c.args.self.now) (state c.export_all.new.self) c.export_all.ensures.flushed,
    search rules,
    search rules,
    λ _. inl (search rules),
  ),
  c.export_all.ensures.capacity,
)

pub returns : goal.returns
returns g c =
    let of : List (List g.row.T.Denot) → Received g.row.T.Denot = λ batches. record {
      items = items_of batches ++ c.export_all.new.self.items.items;
      dropped = c.export_all.new.self.dropped;
    } in (
      (
        search rules,
        ap of c.force_flush.ensures.same
            ∙ keeps g.E.Exporter.accepted (state c.args.self.now) (state c.export_all.new.self) c.export_all.ensures.flushed,
        search rules,
        search rules,
        λ _. inr (
          c.in_ok-export_all.ensures.ok,
          record {
            before = c.export_all.new.self.exporter;
            exported = c.export_all.ensures.flushed.exported;
            step = c.force_flush.ensures.flushed;
          },
          λ answers before. c.force_flush.ensures.once answers (c.export_all.ensures.unflushed answers before),
        ),
      ),
      search rules,
    )
