use Rattle.std.proofs.Common.{map, sym, ap, ◌∙◌}
use Rattle.otel_otlp.specs.ReadGroups.{joined}
use Rattle.otel_otlp.specs.ReadView.{records_of}
use Rattle.otel_otlp.proofs.ReadErrors.{passed}
use Rattle.otel_otlp.proofs.ReadGroups.{items_of_each}
use Rattle.otel_otlp.proofs.read.logs.read_logs.Goals as goal

pub returns-in_err-groups-clause-refused : goal.returns-in_err-groups-clause-refused
returns-in_err-groups-clause-refused c =
    passed _ _ _ c.from_residual.ensures.1
    (λ no es h. c.in_err-groups.ensures.refused no h.resources h.are)

pub returns-in_err-groups-clause-line : goal.returns-in_err-groups-clause-line
returns-in_err-groups-clause-line c = passed _ _ _ c.from_residual.ensures.1 c.in_err-groups.ensures.line

pub returns-clause-read : goal.returns-clause-read
returns-clause-read c = record {
  resources = map records_of c.in_ok-groups.groups.items;
  are = c.in_ok-groups.ensures.read;
  all = c.in_ok-joined.ensures
      ∙ ap joined (sym (items_of_each records_of c.in_ok-groups.groups.items));
}
