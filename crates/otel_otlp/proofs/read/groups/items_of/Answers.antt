use Rattle.std.proofs.Common.{sym, subst}
use Rattle.serde_json.specs.View.{view}
use Rattle.otel_otlp.specs.ReadGroups.{IsScopeGroup}
use Rattle.otel_otlp.specs.ReadMembers.{AreIn}
use Rattle.otel_otlp.proofs.ReadErrors.{passed}
use Rattle.otel_otlp.proofs.read.groups.items_of.Goals as goal

pub returns-in_err-groups-clause-err : goal.returns-in_err-groups-clause-err
returns-in_err-groups-clause-err g c =
    passed _ _ _ c.from_residual.ensures.1
    (λ no items h.
    c.in_err-groups.ensures.err no h.groups
    (subst (λ name. AreIn (IsScopeGroup g.I.Grouped.form g.I.Item.says) name
    (view c.args.resource.now) h.groups) (sym c.list_names.ensures.scopes) h.are))
