use Rattle.std.proofs.Common.{List, sym, subst}
use Rattle.otel_otlp.specs.ReadErrors.{NamesLine, IsRefusal}
use Rattle.otel_otlp.specs.ReadGroups.{AreInLine}
use Rattle.otel_otlp.proofs.ReadGroups.{line_refused, line_named}
use Rattle.otel_otlp.proofs.read.lines.groups_in_line.Goals as goal

pub returns-in-Ok-clause-err : goal.returns-in-Ok-clause-err
returns-in-Ok-clause-err g c =
    let says = g.M.Message.says in
    let name = c.args.name.now in
    let line = c.args.line.now in
    subst (λ e. IsRefusal e → (ms : List g.M.Message.Seen) → ¬ (AreInLine says name line ms)) (sym c.from.ensures)
    (line_refused says name line c.in-Err-groups.fault _ c.in-Ok.ensures.ok c.in-Err-groups.ensures.err)

pub returns-in-Ok-clause-line : goal.returns-in-Ok-clause-line
returns-in-Ok-clause-line g c =
    subst (NamesLine c.args.line.now) (sym c.from.ensures)
    (line_named c.args.line.now c.in-Err-groups.fault _ c.in-Ok.ensures.ok c.in-Err-groups.ensures.no_object)
