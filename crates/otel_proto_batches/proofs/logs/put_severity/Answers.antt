use Rattle.std.proofs.Common.{option_map, sym, ap, ◌∙◌, subst}
use Rattle.otel_base.specs.Severity.{number}
use Rattle.otel_proto.specs.Output.{put, Puts}
use Rattle.otel_proto.specs.Written.{number_unless_zero}
use Rattle.otel_proto.proofs.shared.Outputs.{put_none, same_puts}
use Rattle.otel_proto_batches.specs.Logs.{severity}
use Rattle.otel_proto_batches.proofs.logs.put_severity.Goals as goal

pub returns-in-None : goal.returns-in-None
returns-in-None c =
    let o = c.args.out.now in
    sym (put_none o) ∙ ap (λ s. put (severity (option_map number s)) o) (sym c.in-None.is)

pub returns-in-Some : goal.returns-in-Some
returns-in-Some c =
    let r = c.put_number_unless_zero.result in
    let o = c.args.out.now in
    let new = c.put_number_unless_zero.new.out in
    subst (λ s. Puts r o new (severity (option_map number s))) (sym c.in-Some.is)
    (same_puts (number_unless_zero 2) r o new (c.from.ensures ∙ c.number.ensures) c.put_number_unless_zero.ensures)
