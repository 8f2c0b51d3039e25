use Rattle.std.proofs.Common.{option_map, sym, ap, ◌∙◌, subst}
use Rattle.otel_base.specs.View.{tree}
use Rattle.otel_proto.specs.Output.{put, Puts}
use Rattle.otel_proto.specs.Trees.{cut_value}
use Rattle.otel_proto.proofs.shared.Outputs.{put_none, puts_message}
use Rattle.otel_proto_batches.specs.Logs.{body}
use Rattle.otel_proto_batches.proofs.logs.put_body.Goals as goal

pub returns-in-None : goal.returns-in-None
returns-in-None c =
    let o = c.args.out.now in
    sym (put_none o) ∙ ap (λ b. put (body (option_map tree b)) o) (sym c.in-None.is)

pub returns-in_ok-put_value-in-Some : goal.returns-in_ok-put_value-in-Some
returns-in_ok-put_value-in-Some c =
    let r = c.put_head.result in
    let o = c.args.out.now in
    let new = c.put_head.new.out in
    subst (λ b. Puts r o new (body (option_map tree b))) (sym c.in-Some.is)
    (puts_message r 5 c.count-end.result (cut_value (tree c.in-Some.body)) o new c.count-end.ensures c.in_ok-put_value-in-Some.ensures c.put_head.ensures)
