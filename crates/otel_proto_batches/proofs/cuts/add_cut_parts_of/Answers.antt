use Rattle.std.proofs.Common.{sym, ap, ◌∙◌, arith}
use Rattle.std.proofs.lemmas.List.{drop_all}
use Rattle.otel_base.specs.View.{pairs_view}
use Rattle.otel_sdk_base.specs.Attributes.{up_by}
use Rattle.otel_proto_batches.specs.Cuts.{cut_parts_of_attributes}
use Rattle.otel_proto_batches.proofs.CutParts.{up_by_zero}
use Rattle.otel_proto_batches.proofs.cuts.add_cut_parts_of.Goals as goal

pub returns : goal.returns
returns c =
    let l = c.loop-attribute in
    let xs = c.args.attributes.now in
    sym (up_by_zero l.counted l.invariant.0)
    ∙ ap (λ vs. up_by l.counted (cut_parts_of_attributes (pairs_view vs))) (sym (drop_all l.attribute-index xs (omega (arith, c.loop-attribute-test.false))))
    ∙ l.invariant.1
