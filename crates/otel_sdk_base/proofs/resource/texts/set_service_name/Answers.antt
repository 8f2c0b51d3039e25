use Rattle.std.proofs.Common.{◌≡◌, false, List, length, map, sym, ap, subst, ◌∙◌, eqb}
use Rattle.std.specs.Prelude.{OnOk, codes}
use Rattle.std.proofs.lemmas.Bool.{cond-false}
use Rattle.otel_base.specs.Blanks.{cut_blanks}
use Rattle.otel_base.specs.KeyValue.{Attribute}
use Rattle.otel_base.specs.Value.{text}
use Rattle.otel_base.specs.View.{attribute_of}
use Rattle.otel_sdk_base.specs.Attributes.{put}
use Rattle.otel_sdk_base.specs.Resource.{named}
use Rattle.otel_sdk_base.proofs.resource.texts.set_service_name.Goals as goal

pub returns-clause-ok : goal.returns-clause-ok
returns-clause-ok c =
    let name = cut_blanks c.args.name.now in
    let xs = map attribute_of c.args.attributes.now.items in
    let written = c.in_ok-from_str.ensures.ok ∙ c.cut_blanks-name.ensures in
    let is : attribute_of c.new.result ≡ named (codes "service.name") name = c.new.ensures ∙ (λ i. (c.from.ensures i, (c.from-name.ensures ∙ ap text written) i)) in
    let some : eqb (length name) 0 ≡ false = ap (λ t. eqb (length t) 0) (sym c.cut_blanks-name.ensures) ∙ sym c.is_empty.ensures ∙ c.if-is_empty.false in
    subst (λ (l : List Attribute). OnOk c.put.result (map attribute_of c.put.new.attributes.items ≡ l))
    (ap (put xs) is ∙ sym (cond-false (eqb (length name) 0) xs (put xs (named (codes "service.name") name)) some))
    c.put.ensures.ok
