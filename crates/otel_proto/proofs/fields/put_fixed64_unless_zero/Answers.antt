use Rattle.std.proofs.Common.{◌≡◌, [], ◌∷◌, Bool, OnOk, if◌then◌else◌, sym, ap, ◌∙◌, subst}
use Rattle.std.proofs.lemmas.Bool.{ne_eqb}
use Rattle.otel_proto.specs.Output.{Output, put_bytes, Puts}
use Rattle.otel_proto.specs.Wire.{fixed64}
use Rattle.otel_proto.specs.Written.{tag}
use Rattle.otel_proto.proofs.shared.Outputs.{put_zero, put_fixed64_field}
use Rattle.otel_proto.proofs.fields.put_fixed64_unless_zero.Goals as goal

pub returns-then-value-eq0 : goal.returns-then-value-eq0
returns-then-value-eq0 c = put_zero c.args.value ((c.args.number, fixed64 c.args.value) ∷ []) c.args.out.now c.if-value-eq0.true

pub returns : goal.returns
returns c =
    let fs = (c.args.number, fixed64 c.args.value) ∷ [] in
    subst (λ (b : Bool). Puts c.put_tag.result c.args.out.now c.put_tag.new.out (if b then [] else fs))
    (sym (ne_eqb c.args.value 0 c.if-value-eq0.false))
    (subst (λ (o : Output). OnOk c.put_tag.result (c.put_tag.new.out ≡ o))
    (ap (put_bytes (tag c.args.number 1)) (c.in_ok-put.ensures ∙ ap (λ s. put_bytes s c.args.out.now) c.to_le_bytes.ensures) ∙ put_fixed64_field c.args.number c.args.value c.args.out.now)
    c.put_tag.ensures)
