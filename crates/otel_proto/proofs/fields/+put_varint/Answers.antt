use Rattle.std.proofs.Common.{◌≡◌, ◌∷◌, [], ◌%◌, ◌/◌, ◌+◌, OnOk, ℕ, List, sym, ap, ◌∙◌, subst}
use Rattle.otel_proto.specs.Output.{Output, put_bytes}
use Rattle.otel_proto.specs.Written.{varint_bytes}
use Rattle.otel_proto.proofs.shared.Outputs.{bytes_twice}
use Rattle.otel_proto.proofs.Varints.{varint_small, varint_large}
use Rattle.otel_proto.proofs.fields.+put_varint.Goals as goal

pub returns-then-value-lt128 : goal.returns-then-value-lt128
returns-then-value-lt128 t c =
    subst (λ (s : List ℕ). OnOk c.put.result (c.put.new.self ≡ put_bytes s c.args.out.now))
    (sym (varint_small c.args.value c.if-value-lt128.true)) c.put.ensures

pub returns : goal.returns
returns t c =
    let v = c.args.value in
    let first : List ℕ = (v % 128 + 128) ∷ [] in
    let same : put_bytes first c.put_varint.new.out ≡ put_bytes (varint_bytes v) c.args.out.now =
    ap (put_bytes first) c.in_ok-put_varint.ensures ∙ bytes_twice first (varint_bytes (v / 128)) c.args.out.now
    ∙ ap (λ (s : List ℕ). put_bytes s c.args.out.now) (sym (varint_large v c.if-value-lt128.false c.ranges.value.fits)) in
    subst (λ (o : Output). OnOk c.put-2.result (c.put-2.new.self ≡ o)) same c.put-2.ensures
