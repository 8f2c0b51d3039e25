use Rattle.std.proofs.Common.{refl, sym, ◌∙◌}
use Rattle.otel_ids.proofs.HexDigits.{decoded}
use Rattle.otel_ids.proofs.Numbers.{reads_from_ok, parsed}
use Rattle.otel_ids.proofs.span_id.SpanId.from_hex.Goals as goal

pub returns-in_err-number-clause-returned : goal.returns-in_err-number-clause-returned
returns-in_err-number-clause-returned c = λ n r. absurd (c.in_err-number.ensures.value (parsed 64 c.args.hex.now n r).0)

pub returns-clause-read : goal.returns-clause-read
returns-clause-read c = reads_from_ok 64 c.args.hex.now c.in_ok-number.number c.in_ok-number.ensures.value.0 c.in_ok-number.ensures.value.1

pub returns-clause-returned : goal.returns-clause-returned
returns-clause-returned c = λ n r. let e = c.in_ok-number.ensures.value.1 ∙ (parsed 64 c.args.hex.now n r).1 in rw e refl

pub returns-in-Ok-clause-read : goal.returns-in-Ok-clause-read
returns-in-Ok-clause-read c = rw c.from_bytes.ensures (decoded 64 7 c.args.hex.now c.in-Ok.bytes refl (sym c.in-Ok.ensures))

pub returns-in-Ok-clause-returned : goal.returns-in-Ok-clause-returned
returns-in-Ok-clause-returned c = λ n r.
    let here = decoded 64 7 c.args.hex.now c.in-Ok.bytes refl (sym c.in-Ok.ensures) in
    let e = c.from_bytes.ensures ∙ sym (parsed 64 c.args.hex.now _ here).1 ∙ (parsed 64 c.args.hex.now n r).1 in rw e refl
