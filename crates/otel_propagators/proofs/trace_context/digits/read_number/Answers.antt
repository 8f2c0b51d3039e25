use Rattle.std.proofs.Common.{◌<◌, ◌+◌, ◌*◌, suc, length, refl, arith, ◌≤◌}
use Rattle.otel_propagators.proofs.Numbering.{read_none, read_more, not_read, more_below, below_128}
use Rattle.otel_propagators.proofs.trace_context.digits.read_number.Goals as goal

pub loop-byte-init : goal.loop-byte-init
loop-byte-init c = read_none c.args.bytes.now

pub returns-in_err-digit : goal.returns-in_err-digit
returns-in_err-digit c = rw c.from_residual.ensures (not_read c.args.bytes.now c.loop-byte.byte-index _ c.loop-byte-test.true refl (c.in_err-digit.ensures))

pub overflow_mul-number : goal.overflow_mul-number
overflow_mul-number c =
    let d = c.in_ok-digit.ensures in
    let b = more_below c.loop-byte.byte-index c.loop-byte.number c.in_ok-digit.digit c.loop-byte.invariant.small d.0 in
    let i : c.loop-byte.byte-index < length c.args.bytes.now = c.loop-byte-test.true in
    let s : suc c.loop-byte.byte-index ≤ 32 = omega (arith, c.requires) in
    let w = below_128 (suc c.loop-byte.byte-index) (c.loop-byte.number * 16 + c.in_ok-digit.digit) s b in
    omega arith

pub overflow_add-number : goal.overflow_add-number
overflow_add-number c =
    let d = c.in_ok-digit.ensures in
    let b = more_below c.loop-byte.byte-index c.loop-byte.number c.in_ok-digit.digit c.loop-byte.invariant.small d.0 in
    let i : c.loop-byte.byte-index < length c.args.bytes.now = c.loop-byte-test.true in
    let s : suc c.loop-byte.byte-index ≤ 32 = omega (arith, c.requires) in
    let w = below_128 (suc c.loop-byte.byte-index) (c.loop-byte.number * 16 + c.in_ok-digit.digit) s b in
    omega (arith, c.from.ensures)

pub loop-byte-preserved : goal.loop-byte-preserved
loop-byte-preserved c =
    rw c.from.ensures (read_more c.args.bytes.now c.loop-byte.byte-index c.loop-byte.number c.in_ok-digit.digit _ c.loop-byte-test.true refl (c.in_ok-digit.ensures) c.loop-byte.invariant)
