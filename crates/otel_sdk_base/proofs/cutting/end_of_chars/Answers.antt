use Rattle.std.proofs.Common.{take, ◌++◌, length, drop, true, false, sym, ap, ◌∙◌, arith}
use Rattle.std.specs.Fmt.{take_chars}
use Rattle.std.proofs.Math.Seq.{take_all}
use Rattle.otel_sdk_base.proofs.FirstChars.{stops, keeps, ends}
use Rattle.otel_sdk_base.proofs.cutting.end_of_chars.Goals as goal
use Rattle.otel_sdk_base.proofs.cutting.end_of_chars.Goals.{then-is_char_start+else-left-eq0, else-is_char_start}

pub returns-then-left-eq0-clause-characters : goal.returns-then-left-eq0-clause-characters
returns-then-left-eq0-clause-characters c =
    let s = c.as_bytes-bytes.result.now in
    let i = c.loop-index.index in
    rw (← c.as_bytes-bytes.ensures.value) (sym (stops s i c.loop-index-test.true
    (sym c.is_char_start.ensures ∙ c.if-is_char_start.true))
    ∙ ap (λ n. take i s ++ take_chars n (drop i s)) (sym c.if-left-eq0.true) ∙ c.loop-index.invariant)

pub loop-index-preserved : goal.loop-index-preserved
loop-index-preserved c =
    let s = c.as_bytes-bytes.result.now in
    let kept = keeps s c.loop-index.index c.loop-index.left c.if-is_char_start.left in
    let test = sym c.is_char_start.ensures in
    elim c.if-is_char_start.branch [
      | then-is_char_start+else-left-eq0 w ↦
          kept true c.loop-index-test.true (test ∙ w.if-is_char_start.true) (omega arith)
          ∙ c.loop-index.invariant
      | else-is_char_start w ↦
          kept false c.loop-index-test.true (test ∙ w.if-is_char_start.false) (omega arith)
          ∙ c.loop-index.invariant
    ]

pub returns-clause-characters : goal.returns-clause-characters
returns-clause-characters c =
    let s = c.as_bytes-bytes.result.now in
    rw (← c.as_bytes-bytes.ensures.value) (take_all (length s) s (omega arith)
    ∙ sym (ends s c.loop-index.index c.loop-index.left c.loop-index-test.false)
    ∙ c.loop-index.invariant)
