use Rattle.std.proofs.Common.{List, ℕ, ◌≤◌, length, take, subst}
use Rattle.std.specs.Io.KnownBytes.{Appends}
use Rattle.otel_otlp.proofs.Writing.{rest_whole, took}
use Rattle.otel_otlp.proofs.written.write_bytes.Goals as goal

pub loop-count-preserved : goal.loop-count-preserved
loop-count-preserved g c =
    let before = g.W.Write.contents c.loop-count.writer in
    let after = g.W.Write.contents c.write_some.new.writer in
    let bytes = c.args.bytes.now in
    let count = c.loop-count.count in
    let more = c.in-Ok.more in
    let rest = rest_whole bytes count in
    let some = c.in-Ok.ensures.some in
    let taken = took (g.W.Write.contents c.args.writer.now) before after bytes count more c.loop-count.invariant.0 c.loop-count.invariant.1
    (subst (λ (xs : List ℕ). more ≤ length xs) rest some.1)
    (subst (λ (xs : List ℕ). Appends before after (take more xs)) rest some.2) in
    (taken.0, taken.1, λ answers already. c.in-Ok.ensures.unflushed answers (c.loop-count.invariant.2 answers already))
