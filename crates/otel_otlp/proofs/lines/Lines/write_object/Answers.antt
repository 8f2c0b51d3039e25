use Rattle.std.proofs.Common.{List, ℕ, [], ◌<◌, length, take, inl, refl, subst, arith}
use Rattle.std.specs.Io.KnownBytes.{Appends}
use Rattle.otel_otlp.proofs.LinesWritten.{cut_written, none_written}
use Rattle.otel_otlp.proofs.lines.Lines.write_object.Goals.{else-cut-gt0-via-then-cut-gt0+else-line-cut-eq1, else-cut-gt0-via-else-cut-gt0}
use Rattle.otel_otlp.proofs.lines.Lines.write_object.Goals as goal

pub returns-else-cut-gt0-clause-cut : goal.returns-else-cut-gt0-clause-cut
returns-else-cut-gt0-clause-cut g c = λ text is.
    let line = c.args.line.now in
    let count = c.in-Err.cut.count in
    let before = g.W.Write.contents c.args.self.now.writer in
    let after = g.W.Write.contents c.write_bytes.new.writer in
    let (fewer, taken) = subst (λ (xs : List ℕ). (count < length xs) × Appends before after (take count xs)) c.as_bytes.ensures.value c.in-Err.ensures.cut in
    elim c.else-cut-gt0.branch [
      | else-cut-gt0-via-then-cut-gt0+else-line-cut-eq1 w ↦ cut_written before after text line count _ c.requires is (omega (arith, w.if-cut-gt0.true)) fewer w.if-line-cut-eq1.false taken
      | else-cut-gt0-via-else-cut-gt0 w ↦ ([], inl refl, none_written before after line count _ c.requires (omega (arith, w.if-cut-gt0.false)) taken)
    ]
