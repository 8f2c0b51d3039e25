use Rattle.std.proofs.Common.{◌++◌, ◌∷◌, [], ℕ, List, string_bytes, inr}
use Rattle.otel_otlp.specs.Exporter.{Writes, IsLineOf, IsCutOff, IsCutOffLineOf}
use Rattle.otel_otlp.proofs.LinesWritten.{line_of, map_ok, map_err}
use Rattle.otel_otlp.proofs.exporter.write_batch.Goals as goal

pub returns-clause-line : goal.returns-clause-line
returns-clause-line g c =
    let contents = g.W.Write.contents in
    let form = g.R.Grouped.form in
    let old = c.args.lines.now in
    let new = c.write_line.new.self in
    let of = c.args.resource.now in
    let batch = c.args.batch.now in
    let text = string_bytes c.in_ok-text.text in
    map_ok (Writes contents old new (text ++ 10 ∷ []))
    ((line : List ℕ) × IsLineOf form of batch line × Writes contents old new line) c.write_line.result
    (λ written. (text ++ 10 ∷ [], line_of form of batch text c.if-is_empty.ensures c.in_ok-text.ensures, written))
    c.write_line.ensures.ok

pub returns-clause-cut : goal.returns-clause-cut
returns-clause-cut g c =
    let contents = g.W.Write.contents in
    let form = g.R.Grouped.form in
    let old = c.args.lines.now in
    let new = c.write_line.new.self in
    let of = c.args.resource.now in
    let batch = c.args.batch.now in
    let text = string_bytes c.in_ok-text.text in
    map_err ((line : List ℕ) × IsCutOff text line × Writes contents old new line)
    ((line : List ℕ) × IsCutOffLineOf form of batch line × Writes contents old new line) c.write_line.result
    (λ cut. (cut.0, inr (text, c.in_ok-text.ensures, cut.1), cut.2))
    c.write_line.ensures.err
