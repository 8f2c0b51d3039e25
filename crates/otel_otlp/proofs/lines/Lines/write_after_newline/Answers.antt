use Rattle.std.proofs.Common.{◌≡◌, ◌++◌, ◌∷◌, List, ℕ, []}
use Rattle.otel_otlp.specs.Exporter.{IsCutOff, Writes}
use Rattle.otel_otlp.proofs.LinesWritten.{map_err, map_ok, more_written}
use Rattle.otel_otlp.proofs.lines.Lines.write_after_newline.Goals as goal

pub returns-in-Ok-clause-whole : goal.returns-in-Ok-clause-whole
returns-in-Ok-clause-whole g c =
    let contents = g.W.Write.contents in
    let line = c.args.line.now in
    let mid = c.write_pending_newline.new.self in
    let new = c.write_object.new.self in
    map_ok ((text : List ℕ) → line ≡ text ++ 10 ∷ [] → Writes contents mid new line)
    ((text : List ℕ) → line ≡ text ++ 10 ∷ [] → Writes contents c.args.self.now new line) c.write_object.result
    (λ written text is. more_written _ _ _ _ _ _ [] line c.in-Ok.ensures.writes (written text is))
    c.write_object.ensures.whole

pub returns-in-Ok-clause-cut : goal.returns-in-Ok-clause-cut
returns-in-Ok-clause-cut g c =
    let contents = g.W.Write.contents in
    let line = c.args.line.now in
    let mid = c.write_pending_newline.new.self in
    let new = c.write_object.new.self in
    map_err ((text : List ℕ) → line ≡ text ++ 10 ∷ [] → (cut : List ℕ) × IsCutOff text cut × Writes contents mid new cut)
    ((text : List ℕ) → line ≡ text ++ 10 ∷ [] → (cut : List ℕ) × IsCutOff text cut × Writes contents c.args.self.now new cut) c.write_object.result
    (λ cut text is. let (part, first, written) = cut text is in (part, first, more_written _ _ _ _ _ _ [] part c.in-Ok.ensures.writes written))
    c.write_object.ensures.cut
