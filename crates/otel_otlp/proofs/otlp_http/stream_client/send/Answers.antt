use Rattle.std.proofs.Common.{ℕ, List, length, sym, subst}
use Rattle.std.proofs.KnownBytes.{Appends-kept}
use Rattle.std.proofs.Math.Seq.{take-length}
use Rattle.std.specs.Io.KnownBytes.{Appends}
use Rattle.otel_otlp.proofs.otlp_http.stream_client.send.Goals as goal

pub returns-in-true-clause-part : goal.returns-in-true-clause-part
returns-in-true-clause-part g c =
    let text = c.args.text.now in
    let before = g.W.Write.contents c.args.writer.now in
    let after = g.W.Write.contents c.flush_all.new.self in
    (length text, subst (λ (xs : List ℕ). Appends before after xs) (sym (take-length text)) (Appends-kept before _ after text c.in_default.ensures.whole c.in-true.ensures.bytes))

pub returns-in-false-clause-part : goal.returns-in-false-clause-part
returns-in-false-clause-part g c =
    let text = c.args.text.now in
    let before = g.W.Write.contents c.args.writer.now in
    let after = g.W.Write.contents c.flush_all.new.self in
    (length text, subst (λ (xs : List ℕ). Appends before after xs) (sym (take-length text)) (Appends-kept before _ after text c.in_default.ensures.whole c.in-false.ensures.bytes))
