use Rattle.std.proofs.Common.{rules, ◌≡◌, ◌∙◌, sym}
use Rattle.std.specs.Str.{str_to_ascii_lowercase}
use Rattle.opentelemetry.proofs.shared.Maps.{at_found}
use Rattle.otel_examples.proofs.HeaderLemmas.{found, not_found}
use Rattle.otel_examples.proofs.api.headers.HeadersExtractor.get.Goals as goal

pub returns-in-Some : goal.returns-in-Some
returns-in-Some c =
    let lowered : c.as_str.result.now ≡ str_to_ascii_lowercase c.args.key.now = search rules in
    sym (at_found c.args.self.now.pairs.items _ c.as_str.result.now _ lowered
    (sym (found c.as_str.result.now c.args.self.now.pairs.items c.in-Some.index c.index.result.now (sym c.in-Some.ensures)))
    ∙ search rules)

pub returns : goal.returns
returns c =
    let lowered : c.as_str.result.now ≡ str_to_ascii_lowercase c.args.key.now = search rules in
    sym (at_found c.args.self.now.pairs.items _ c.as_str.result.now _ lowered
    (sym (not_found c.as_str.result.now c.args.self.now.pairs.items (sym c.in-None.ensures))))
