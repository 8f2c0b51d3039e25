use Rattle.std.proofs.Common.{rules, ◌≡◌, ◌∙◌, ap, map, string_bytes}
use Rattle.std.specs.Str.{bytes_eq}
use Rattle.std.proofs.lemmas.List.{take_all}
use Rattle.std.proofs.lemmas.List.Filters.{dedup_is}
use Rattle.otel_examples.proofs.HeaderLemmas.{keys_once}
use Rattle.otel_examples.proofs.api.headers.HeadersExtractor.keys.Goals as goal

pub returns : goal.returns
returns c =
    let names : map (λ x. x.now) c.loop-name.names.items ≡ map (λ e. string_bytes e.0) c.args.self.now.pairs.items =
    c.loop-name.invariant ∙ ap (map (λ e. string_bytes e.0)) (take_all c.loop-name.name-index c.args.self.now.pairs.items (search rules)) in
    keys_once c.args.self.now.pairs.items c.loop-name.names.items c.sort.new.self.items c.dedup.new.self.items
    names c.sort.ensures.permutation c.in_ok-sort.ensures.sorted
    (dedup_is (λ x y. bytes_eq x.now y.now) c.sort.new.self.items c.dedup.new.self.items c.dedup.ensures.filtered)
