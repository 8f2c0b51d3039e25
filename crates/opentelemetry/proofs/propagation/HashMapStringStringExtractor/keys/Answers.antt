use Rattle.std.proofs.Common.{◌++◌, map, string_bytes, sym, ap, ◌∙◌}
use Rattle.std.proofs.lemmas.List.{append-nil}
use Rattle.opentelemetry.proofs.shared.Rising.{keys_sorted}
use Rattle.opentelemetry.proofs.propagation.HashMapStringStringExtractor.keys.Goals as goal

pub returns : goal.returns
returns g c =
    keys_sorted c.args.self.now c.loop-key.all.items c.sort.new.self.items c.keys-key-items.ensures.unique
    (sym (append-nil (map (λ k. k.now) c.loop-key.all.items)) ∙ ap (λ ks. map (λ k. k.now) c.loop-key.all.items ++ map string_bytes ks) (sym c.in-None.ensures.steps.0) ∙ c.loop-key.invariant)
    c.sort.ensures.permutation c.in_ok-sort.ensures.sorted
