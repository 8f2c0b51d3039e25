-- At the end the characters so far are all of them.
use Rattle.std.proofs.Common.{◌++◌, sym, ap, ◌∙◌, map-id, string_bytes}
use Rattle.std.specs.List.{flat_map}
use Rattle.std.proofs.lemmas.Iterator.{YieldsList-from_chars}
use Rattle.std.proofs.lemmas.Iterator.Consumers.{YieldsList-end}
use Rattle.otel_waterfall.specs.Escape as spec
use Rattle.otel_waterfall.proofs.page.escape.push_escaped.Goals as goal

pub returns : goal.returns
returns c =
    let end = YieldsList-end (YieldsList-from_chars c.args.value.now c.utf8.value cc) c.loop-c.yielded _ c.loop-c.yielded_by _ _ c.in-None.is c.next.ensures.steps in
    c.loop-c.invariant ∙ ap (λ xs. string_bytes c.args.text.now ++ flat_map spec.char_text xs) (sym (map-id c.loop-c.yielded) ∙ end.0)
