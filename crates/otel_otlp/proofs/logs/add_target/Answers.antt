use Rattle.std.proofs.Common.{List, ℕ, [], ◌∷◌, Bool, if◌then◌else◌, codes, map, Option, sym, ◌∙◌, subst}
use Rattle.otel_base.specs.AnyValue as any
use Rattle.otel_base.specs.View.{pairs_view}
use Rattle.otel_otlp.specs.Common.{pair, text_value}
use Rattle.otel_otlp.specs.Logs.{attribute, target_attribute}
use Rattle.otel_otlp.specs.Tokens.{WritesItems}
use Rattle.otel_otlp.proofs.Tokens.{last_token, no_items_yet, one_more_item, whole_pair}
use Rattle.otel_otlp.proofs.logs.add_target.Goals as goal

pub returns : goal.returns
returns c =
    let r = c.end_object.result in
    let old = c.args.out.now in
    let new = c.end_object.new.self in
    let held = pairs_view c.args.held.now in
    let key = codes "log.target" in
    subst (λ (o : Option (List ℕ)). WritesItems r old new (map attribute (target_attribute held o))) (sym c.in-Some.is)
    (subst (λ (b : Bool). WritesItems r old new (map attribute (if b then [] else (key, any.text c.in-Some.target) ∷ [])))
    (sym (sym c.has_target.ensures ∙ c.if-has_target.false))
    (subst (λ (s : List ℕ). WritesItems r old new (pair key (text_value s) ∷ [])) c.as_str.ensures
    (last_token r c.end_object.ensures (λ ends.
    one_more_item (no_items_yet old) (whole_pair c.in_ok-begin_pair.ensures c.in_ok-text_value.ensures ends)))))
