use Rattle.std.proofs.Common.{◌≡◌, Bool, true, false, not, [], ◌++◌, ◌==◌, if◌then◌else◌, codes, length, map, refl, sym, ap, ◌∙◌, subst}
use Rattle.std.proofs.lemmas.List.{length-map, map-append}
use Rattle.otel_base.specs.View.{pairs_view}
use Rattle.otel_otlp.specs.Json.{list_member}
use Rattle.otel_otlp.specs.Logs.{attribute, attributes, target_attribute}
use Rattle.otel_otlp.specs.Tokens.{HasItems, HasMembers}
use Rattle.otel_otlp.proofs.LogTokens.{and_items}
use Rattle.otel_otlp.proofs.Tokens.{last_token, whole_list}
use Rattle.otel_otlp.proofs.logs.put_attributes.Goals as goal

by_not : (b : Bool) → not b ≡ true → b ≡ false
by_not false h = refl
by_not true h = sym h

pub returns : goal.returns
returns c =
    let l = c.args.log.now in
    let held = c.as_slice-held.result.now in
    let target = c.log.inside.target in
    let all = attributes l in
    let same : map attribute (pairs_view held) ++ map attribute (target_attribute (pairs_view held) target) ≡ map attribute all =
    sym (map-append attribute (pairs_view held) (target_attribute (pairs_view held) target))
    ∙ ap (λ xs. map attribute (pairs_view xs ++ target_attribute (pairs_view xs) target)) c.as_slice-held.ensures.value
    ∙ ap (λ s. map attribute (attributes s)) c.log.view_is in
    let some : (length (map attribute all) == 0) ≡ false =
    ap (λ n. n == 0) (length-map all attribute) ∙ by_not (length all == 0) (sym c.has_attributes.ensures ∙ c.if-not-has_attributes.false) in
    last_token c.end_array.result c.end_array.ensures (λ ends.
    subst (λ (b : Bool). HasMembers c.args.out.now c.end_array.new.self (if b then [] else list_member (codes "attributes") (map attribute all))) (sym some)
    (whole_list c.in_ok-begin_list.ensures (subst (HasItems c.begin_list.new.out c.add_target.new.out) same (and_items c.in_ok-pairs.ensures c.in_ok-add_target.ensures)) ends))
