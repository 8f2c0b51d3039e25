use Rattle.std.proofs.Common.{◌≡◌, List, length, map, take, Result, Ok, Err, OnErr, sym, ap, ◌∙◌, map-id, rules}
use Rattle.std.proofs.lemmas.List.{take-map}
use Rattle.std.proofs.lemmas.Iterator.Adapters.{YieldsList-from_vec}
use Rattle.std.proofs.lemmas.Iterator.Consumers.{YieldsList-so_far, YieldsList-turn}
use Rattle.otel_base.specs.View.{attribute_of}
use Rattle.otel_base.specs.declared.key_value.KeyValue.{KeyValue}
use Rattle.otel_sdk_base.specs.Attributes as spec
use Rattle.otel_sdk_base.proofs.attributes.put_all.Goals as goal

-- a fact that holds anyway holds after an error
on_err : {X E : Type 0} (P : Type 0) (r : Result X E) → P → OnErr r P
on_err P (Ok x) p = tt
on_err P (Err e) p = p

-- the attributes before the failure were put
first_put : (old before after yielded given : List KeyValue) → after ≡ before
    → map attribute_of before ≡ spec.put_all (map attribute_of old) (map attribute_of yielded) → map (λ x. x) yielded ≡ take (length yielded) given
    → map attribute_of after ≡ spec.put_all (map attribute_of old) (take (length yielded) (map attribute_of given))
first_put old before after yielded given same put part =
    ap (map attribute_of) same ∙ put
    ∙ ap (λ (xs : List KeyValue). spec.put_all (map attribute_of old) (map attribute_of xs)) (sym (map-id yielded) ∙ part)
    ∙ ap (spec.put_all (map attribute_of old)) (sym (take-map attribute_of (length yielded) given))

pub returns-in_err-put-clause-err : goal.returns-in_err-put-clause-err
returns-in_err-put-clause-err c =
    let given = c.args.given.items in
    let l = c.loop-attribute in
    let turn = YieldsList-turn (YieldsList-from_vec {s = c.into_iter-attribute-iterator.result} given (search rules) (search rules))
    l.yielded l.attribute-iterator l.yielded_by c.next.result c.next.new.self c.in-Some.attribute c.in-Some.is c.next.ensures.steps in
    let part = YieldsList-so_far (YieldsList-from_vec {s = c.into_iter-attribute-iterator.result} given (search rules) (search rules))
    l.yielded l.attribute-iterator l.yielded_by in
    on_err _ c.from_residual.result (
      length l.yielded,
      turn.0,
      first_put c.args.attributes.now.items l.attributes.items c.put.new.attributes.items l.yielded given c.in_err-put.ensures.err l.invariant part,
    )
