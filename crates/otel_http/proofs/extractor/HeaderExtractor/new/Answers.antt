use Rattle.std.proofs.Common.{◌∙◌}
use Rattle.opentelemetry.specs.Carrier.{text_map}
use Rattle.otel_http.proofs.Reading.{filled_all, filled_empty, passed_over, put_in}
use Rattle.otel_http.proofs.extractor.HeaderExtractor.new.Goals as goal

pub loop-name-init : goal.loop-name-init
loop-name-init c =
    filled_empty c.args.headers.now c.into_iter-name-iterator.result c.new-held.result.entries c.new-held.ensures.empty
    (c.into_iter-name-iterator.ensures.into_iter_gives ∙ c.keys-name-items.ensures.value)

pub loop-name-preserved : goal.loop-name-preserved
loop-name-preserved c =
    passed_over c.args.headers.now c.in-Some.name.now c.as_str.result.now c.get_all.result c.in_ok-text.field-0 c.loop-name.name-iterator c.next.new.self
    (text_map c.loop-name.held.entries) c.as_str.ensures.value c.get_all.ensures.value c.in_ok-text.ensures c.in_default.is
    c.in-Some.ensures.steps c.loop-name.invariant

pub loop-name-preserved-in_ok-insert : goal.loop-name-preserved-in_ok-insert
loop-name-preserved-in_ok-insert c =
    put_in c.args.headers.now c.in-Some.name.now c.as_str.result.now c.as_str-in-Some-2.result.now c.get_all.result c.in_ok-text.field-0
    c.in_ok-from_str.field-0 c.in-Some-2.text c.loop-name.name-iterator c.next.new.self c.loop-name.held c.insert.new.self
    c.as_str.ensures.value c.get_all.ensures.value c.in_ok-text.ensures c.in-Some-2.is c.in_ok-from_str.ensures.ok
    c.as_str-in-Some-2.ensures.value c.as_str-in-Some-2.ensures.valid.1 c.in_ok-insert.ensures.updates
    c.in-Some.ensures.steps c.loop-name.invariant

pub loop-name-preserved-in_ok-insert-2 : goal.loop-name-preserved-in_ok-insert-2
loop-name-preserved-in_ok-insert-2 c =
    put_in c.args.headers.now c.in-Some.name.now c.as_str.result.now c.as_str-in-Some-2.result.now c.get_all.result c.in_ok-text.field-0
    c.in_ok-from_str.field-0 c.in-Some-2.text c.loop-name.name-iterator c.next.new.self c.loop-name.held c.insert.new.self
    c.as_str.ensures.value c.get_all.ensures.value c.in_ok-text.ensures c.in-Some-2.is c.in_ok-from_str.ensures.ok
    c.as_str-in-Some-2.ensures.value c.as_str-in-Some-2.ensures.valid.1 c.in_ok-insert.ensures.updates
    c.in-Some.ensures.steps c.loop-name.invariant

pub returns : goal.returns
returns c =
    filled_all c.args.headers.now c.loop-name.name-iterator (text_map c.loop-name.held.entries) c.in-None.ensures.steps.0 c.loop-name.invariant
