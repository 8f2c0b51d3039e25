use Rattle.std.proofs.Common.{length, arith}
use Rattle.std.proofs.lemmas.List.{length_push}
use Rattle.std.proofs.lemmas.Iterator.Splits.{YieldsList-from_lines}
use Rattle.std.proofs.lemmas.Iterator.Consumers.{YieldsList-at, YieldsList-turn, YieldsList-end}
use Rattle.std.specs.Str.Lines.{lines}
use Rattle.otel_sdk.specs.EnvTexts.{variables_of}
use Rattle.otel_sdk.specs.EnvUnsupported as spec
use Rattle.otel_sdk.proofs.EnvLemmas.{warned_more, warned_all}
use Rattle.otel_sdk.proofs.env.unsupported.warn_of_variables.Goals as goal

pub loop-name-preserved : goal.loop-name-preserved
loop-name-preserved c =
    let names = lines c.args.names.now in
    let road = YieldsList-at c.into_iter-name-iterator.ensures.into_iter_gives (YieldsList-from_lines c.args.names.now c.lines-name-items.ensures.rest) in
    let turn = YieldsList-turn road c.loop-name.yielded _ c.loop-name.yielded_by _ _ c.in-Some.name c.in-Some.is c.next.ensures.steps in
    warned_more (spec.variable_warnings (variables_of c.args.vars.now)) names (length c.loop-name.yielded) _ c.in-Some.name.now c.args.warnings.now.items c.loop-name.warnings.items _ (length_push c.loop-name.yielded c.in-Some.name) turn c.in_ok-warn_of_variable.ensures c.loop-name.invariant

pub returns : goal.returns
returns c =
    let names = lines c.args.names.now in
    let road = YieldsList-at c.into_iter-name-iterator.ensures.into_iter_gives (YieldsList-from_lines c.args.names.now c.lines-name-items.ensures.rest) in
    let t = YieldsList-end road c.loop-name.yielded _ c.loop-name.yielded_by _ _ c.in-None.is c.next.ensures.steps in
    warned_all (spec.variable_warnings (variables_of c.args.vars.now)) names (length c.loop-name.yielded) c.args.warnings.now.items c.loop-name.warnings.items (omega (arith, t.1)) c.loop-name.invariant
