use Rattle.std.proofs.Common.{length, arith, ap}
use Rattle.std.proofs.lemmas.List.{length_push}
use Rattle.std.proofs.lemmas.Iterator.Splits.{YieldsList-from_lines}
use Rattle.std.proofs.lemmas.Iterator.Consumers.{YieldsList-at, YieldsList-turn, YieldsList-end}
use Rattle.std.specs.Str.Lines.{lines}
use Rattle.otel_sdk.specs.EnvTexts.{variables_of}
use Rattle.otel_sdk.proofs.EnvVariableLemmas.{read_none, line_more, all_lines}
use Rattle.otel_sdk.proofs.env.variables.variables.Goals as goal

pub loop-line-init : goal.loop-line-init
loop-line-init g c = read_none g.R.VariableSource.may_be (variables_of c.new-vars.result.items) (ap variables_of c.new-vars.ensures.items)

pub loop-line-preserved : goal.loop-line-preserved
loop-line-preserved g c =
    let help = c.args.help.now in
    let road = YieldsList-at c.into_iter-line-iterator.ensures.into_iter_gives (YieldsList-from_lines help c.lines-line-items.ensures.rest) in
    let turn = YieldsList-turn road c.loop-line.yielded _ c.loop-line.yielded_by _ _ c.in-Some.line c.in-Some.is c.next.ensures.steps in
    line_more g.R.VariableSource.may_be (lines help) (length c.loop-line.yielded) _ c.in-Some.line.now
    (variables_of c.loop-line.vars.items) (variables_of c.add_variable.new.vars.items)
    (length_push c.loop-line.yielded c.in-Some.line) turn c.in_ok-add_variable.ensures c.loop-line.invariant

pub returns : goal.returns
returns g c =
    let help = c.args.help.now in
    let road = YieldsList-at c.into_iter-line-iterator.ensures.into_iter_gives (YieldsList-from_lines help c.lines-line-items.ensures.rest) in
    let t = YieldsList-end road c.loop-line.yielded _ c.loop-line.yielded_by _ _ c.in-None.is c.next.ensures.steps in
    all_lines g.R.VariableSource.may_be (lines help) (length c.loop-line.yielded) (variables_of c.loop-line.vars.items) (omega (arith, t.1)) c.loop-line.invariant
