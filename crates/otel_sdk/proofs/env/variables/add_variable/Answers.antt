use Rattle.std.proofs.Common.{[], Option, Some, None, sym, subst, string_bytes}
use Rattle.std.proofs.lemmas.List.{append-nil}
use Rattle.std.specs.Option.{option_map}
use Rattle.otel_sdk.specs.EnvTexts.{variables_of}
use Rattle.otel_sdk.specs.EnvVariables.{if_set}
use Rattle.otel_sdk.proofs.EnvVariableLemmas.{without_name, with_name, with_variable}
use Rattle.otel_sdk.proofs.env.variables.add_variable.Goals as goal

pub returns-then-is_empty : goal.returns-then-is_empty
returns-then-is_empty g c = (
  [],
  without_name g.R.VariableSource.may_be c.args.line.now c.first_word-name.result.now c.first_word-name.ensures c.if-is_empty.ensures,
  sym (append-nil (variables_of c.args.vars.now.items)),
)

pub returns-in_ok-push : goal.returns-in_ok-push
returns-in_ok-push g c =
    let word = c.first_word-name.result.now in
    let read = subst (λ (o : Option _). g.R.VariableSource.may_be word (option_map string_bytes o)) c.in-Some.is c.in_ok-text.ensures in
    let text = string_bytes c.in-Some.text in
    let added = with_variable c.args.vars.now.items c.push.new.self.items c.in_ok-from_str.field-0 c.in-Some.text word c.in_ok-push.ensures.items c.in_ok-from_str.ensures.ok in
    (if_set word (Some text), with_name g.R.VariableSource.may_be c.args.line.now word (Some text) c.first_word-name.ensures c.if-is_empty.ensures read, added)

pub returns-in_default : goal.returns-in_default
returns-in_default g c =
    let word = c.first_word-name.result.now in
    let read = subst (λ (o : Option _). g.R.VariableSource.may_be word (option_map string_bytes o)) c.in_default.is c.in_ok-text.ensures in (
      [],
      with_name g.R.VariableSource.may_be c.args.line.now word None c.first_word-name.ensures c.if-is_empty.ensures read,
      sym (append-nil (variables_of c.args.vars.now.items)),
    )
