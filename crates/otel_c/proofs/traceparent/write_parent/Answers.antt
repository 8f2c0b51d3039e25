use Rattle.std.proofs.Common.{◌∙◌}
use Rattle.otel_c.proofs.Parent.{is_there, is_missing, holds_parent, parent_refused, no_parent}
use Rattle.otel_c.proofs.traceparent.write_parent.Goals as goal

pub returns-then-not-is_valid-clause-refused : goal.returns-then-not-is_valid-clause-refused
returns-then-not-is_valid-clause-refused c =
    let span = c.args.span.now in
    no_parent span _ _ (is_missing span _ c.is_valid.ensures c.if-not-is_valid.true)

pub returns-clause-header : goal.returns-clause-header
returns-clause-header c =
    let span = c.args.span.now in
    holds_parent span _ (is_there span _ c.is_valid.ensures _ c.if-not-is_valid.false
    (c.as_str.ensures.value ∙ c.in_ok-text.ensures)) _ _ c.write_found.result _ c.write_found.ensures.text

pub returns-clause-refused : goal.returns-clause-refused
returns-clause-refused c =
    let span = c.args.span.now in
    parent_refused span _ (is_there span _ c.is_valid.ensures _ c.if-not-is_valid.false
    (c.as_str.ensures.value ∙ c.in_ok-text.ensures)) _ _ c.write_found.result c.write_found.ensures.refused
