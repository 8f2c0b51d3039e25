use Rattle.std.proofs.Common.{ℕ, List, ◌++◌, ap, ◌∙◌, codes, string_bytes}
use Rattle.otel_ids.specs.Ids.{id_text}
use Rattle.otel_sdk_span.specs.SpanData.{SpanRecord}
use Rattle.otel_waterfall.specs.PageRow as spec
use Rattle.otel_waterfall.proofs.Joins.{says}
use Rattle.otel_waterfall.proofs.page.row.push_absent.Goals as goal

pub returns : goal.returns
returns c =
    let row = λ (w : List ℕ) (id : ℕ). codes "<p class=absent>" ++ (w ++ (codes " parent " ++ (id_text 16 id ++ codes "</p>"))) in
    says c.push_html.result (string_bytes c.args.text.now) c.as_str.result.now (spec.absent c.args.child.now) (string_bytes c.push_html.new.text)
    (c.as_str.ensures.value ∙ c.in_ok-row.ensures.ok
    ∙ ap (λ (w : List ℕ). row w c.child.inside.parent_span_id) c.absence-word.ensures
    ∙ ap (λ (d : SpanRecord). row (spec.absence d.parent_span_is_remote) d.parent_span_id) c.child.view_is)
    c.push_html.ensures
