-- The line of the span or of the absent parent at the row's place, if it is in the batch.
use Rattle.std.proofs.Common.{ℕ, List, ◌++◌, Bool, length, sym, ap, ◌∙◌, refl, arith, string_bytes}
use Rattle.std.proofs.lemmas.Bool.Decides.{nat_tests}
use Rattle.std.proofs.lemmas.List.{append-nil}
use Rattle.std.proofs.lemmas.Option.{slice_get_read, slice_get_past}
use Rattle.otel_waterfall.specs.Drawn.{look}
use Rattle.otel_waterfall.specs.Picture.{line_text, span_line}
use Rattle.otel_waterfall.proofs.Traces.{row_of_some, row_of_none}
use Rattle.otel_waterfall.proofs.pictures.push_row.Goals as goal

pub returns-in_ok-push_line-in-Span-clause-text : goal.returns-in_ok-push_line-in-Span-clause-text
returns-in_ok-push_line-in-Span-clause-text c =
    let batch = c.args.batch.now in
    let place = c.in-Span.place in
    let span = c.in-Some.span.now in
    let old = string_bytes c.args.text.now in
    let style = c.args.style in
    let scale = c.args.scale in
    let found = c.in-Some.ensures.lookup in
    let at = slice_get_read batch (length batch) place span refl (let h = found.0 in grind (arith, nat_tests, h)) found.1 in
    rw c.in-Span.is
    (c.in_ok-push_line-in-Span.ensures
    ∙ ap (λ (x : List ℕ). old ++ line_text x)
    (c.as_slice-in-Some.ensures.value ∙ c.in_ok-line-in-Span.ensures
    ∙ ap (λ (f : List Bool). span_line style.is_ascii style.width scale.from scale.to (look span) f) c.as_slice.ensures.value)
    ∙ ap (λ (x : List ℕ). old ++ x) (sym (row_of_some _ batch place span at)))

pub returns-in_default-clause-text : goal.returns-in_default-clause-text
returns-in_default-clause-text c =
    let batch = c.args.batch.now in
    let place = c.in-Span.place in
    let old = string_bytes c.args.text.now in
    let found = c.in_default.ensures.lookup in
    let at = slice_get_past batch place (let h = found.0 in grind (arith, nat_tests, h)) in
    rw c.in-Span.is (sym (append-nil old) ∙ ap (λ (x : List ℕ). old ++ x) (sym (row_of_none _ batch place at)))

pub returns-in_ok-push_line-in-Absent-clause-text : goal.returns-in_ok-push_line-in-Absent-clause-text
returns-in_ok-push_line-in-Absent-clause-text c =
    let batch = c.args.batch.now in
    let place = c.in-Absent.child in
    let child = c.in-Some-get.child.now in
    let old = string_bytes c.args.text.now in
    let found = c.in-Some-get.ensures.lookup in
    let at = slice_get_read batch (length batch) place child refl (let h = found.0 in grind (arith, nat_tests, h)) found.1 in
    rw c.in-Absent.is
    (c.in_ok-push_line-in-Absent.ensures
    ∙ ap (λ (x : List ℕ). old ++ line_text x) (c.as_slice-in-Some-get.ensures.value ∙ c.in_ok-line-in-Absent.ensures)
    ∙ ap (λ (x : List ℕ). old ++ x) (sym (row_of_some _ batch place child at)))

pub returns-in_default-get-clause-text : goal.returns-in_default-get-clause-text
returns-in_default-get-clause-text c =
    let batch = c.args.batch.now in
    let place = c.in-Absent.child in
    let old = string_bytes c.args.text.now in
    let found = c.in_default-get.ensures.lookup in
    let at = slice_get_past batch place (let h = found.0 in grind (arith, nat_tests, h)) in
    rw c.in-Absent.is (sym (append-nil old) ∙ ap (λ (x : List ℕ). old ++ x) (sym (row_of_none _ batch place at)))
