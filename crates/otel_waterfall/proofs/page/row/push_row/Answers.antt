-- The row of the span or of the absent parent at the row's place, if it is among the spans.
use Rattle.std.proofs.Common.{ℕ, List, ◌++◌, length, sym, ap, ◌∙◌, refl, arith, string_bytes}
use Rattle.std.specs.Prelude.{slice_get}
use Rattle.std.proofs.lemmas.Bool.Decides.{nat_tests}
use Rattle.std.proofs.lemmas.List.{append-nil}
use Rattle.std.proofs.lemmas.Option.{slice_get_read, slice_get_past}
use Rattle.otel_waterfall.specs.PageRow.{span, absent}
use Rattle.otel_waterfall.proofs.Joins.{some_of, none_of}
use Rattle.otel_waterfall.proofs.page.row.push_row.Goals as goal

pub returns-in_ok-push_span-in-Span : goal.returns-in_ok-push_span-in-Span
returns-in_ok-push_span-in-Span c =
    let spans = c.args.spans.now in
    let place = c.in-Span.place in
    let found = c.in-Some.ensures.lookup in
    let at = slice_get_read spans (length spans) place c.in-Some.span.now refl (let h = found.0 in grind (arith, nat_tests, h)) found.1 in
    rw c.in-Span.is
    (c.in_ok-push_span-in-Span.ensures
    ∙ ap (λ (x : List ℕ). string_bytes c.args.text.now ++ x) (sym (some_of (span c.args.scale.cells c.args.scale.from c.args.scale.to c.in-Span.depth) (slice_get spans place) c.in-Some.span.now at)))

pub returns-in_default : goal.returns-in_default
returns-in_default c =
    let spans = c.args.spans.now in
    let place = c.in-Span.place in
    let old = string_bytes c.args.text.now in
    let found = c.in_default.ensures.lookup in
    let at = slice_get_past spans place (let h = found.0 in grind (arith, nat_tests, h)) in
    rw c.in-Span.is (sym (append-nil old) ∙ ap (λ (x : List ℕ). old ++ x) (sym (none_of (span c.args.scale.cells c.args.scale.from c.args.scale.to c.in-Span.depth) (slice_get spans place) at)))

pub returns-in_ok-push_absent-in-Absent : goal.returns-in_ok-push_absent-in-Absent
returns-in_ok-push_absent-in-Absent c =
    let spans = c.args.spans.now in
    let place = c.in-Absent.child in
    let found = c.in-Some-get.ensures.lookup in
    let at = slice_get_read spans (length spans) place c.in-Some-get.child.now refl (let h = found.0 in grind (arith, nat_tests, h)) found.1 in
    rw c.in-Absent.is
    (c.in_ok-push_absent-in-Absent.ensures ∙ ap (λ (x : List ℕ). string_bytes c.args.text.now ++ x) (sym (some_of absent (slice_get spans place) c.in-Some-get.child.now at)))

pub returns-in_default-get : goal.returns-in_default-get
returns-in_default-get c =
    let spans = c.args.spans.now in
    let place = c.in-Absent.child in
    let old = string_bytes c.args.text.now in
    let found = c.in_default-get.ensures.lookup in
    let at = slice_get_past spans place (let h = found.0 in grind (arith, nat_tests, h)) in
    rw c.in-Absent.is (sym (append-nil old) ∙ ap (λ (x : List ℕ). old ++ x) (sym (none_of absent (slice_get spans place) at)))
