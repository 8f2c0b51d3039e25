-- The names of the span at the place, if it is among the spans.
use Rattle.std.proofs.Common.{ℕ, List, ◌++◌, length, sym, ap, ◌∙◌, refl, arith, string_bytes}
use Rattle.std.specs.Prelude.{slice_get}
use Rattle.std.proofs.lemmas.Bool.Decides.{nat_tests}
use Rattle.std.proofs.lemmas.List.{append-nil}
use Rattle.std.proofs.lemmas.Option.{slice_get_read, slice_get_past}
use Rattle.otel_waterfall.specs.PageRow.{names}
use Rattle.otel_waterfall.proofs.Joins.{some_of, none_of}
use Rattle.otel_waterfall.proofs.page.push_title.Goals as goal

pub returns-in_ok-push_names : goal.returns-in_ok-push_names
returns-in_ok-push_names c =
    let spans = c.args.spans.now in
    let found = c.in-Some.ensures.lookup in
    let at = slice_get_read spans (length spans) c.args.place c.in-Some.span.now refl (let h = found.0 in grind (arith, nat_tests, h)) found.1 in
    c.in_ok-push_names.ensures ∙ ap (λ (x : List ℕ). string_bytes c.args.text.now ++ x) (sym (some_of names (slice_get spans c.args.place) c.in-Some.span.now at))

pub returns-in_default : goal.returns-in_default
returns-in_default c =
    let spans = c.args.spans.now in
    let old = string_bytes c.args.text.now in
    let found = c.in_default.ensures.lookup in
    let at = slice_get_past spans c.args.place (let h = found.0 in grind (arith, nat_tests, h)) in
    sym (append-nil old) ∙ ap (λ (x : List ℕ). old ++ x) (sym (none_of names (slice_get spans c.args.place) at))
