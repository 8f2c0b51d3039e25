use Rattle.std.proofs.Common.{ℕ, List, [], ◌∷◌, ◌++◌, Bool, map, cond, sym, ap, ◌∙◌, subst, string_bytes}
use Rattle.std.proofs.lemmas.List.{append-nil}
use Rattle.otel_waterfall.specs.Drawn.{look}
use Rattle.otel_waterfall.specs.Picture.{AddsTrace, ArePictures}
use Rattle.otel_waterfall.proofs.Traces.{any_look, map_ok, pictures_more}
use Rattle.otel_waterfall.proofs.pictures.add_trace.Goals as goal

pub returns-then-appears : goal.returns-then-appears
returns-then-appears c traces p =
    let ascii = c.args.style.is_ascii in
    let width = c.args.style.width in
    let spans = map look c.args.batch.now in
    let old = string_bytes c.args.text.now in
    let known = ap (λ (b : Bool). cond b [] (c.args.trace ∷ [])) (sym (any_look c.args.trace c.args.before.now) ∙ sym c.appears.ensures ∙ c.if-appears.true) in
    subst (λ (ts : List ℕ). ArePictures ascii width spans (traces ++ ts) old) (sym known)
    (subst (λ (ts : List ℕ). ArePictures ascii width spans ts old) (sym (append-nil traces)) p)

pub returns : goal.returns
returns c =
    let ascii = c.args.style.is_ascii in
    let width = c.args.style.width in
    let spans = map look c.args.batch.now in
    let old = string_bytes c.args.text.now in
    let new = string_bytes c.push_trace.new.text in
    let anew = ap (λ (b : Bool). cond b [] (c.args.trace ∷ [])) (sym (any_look c.args.trace c.args.before.now) ∙ sym c.appears.ensures ∙ c.if-appears.false) in
    map_ok _ _ c.push_trace.result
    (λ adds traces p. subst (λ (ts : List ℕ). ArePictures ascii width spans (traces ++ ts) new) (sym anew)
    (pictures_more ascii width spans traces c.args.trace old new p
    (subst (λ (m : List ℕ). AddsTrace ascii width spans c.args.trace m new) c.in_ok-push_gap.ensures adds)))
    c.push_trace.ensures
