-- The parts of the line, one after another.
use Rattle.std.proofs.Common.{◌≡◌, ℕ, List, [], ◌∷◌, ◌++◌, take, ap, ◌∙◌, append_assoc, subst, chars}
use Rattle.otel_waterfall.specs.Bar.{bar_text}
use Rattle.otel_waterfall.specs.Picture.{without_last_spaces, duration_column}
use Rattle.otel_waterfall.proofs.line.span_line.Goals as goal

joined : (n d b o l₁ l₂ l₃ l₄ l₅ : List ℕ) → l₁ ≡ n → l₂ ≡ l₁ ++ d → l₃ ≡ l₂ ++ b → l₄ ≡ l₃ ++ 32 ∷ [] → l₅ ≡ l₄ ++ o → l₅ ≡ ((n ++ d) ++ b) ++ 32 ∷ o
joined n d b o l₁ l₂ l₃ l₄ l₅ e₁ e₂ e₃ e₄ e₅ =
    e₅ ∙ ap (λ (x : List ℕ). x ++ o) (e₄ ∙ ap (λ (x : List ℕ). x ++ 32 ∷ []) (e₃ ∙ ap (λ (x : List ℕ). x ++ b) (e₂ ∙ ap (λ (x : List ℕ). x ++ d) e₁)))
    ∙ append_assoc ((n ++ d) ++ b) (32 ∷ []) o

pub returns : goal.returns
returns c =
    let ascii = c.args.style.is_ascii in
    let scale = c.args.scale in
    let span = c.args.span.now in
    let kept = c.len_without_last_spaces-kept.result in
    let named = c.in_ok-line.ensures.text in
    let lasts = c.in_ok-push_duration.ensures ∙ ap (λ (x : List ℕ). c.in_ok-line.line.items ++ duration_column x) (c.as_str.ensures.value ∙ c.in_ok-duration.ensures) in
    let barred =
    c.in_ok-extend_from_slice.ensures.items
    ∙ ap (λ (x : List ℕ). c.push_duration.new.line.items ++ x)
    (c.as_slice-2.ensures.value ∙ c.in_ok-bar.ensures
    ∙ ap (λ (m : List ℕ). bar_text ascii scale.cells scale.from scale.to span.start span.end m) c.as_slice.ensures.value
    ∙ ap (λ (k : ℕ). bar_text ascii k scale.from scale.to span.start span.end span.moments.items) c.requires) in
    let ended = c.in_ok-push_text.ensures ∙ ap (λ (x : List ℕ). c.push_spaces.new.line.items ++ chars x) c.outcome_text.ensures in
    c.truncate.ensures.items
    ∙ subst (λ (xs : List ℕ). take kept xs ≡ without_last_spaces xs) c.as_slice-3.ensures.value c.len_without_last_spaces-kept.ensures
    ∙ ap without_last_spaces (joined _ _ _ _ _ _ _ _ _ named lasts barred c.in_ok-push_spaces.ensures ended)
