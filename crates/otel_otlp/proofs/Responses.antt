-- What the bytes of a response tell.
use Rattle.std.proofs.Common.{◌≡◌, ◌≢◌, ℕ, List, [], ◌∷◌, Option, Some, None, Result, Ok, Err, refl, sym, ◌∙◌, subst}
use Rattle.std.specs.Prelude.{IfOk, IsUtf8}
use Rattle.std.specs.declared.alloc.AllocError.{AllocError}
use Rattle.serde_json.specs.Data.{Data}
use Rattle.serde_json.specs.Read.{read}
use Rattle.serde_json.specs.View.{view}
use Rattle.serde_json.specs.declared.value.Value.{Value}
use Rattle.otel_otlp.proofs.ReadErrors.{some_same}
use Rattle.otel_otlp.specs.HttpResponse.{IsPartial, Tells, IsJsonOf, SaysOfItems}
use Rattle.otel_otlp.specs.declared.otlp_http.response.Partial.{Partial}

-- the bytes tell what their value tells
read_again : (name body : List ℕ) (b : ℕ) (d : Data) (told : Option Partial)
    → IsUtf8 (b ∷ body) → read (b ∷ body) ≡ Some d
    → Tells (IsPartial name d) told → Tells (SaysOfItems name (b ∷ body)) told
read_again name body b d None text e h =
    λ p says. h p (subst (λ x. IsPartial name x p) (some_same _ d (sym says.1.1 ∙ e)) says.1.2)
read_again name body b d (Some p) text e h = (text, (d, e, h))

again : (name body : List ℕ) (value : Value) (told : Option Partial)
    → body ≢ [] → IsJsonOf body (Some value)
    → Tells (IsPartial name (view value)) told → Tells (SaysOfItems name body) told
again name [] value told some is h = absurd (some refl)
again name (b ∷ body) value told some is h =
    read_again name body b (view value) told is.0 is.1 h

-- if there was memory
pub by_value : (name body : List ℕ) (value : Value) (r : Result (Option Partial) AllocError)
    → body ≢ [] → IsJsonOf body (Some value)
    → IfOk r (Tells (IsPartial name (view value))) → IfOk r (Tells (SaysOfItems name body))
by_value name body value (Ok told) some is h = again name body value told some is h
by_value name body value (Err e) some is h = tt
