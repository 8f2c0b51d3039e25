-- The propagators that the environment lists.
use Rattle.std.specs.Prelude.{◌≡◌, ℕ, ◌==◌, Bool, not, ◌||◌, List, [], ◌∷◌, ◌++◌, length}
use Rattle.std.specs.Prelude.{Option, Some, None, is_some, codes, refl, fold, if◌then◌else◌}
use Rattle.std.specs.List.{list_any, slice_split, flat_map}
use Rattle.otel_base.specs.Blanks.{cut_blanks}
use Rattle.otel_ids.specs.Text.{is_comma}
use Rattle.otel_sdk.specs.EnvTexts.{Variables, is_named, is_unset, text_of, warned, warning}
use Rattle.otel_sdk.specs.declared.env.propagators.EnvPropagator.{EnvPropagator}
use Rattle.otel_sdk.specs.declared.env.propagators.EnvPropagator.TheVariants.{TraceContext, Baggage}
use Rattle.otel_sdk.specs.declared.env.propagators.EnvPropagator.TheVariants.{B3, B3Multi}
use Rattle.otel_sdk.specs.declared.env.warning.EnvWarning.{EnvWarning}
use Rattle.otel_sdk.specs.declared.env.warning.Instead.{Instead}
use Rattle.otel_sdk.specs.declared.env.warning.Instead.TheVariants.{Nothing, W3cPropagators}

-- the propagator of the name, in any case
abbrev pub named : List ℕ → Option EnvPropagator
named text =
    if is_named text (codes "tracecontext") then Some TraceContext
    else (if is_named text (codes "baggage") then Some Baggage
    else (if is_named text (codes "b3") then Some B3
    else (if is_named text (codes "b3multi") then Some B3Multi else None)))

-- the propagator's number
abbrev pub place : EnvPropagator → ℕ
place TraceContext = 0
place Baggage = 1
place B3 = 2
place B3Multi = 3

-- whether the propagator is one of these
abbrev pub has : EnvPropagator → List EnvPropagator → Bool
has p known = list_any (λ q. place q == place p) known

-- these, followed by the propagator, if there is one and it isn't one of them
abbrev pub with_once : List EnvPropagator → Option EnvPropagator → List EnvPropagator
with_once known None = known
with_once known (Some p) = if has p known then known else known ++ p ∷ []

-- the texts between the commas, in order
abbrev pub pieces : List ℕ → List (List ℕ)
pieces text = slice_split is_comma text

-- these, followed by the propagator that the piece names
abbrev pub with_piece : List EnvPropagator → List ℕ → List EnvPropagator
with_piece known piece = with_once known (named (cut_blanks piece))

-- the propagators that the pieces name, each once, in order of first appearance
abbrev pub listed : List ℕ → List EnvPropagator
listed text = fold with_piece [] (pieces text)

-- whether the text names a propagator
abbrev pub has_others : List ℕ → Bool
has_others text = not (length (listed text) == 0)

-- whether the piece is `none`, but for blanks; and whether one is
abbrev pub is_none : List ℕ → Bool
is_none piece = is_named (cut_blanks piece) (codes "none")

abbrev pub has_none : List ℕ → Bool
has_none text = list_any is_none (pieces text)

-- whether the piece has more than blanks; and whether one has
abbrev pub is_given : List ℕ → Bool
is_given piece = not (is_unset (cut_blanks piece))

abbrev pub has_given : List ℕ → Bool
has_given text = list_any is_given (pieces text)

-- whether the piece is the name of a propagator, or `none` without others beside it
abbrev pub is_understood : Bool → List ℕ → Bool
is_understood others piece =
    if is_none piece then not others else is_some (named (cut_blanks piece))

-- the variable that lists them
abbrev pub variable : List ℕ
variable = codes "OTEL_PROPAGATORS"

-- whether the text names a propagator, or is `none`
abbrev pub counts : List ℕ → Bool
counts text = has_others text || has_none text

-- what counts in place of a piece that isn't understood: the defaults, if the text doesn't count
abbrev pub instead_of : Bool → Instead
instead_of counts = if counts then Nothing else W3cPropagators

-- the warning about a piece
abbrev pub piece_warnings : Bool → Instead → List ℕ → List EnvWarning
piece_warnings others instead piece =
    warned (is_understood others piece) variable (cut_blanks piece) instead

-- the warnings about the pieces, in order
abbrev pub pieces_warnings : Bool → Instead → List ℕ → List EnvWarning
pieces_warnings others instead text = flat_map (piece_warnings others instead) (pieces text)

-- the same, or the warning about a list of blanks
abbrev pub list_warnings : Bool → Bool → List ℕ → List EnvWarning
list_warnings others counts text = pieces_warnings others (instead_of counts) text
    ++ warned (has_given text) variable text W3cPropagators

-- the propagators if none is named
abbrev pub defaults : List EnvPropagator
defaults = TraceContext ∷ Baggage ∷ []

-- the propagators of the text: the defaults, if it doesn't count
abbrev pub propagators_in : List ℕ → List EnvPropagator
propagators_in text = if counts text then listed text else defaults

-- the propagators of `OTEL_PROPAGATORS`
abbrev pub propagators : Variables → List EnvPropagator
propagators vars = propagators_in (text_of variable vars)

-- the warnings about the text
abbrev pub warnings_in : List ℕ → List EnvWarning
warnings_in text = list_warnings (has_others text) (counts text) text

-- the warnings about `OTEL_PROPAGATORS`
abbrev pub propagator_warnings : Variables → List EnvWarning
propagator_warnings vars = warnings_in (text_of variable vars)

-- ---- worked rows
abbrev set_to : List ℕ → Variables
set_to text = (variable, text) ∷ []

abbrev left_out : List ℕ → List EnvWarning
left_out text = warning variable text Nothing ∷ []

unset_example : (propagators [] ≡ TraceContext ∷ Baggage ∷ []) × (propagator_warnings [] ≡ [])
unset_example = (refl, refl)

once_example : (propagators (set_to (codes " baggage , tracecontext,baggage,zipkin"))
    ≡ Baggage ∷ TraceContext ∷ [])
    × (propagator_warnings (set_to (codes " baggage , tracecontext,baggage,zipkin"))
    ≡ left_out (codes "zipkin"))
once_example = (refl, refl)

none_example : (propagators (set_to (codes "none")) ≡ [])
    × (propagator_warnings (set_to (codes "none")) ≡ [])
none_example = (refl, refl)

none_beside_example : (propagators (set_to (codes "none,b3")) ≡ B3 ∷ [])
    × (propagator_warnings (set_to (codes "none,b3")) ≡ left_out (codes "none"))
    × (propagators (set_to (codes "None,b4")) ≡ [])
    × (propagator_warnings (set_to (codes "None,b4")) ≡ left_out (codes "b4"))
none_beside_example = (refl, refl, refl, refl)

case_example : propagators (set_to (codes "TraceContext")) ≡ TraceContext ∷ []
case_example = refl

abbrev defaulted : List ℕ → List EnvWarning
defaulted text = warning variable text W3cPropagators ∷ []

unknown_example : (propagators (set_to (codes "zipkin")) ≡ defaults)
    × (propagator_warnings (set_to (codes "zipkin")) ≡ defaulted (codes "zipkin"))
    × (propagators (set_to (codes ", ,")) ≡ defaults)
    × (propagator_warnings (set_to (codes ", ,")) ≡ defaulted (codes ", ,"))
unknown_example = (refl, refl, refl, refl)
