-- The moments of events.
use Rattle.std.proofs.Common.{◌≡◌, List, [], ◌∷◌, map, refl, ap}
use Rattle.opentelemetry.specs.View.{event_of}
use Rattle.opentelemetry.specs.declared.trace.event.Event.{Event}

-- an event has the moment of its field in contracts too
pub moments_are : (es : List Event) → map (λ e. e.timestamp) (map event_of es) ≡ map (λ e. e.timestamp) es
moments_are [] = refl
moments_are (e ∷ es) = ap (λ ts. e.timestamp ∷ ts) (moments_are es)
