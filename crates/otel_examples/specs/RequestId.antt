-- The field that the propagator of a request's id sets and reads.
use Rattle.std.specs.Prelude.{ℕ, List, [], ◌∷◌, Option, Some, None, codes}
use Rattle.std.specs.Option.{option_map_or}
use Rattle.otel_base.specs.AnyValue.{Tree, integer, text, boolean, bytes, list, map as map_tree}
use Rattle.otel_context.specs.Context.{ContextRecord, get, with_value}
use Rattle.opentelemetry.specs.Carrier as carrier
use Rattle.opentelemetry.specs.Carrier.{Pairs, TextMap}

-- the text of a value tree, if it is one
abbrev pub text_in : Option Tree → Option (List ℕ)
text_in None = None
text_in (Some (integer n)) = None
text_in (Some (text t)) = Some t
text_in (Some (boolean b)) = None
text_in (Some (bytes bs)) = None
text_in (Some (list ts)) = None
text_in (Some (map_tree es)) = None

-- the request id of a context: its entry `request.id`, if that is a text
abbrev pub id_of : ContextRecord → Option (List ℕ)
id_of context = text_in (get context (codes "request.id"))

-- the only field
abbrev pub fields : List (List ℕ)
fields = codes "x-request-id" ∷ []

-- the field with the context's id, if it has one
abbrev pub pairs : ContextRecord → Pairs
pairs context = option_map_or (λ id. (codes "x-request-id", id) ∷ []) (id_of context) []

-- the context with the id that the texts have, if they have one
abbrev pub extracted : ContextRecord → TextMap → ContextRecord
extracted context texts =
    option_map_or (λ id. with_value context (codes "request.id") (text id))
    (carrier.get texts (codes "x-request-id")) context
