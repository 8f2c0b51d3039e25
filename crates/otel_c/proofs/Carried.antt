-- The parts of the effect of a call on a context make up the whole.
use Rattle.std.proofs.Common.{◌≡◌, ◌∙◌, ap, Option, Some}
use Rattle.otel_context.specs.Context.{ContextRecord}
use Rattle.opentelemetry.specs.Carrier.{TextMap, Sets}
use Rattle.otel_http.specs.Headers.{Headers, texts}
use Rattle.otel_propagators.specs.TraceContext.{trace_pairs, trace_extracted}
use Rattle.otel_propagators.specs.BaggagePropagator.{baggage_pairs, baggage_extracted}
use Rattle.otel_c.specs.declared.object.Object.{Object}
use Rattle.otel_c.specs.Object.{headers_of, context_of}
use Rattle.otel_c.specs.Context.{SetsBoth, Extracts, Injects, extracted, cleared}

pub both : (context : ContextRecord) (old middle new : TextMap) → Sets old (trace_pairs context) middle
    → Sets middle (baggage_pairs context) new → SetsBoth context old new
both context old middle new trace baggage =
    record { middle = middle; trace = trace; baggage = baggage }

pub in_turn : (context traced given : ContextRecord) (read there : TextMap) → read ≡ there
    → traced ≡ trace_extracted context read → given ≡ baggage_extracted traced read
    → given ≡ extracted context there
in_turn context traced given read there same first second =
    second ∙ (ap (λ (c : ContextRecord). baggage_extracted c read) first
    ∙ ap (λ (t : TextMap). extracted context t) same)

pub extracts : (object old new : Option Object) (headers : Headers) (context : ContextRecord)
    → headers_of object ≡ Some headers → context_of old ≡ Some context
    → context_of new ≡ Some (extracted context (texts headers)) → Extracts object old new
extracts object old new headers context carrier from into =
    record { headers = headers; context = context; carrier = carrier; from = from; into = into }

pub injects : (object old new : Option Object) (context : ContextRecord) (before after : Headers)
    → context_of object ≡ Some context → headers_of old ≡ Some before
    → headers_of new ≡ Some after → SetsBoth context (texts (cleared before)) (texts after)
    → Injects object old new
injects object old new context before after from had has sets = record {
  context = context;
  from = from;
  before = before;
  after = after;
  had = had;
  has = has;
  sets = sets;
}
