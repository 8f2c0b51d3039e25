-- The model of an injector into headers.
use Rattle.std.specs.Prelude.{ℕ}
use Rattle.opentelemetry.specs.Carrier.{CarrierState}
use Rattle.otel_http.specs.Headers.{Headers, texts}
use Rattle.otel_http.specs.declared.injector.HeaderInjector.{HeaderInjector}

-- the texts of headers, and the number of refusals
abbrev pub carrier : Headers → ℕ → CarrierState
carrier headers refusals = record { texts = texts headers; refusals = refusals }

-- the texts of an injector's headers, and the number of its refusals
abbrev pub state : HeaderInjector → CarrierState
state i = carrier i.headers i.refusals
