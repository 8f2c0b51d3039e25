-- The requests that a client was asked to send, and its answers.
use Rattle.std.specs.Prelude.{ℕ, Vec, Result}
use Rattle.std.specs.declared.alloc.Global.{Global}
use Rattle.http.specs.declared.request.Request.{Request}
use Rattle.http.specs.declared.response.Response.{Response}
use Rattle.otel_otlp.specs.declared.otlp_http.client.HttpError.{HttpError}

-- a request whose body is bytes
abbrev pub Sent : Type 0
Sent = Request (Vec ℕ Global)

-- a response whose body is bytes
abbrev pub Received : Type 0
Received = Response (Vec ℕ Global)

-- the response, or the reason why none came
abbrev pub Answer : Type 0
Answer = Result Received HttpError
