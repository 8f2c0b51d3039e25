use Rattle.std.proofs.Common.{◌≡◌, ◌++◌, ap, subst, inl, inr}
use Rattle.http.specs.Request.{head_of, body_of}
use Rattle.http1.specs.declared.client.Client.{Client}
use Rattle.http1.specs.Client.{writing}
use Rattle.http1.specs.Conn.{awaits_head}
use Rattle.http1.specs.Framing.{method_kind}
use Rattle.otel_otlp.specs.StreamClient.{Replies}
use Rattle.otel_otlp.proofs.StreamRequest.{is_request}
use Rattle.otel_otlp.proofs.StreamErrors.{passed}
use Rattle.otel_otlp.proofs.StreamFaults.{breaks_client}
use Rattle.otel_otlp.proofs.StreamText.{answers_from, opens}
use Rattle.otel_otlp.proofs.otlp_http.stream_client.StreamClientHttpClient.send_bytes.Goals as goal

pub returns-clause-message : goal.returns-clause-message
returns-clause-message g c = is_request _ _ c.in_ok-connection.ensures.written

pub returns-clause-answer : goal.returns-clause-answer
returns-clause-answer g c =
    let p = head_of c.args.request.now in
    let body = (body_of c.args.request.now).items in
    let (came, consumed, replies) = c.in_ok-response.ensures.answer in
    let asked = c.in_ok-connection.ensures.asking in
    let stream = c.self.inside.source.unread.items ++ came in
    let rest = c.read_response.new.self.unread.items in
    let now = c.read_response.new.connection in
    let told = subst (λ k. Replies k stream now c.in_ok-response.response rest) asked replies in
    let method = subst (λ k. k.method ≡ method_kind p.method) asked c.in_ok-connection.ensures.method in
    let answers = answers_from p body stream rest now c.in_ok-response.response method told in
    rw (← c.self.view_is) (came, consumed, (answers.0, opens _ _ _ _ c.is_free-self-inside.ensures answers.1))

pub returns-in_err-connection-clause-failed : goal.returns-in_err-connection-clause-failed
returns-in_err-connection-clause-failed g c =
    let e = c.in_err-connection.field-0.0 in
    rw (← c.self.view_is) (λ _. passed _ c.from_residual.result e c.from_residual.ensures.1 (inl c.in_err-connection.ensures.failed))

pub returns-in_err-response-clause-failed : goal.returns-in_err-response-clause-failed
returns-in_err-response-clause-failed g c =
    let e = c.in_err-response.field-0.0 in
    rw (← c.self.view_is) (λ _. passed _ c.from_residual-in_err-response.result e c.from_residual-in_err-response.ensures.1
    (inr (c.in_ok-connection.ensures.whole, c.in_ok-connection.ensures.flushed, c.in_err-response.ensures.failed)))

pub returns-in_err-response-clause-malformed : goal.returns-in_err-response-clause-malformed
returns-in_err-response-clause-malformed g c =
    let e = c.in_err-response.field-0.0 in
    let p = head_of c.args.request.now in
    let body = (body_of c.args.request.now).items in
    rw (← c.self.view_is) (λ _. passed _ c.from_residual-in_err-response.result e c.from_residual-in_err-response.ensures.1
    (breaks_client g.R.Read.remaining g.R.ReaderCalls.may_read p body c.self.inside.source c.read_response.new.self _ c.in_ok-connection.ensures.asking e c.in_err-response.ensures.malformed))

pub read_response-requires-clause-asked : goal.read_response-requires-clause-asked
read_response-requires-clause-asked g c = ap (λ (k : Client). awaits_head (writing k)) c.in_ok-connection.ensures.asking
