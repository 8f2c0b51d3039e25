use Rattle.std.proofs.Common.{◌≡◌, ◌<◌, ◌^◌, length, rules, sym, subst}
use Rattle.http.specs.Request.{head_of, body_of}
use Rattle.http1.specs.Head.{pairs}
use Rattle.http1.specs.Client.{new_client}
use Rattle.otel_otlp.specs.StreamClient.{limits, headers_of, origin_form, CannotWrite}
use Rattle.otel_otlp.proofs.StreamRequest.{nothing_refused, writable, takes_head, takes_end}
use Rattle.otel_otlp.proofs.StreamErrors.{refused_by}
use Rattle.otel_otlp.proofs.otlp_http.stream_client.request.write_request.Goals as goal

pub returns-clause-written : goal.returns-clause-written
returns-clause-written c =
    let p = head_of c.args.request.now in
    let body = (body_of c.args.request.now).items in
    let connection : c.args.connection.now ≡ new_client limits = c.requires in
    let method : c.as_bytes-method.result.now ≡ p.method = search rules in
    let target : c.as_bytes.result.now ≡ origin_form p.uri = search rules in
    let headers : pairs c.deref.result.now ≡ headers_of p = search rules in
    let content : c.as_slice-body.result.now ≡ body = search rules in
    let short : length body < 2 ^ 64 = search rules in
    let head = nothing_refused _ _ _ _ _ c.write_request.ensures.outcome c.in_default.is in
    let sent = nothing_refused _ _ _ _ _ c.write_data.ensures.outcome c.in_default-write_data.is in
    let ended = nothing_refused _ _ _ _ _ c.write_end.ensures.outcome c.in_default-write_end.is in
    writable p body
    (rw (connection, method, target, headers, content) at head)
    short
    (rw (c.in_default.ensures.next, connection, method, headers, content) at sent)
    (rw (c.in_default-write_data.ensures.counted, c.in_default.ensures.next, connection, method, headers, content) at ended)

pub returns-in-Err-clause-refused : goal.returns-in-Err-clause-refused
returns-in-Err-clause-refused c =
    let p = head_of c.args.request.now in
    let body = (body_of c.args.request.now).items in
    let connection : c.args.connection.now ≡ new_client limits = c.requires in
    let method : c.as_bytes-method.result.now ≡ p.method = search rules in
    let target : c.as_bytes.result.now ≡ origin_form p.uri = search rules in
    let headers : pairs c.deref.result.now ≡ headers_of p = search rules in
    let content : c.as_slice-body.result.now ≡ body = search rules in
    subst (CannotWrite p body) (sym c.refusal.ensures)
    (refused_by p body _ _ _ _ c.in-Err.error c.write_request.ensures.outcome c.in-Err.is
    (λ w. rw (connection, method, target, headers, content) (takes_head p body w)))

pub returns-in-Err-write_end-clause-refused : goal.returns-in-Err-write_end-clause-refused
returns-in-Err-write_end-clause-refused c =
    let p = head_of c.args.request.now in
    let body = (body_of c.args.request.now).items in
    let connection : c.args.connection.now ≡ new_client limits = c.requires in
    let method : c.as_bytes-method.result.now ≡ p.method = search rules in
    let target : c.as_bytes.result.now ≡ origin_form p.uri = search rules in
    let headers : pairs c.deref.result.now ≡ headers_of p = search rules in
    let content : c.as_slice-body.result.now ≡ body = search rules in
    subst (CannotWrite p body) (sym c.refusal-in-Err-write_end.ensures)
    (refused_by p body _ _ _ _ c.in-Err-write_end.error c.write_end.ensures.outcome c.in-Err-write_end.is
    (λ w. rw (c.in_default-write_data.ensures.counted, c.in_default.ensures.next, connection, method, headers, content) (takes_end p body w)))
