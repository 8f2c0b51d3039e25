use Rattle.std.proofs.Common.{◌≡◌, ◌↔◌, IsTrue, Bool, List, ℕ, [], ◌∷◌, ◌++◌, ap, ◌∙◌, append_assoc, subst}
use Rattle.std.proofs.KnownBytes.{Consumes-trans}
use Rattle.http1.specs.Client.{IsIdle}
use Rattle.http1.specs.ServerTrace.{SeenBody, no_body}
use Rattle.http1.specs.ClientTrace.{Trace}
use Rattle.otel_otlp.specs.StreamClient.{with_body, Comes, IsReadError, LacksAnswer, Breaks}
use Rattle.otel_otlp.proofs.StreamErrors.{passed, read_fault}
use Rattle.otel_otlp.proofs.StreamFaults.{breaks_after, comes_lacks}
use Rattle.otel_otlp.proofs.otlp_http.stream_client.source.Source.read_response.Goals as goal

pub returns-clause-answer : goal.returns-clause-answer
returns-clause-answer g c =
    let (begun, more) = c.in_ok-start.ensures.gains in
    let (first, before, h) = c.in_ok-parts.ensures.head in
    let (came, then, b) = c.in_ok-body.ensures.body in
    let body : SeenBody = record { bytes = c.in_ok-body.body.items; trailers = b.trailers } in
    let unread = c.read_body.new.self.unread.items in
    let old = c.args.self.now.unread.items in
    let trace = h.goes_on came _ unread b.trace in
    let stream : (c.start.new.self.unread.items ++ first) ++ came ≡ old ++ (begun ++ (first ++ came)) =
    ap (λ (xs : List ℕ). (xs ++ first) ++ came) more.0 ∙ append_assoc (old ++ begun) first came ∙ append_assoc old begun (first ++ came) in (
      begun ++ (first ++ came),
      Consumes-trans _ _ _ begun (first ++ came) more.1 (Consumes-trans _ _ _ first came before then),
      record {
        interim = h.interim;
        are_interim = h.are_interim;
        last = with_body h.head body;
        is_final = h.is_final;
        method = h.method;
        parts = rw c.from_parts.ensures.head (record { status = h.parts.status; version = h.parts.version; headers = h.parts.headers });
        body = ap (λ v. v.items) c.from_parts.ensures.body;
        within = c.in_ok-body.ensures.within;
        keeps = subst (λ (b : Bool). IsIdle c.read_body.new.connection ↔ IsTrue b) h.keeps c.in_ok-body.ensures.keeps;
        trace = subst (λ (s : List ℕ). Trace c.args.connection.now s (record { body = no_body; responses = h.interim ++ with_body h.head body ∷ [] }) unread) stream trace;
      },
    )

pub returns-in_err-parts-clause-malformed : goal.returns-in_err-parts-clause-malformed
returns-in_err-parts-clause-malformed g c =
    let may = g.R.ReaderCalls.may_read in
    let (begun, more) = c.in_ok-start.ensures.gains in
    let e = c.in_err-parts.field-0.0 in
    passed (Breaks g.R.Read.remaining c.args.self.now c.read_head.new.self (LacksAnswer may c.args.connection.now)) c.from_residual-in_err-parts.result e c.from_residual-in_err-parts.ensures.1
    (breaks_after g.R.Read.remaining c.args.self.now c.start.new.self c.read_head.new.self (LacksAnswer may c.args.connection.now) (LacksAnswer may c.args.connection.now) begun more.1
    (λ came h. subst (λ (xs : List ℕ). LacksAnswer may c.args.connection.now (xs ++ came)) more.0 h)
    e c.in_err-parts.ensures.malformed)

pub returns-in_err-body-clause-malformed : goal.returns-in_err-body-clause-malformed
returns-in_err-body-clause-malformed g c =
    let may = g.R.ReaderCalls.may_read in
    let (begun, more) = c.in_ok-start.ensures.gains in
    let (first, before, on) = c.in_ok-parts.ensures.comes in
    let e = c.in_err-body.field-0.0 in
    let old = c.args.self.now.unread.items in
    let stream : c.start.new.self.unread.items ++ first ≡ old ++ (begun ++ first) = ap (λ (xs : List ℕ). xs ++ first) more.0 ∙ append_assoc old begun first in
    let come = subst (λ (s : List ℕ). Comes c.args.connection.now s c.read_head.new.connection c.read_head.new.self.unread.items []) stream on in
    passed (Breaks g.R.Read.remaining c.args.self.now c.read_body.new.self (LacksAnswer may c.args.connection.now)) c.from_residual-in_err-body.result e c.from_residual-in_err-body.ensures.1
    (breaks_after g.R.Read.remaining c.args.self.now c.read_head.new.self c.read_body.new.self (LacksAnswer may c.read_head.new.connection) (LacksAnswer may c.args.connection.now) (begun ++ first)
    (Consumes-trans _ _ _ begun first more.1 before)
    (λ came. comes_lacks may c.args.connection.now c.read_head.new.connection (old ++ (begun ++ first)) c.read_head.new.self.unread.items came [] [] come)
    e c.in_err-body.ensures.malformed)

pub returns-in_err-parts-clause-failed : goal.returns-in_err-parts-clause-failed
returns-in_err-parts-clause-failed g c =
    let may = g.R.ReaderCalls.may_read in
    let old = c.args.self.now.unread.items in
    let e = c.in_err-parts.field-0.0 in
    passed (IsReadError may old) c.from_residual-in_err-parts.result e c.from_residual-in_err-parts.ensures.1
    (read_fault may old e c.in_err-parts.ensures.failed c.in_ok-start.ensures.answered)

pub returns-in_err-body-clause-failed : goal.returns-in_err-body-clause-failed
returns-in_err-body-clause-failed g c =
    let may = g.R.ReaderCalls.may_read in
    let old = c.args.self.now.unread.items in
    let e = c.in_err-body.field-0.0 in
    passed (IsReadError may old) c.from_residual-in_err-body.result e c.from_residual-in_err-body.ensures.1
    (read_fault may old e c.in_err-body.ensures.failed c.in_ok-start.ensures.answered)
