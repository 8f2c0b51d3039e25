-- The answer to a request that was written whole.
use Rattle.std.proofs.Common.{◌≡◌, ◌↔◌, ◌&&◌, IsTrue, ℕ, List, length, Vec, ◌∙◌}
use Rattle.std.specs.declared.alloc.Global.{Global}
use Rattle.http.specs.declared.request.Parts as Request
use Rattle.http.specs.declared.response.Response.{Response}
use Rattle.http1.specs.declared.conn.BodySize.TheVariants.{Known}
use Rattle.http1.specs.Conn.{after_data}
use Rattle.http1.specs.declared.client.Client.{Client}
use Rattle.http1.specs.Client.{new_client, with_writing, writing, IsIdle}
use Rattle.http1.specs.Framing.{method_kind}
use Rattle.http1.specs.ClientTrace.{Seen, Trace, writes, requests, sends, finishes}
use Rattle.http1.proofs.ClientTraceLemmas.{trace_reads_answers}
use Rattle.otel_otlp.specs.StreamClient.{limits, started, asking, headers_of, Answers, is_kept, keeps_open, Replies}

module _ (p : Request.Parts) (body : List ℕ) (stream : List ℕ) (rest : List ℕ) where
  -- what is seen after the request was written is seen by a new connection that writes it
  from_new : (seen : Seen) → Trace (asking p body) stream seen rest → Trace (new_client limits) stream seen rest
  from_new seen t =
      let begun = started p body in
      let sent = with_writing begun (after_data (writing begun) (length body)) in
      writes (new_client limits) begun stream seen rest (requests p.method (Known (length body)) (headers_of p))
      (writes begun sent stream seen rest (sends (length body)) (writes sent (asking p body) stream seen rest finishes t))

  pub answers_from : (now : Client) (answer : Response (Vec ℕ Global)) → (asking p body).method ≡ method_kind p.method → Replies (asking p body) stream now answer rest
      → (told : Answers p stream answer rest) × (IsIdle now ↔ IsTrue (is_kept (asking p body) && keeps_open told.last))
  answers_from now answer method r =
      let found = trace_reads_answers limits stream _ rest (from_new _ r.trace) in (
        record {
          responses = found.0;
          reads = found.1;
          interim = r.interim;
          are_interim = r.are_interim;
          last = r.last;
          seen = found.2;
          is_final = r.is_final;
          method = r.method ∙ method;
          parts = r.parts;
          body = r.body;
          within = r.within;
        },
        r.keeps,
      )

-- the two reasons in place of the connection
pub opens : (free idle kept none : Type 0) → free ↔ (idle × none) → idle ↔ kept → free ↔ (kept × none)
opens free idle kept none a b = (λ is. (b.0 (a.0 is).0, (a.0 is).1), λ is. a.1 (b.1 is.0, is.1))
